-- `ended`: the ways out are laws of Lines. Assumes nothing.
use borrow.Author.Tests.{not-true, not-false}
use Rattle.steps.proofs.Lines.{ended-23, ended-19, ended-next}
use Rattle.steps.proofs.line.ended.Goals as goal

pub returns-then-j : goal.returns-then-j
returns-then-j c = let all = let s = c.args in ended-23 s.members.now s.st s.j s.g.0 _
    c.greater-peak.ensures c.if-j.true in record { value = all.0; members_after = all.1 }

pub returns-then-not-j : goal.returns-then-not-j
returns-then-not-j c =
    let all = let s = c.args in
    ended-19 s.members.now s.st s.j s.g.0 _ c.greater-peak.ensures c.if-j.false
    (not-true _ c.if-not-j.true) in record { value = all.0; members_after = all.1 }

pub returns : goal.returns
returns c =
    let all = let s = c.args in
    ended-next s.members.now s.st s.j s.g.0 _ c.greater-peak.ensures c.if-j.false
    (not-false _ c.if-not-j.false) c.with_line.result
    c.with_line.ensures in record { value = all.0; members_after = all.1 }
