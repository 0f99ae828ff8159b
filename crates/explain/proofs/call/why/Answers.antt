-- `why`: 7 by the sizes, 30 for a check that did not refuse, else the explanation. Assumes nothing.
use mathlib.Core.Path.{sym, ap, ◌∙◌}
use native.Mathlib.Omega.{arith}
use lib.ListN.{length}
use Rattle.table.specs.Columns.{Columns, columns_made}
use Rattle.verdict.specs.Check.{zeros}
use Rattle.explain.specs.Why.{why_outcome}
use Rattle.explain.proofs.Calls.{answered-short, answered-7, answered-30, answered-why, explained-asks}
use Rattle.explain.proofs.call.why.Goals as goal

pub returns-then-fixed-lt128 : goal.returns-then-fixed-lt128
returns-then-fixed-lt128 c =
    let lent : Columns =
    let a = c.args in columns_made a.vars.now a.lows.now a.highs.now a.heads.now a.links.now in
    ap (why_outcome lent c.args.members.now c.args.struck.now c.args.scratch.now c.args.fixed.now)
    c.why_nothing.ensures
    ∙ answered-short c.args.mode lent c.args.count c.args.members.now c.args.struck.now c.args.scratch.now
    c.args.fixed.now c.args.formula.now c.args.proof.now c.if-fixed-lt128.true

pub shape_of-vars-then-checked-eq7 : goal.shape_of-vars-then-checked-eq7
shape_of-vars-then-checked-eq7 c =
    c.call-checked.auto.vars

pub shape_of-lows-then-checked-eq7 : goal.shape_of-lows-then-checked-eq7
shape_of-lows-then-checked-eq7 c =
    c.call-checked.auto.lows

pub shape_of-highs-then-checked-eq7 : goal.shape_of-highs-then-checked-eq7
shape_of-highs-then-checked-eq7 c =
    c.call-checked.auto.highs

pub shape_of-heads-then-checked-eq7 : goal.shape_of-heads-then-checked-eq7
shape_of-heads-then-checked-eq7 c =
    c.call-checked.auto.heads

pub shape_of-links-then-checked-eq7 : goal.shape_of-links-then-checked-eq7
shape_of-links-then-checked-eq7 c =
    c.call-checked.auto.links

pub shape_of-members-then-checked-eq7 : goal.shape_of-members-then-checked-eq7
shape_of-members-then-checked-eq7 c =
    c.call-checked.auto.members

pub shape_of-scratch-then-checked-eq7 : goal.shape_of-scratch-then-checked-eq7
shape_of-scratch-then-checked-eq7 c =
    c.call-checked.auto.scratch

pub shape_of-struck-then-checked-eq7 : goal.shape_of-struck-then-checked-eq7
shape_of-struck-then-checked-eq7 c =
    c.call-checked.auto.struck

pub returns-then-checked-eq7 : goal.returns-then-checked-eq7
returns-then-checked-eq7 c =
    let lent : Columns =
    let a = c.args in columns_made a.vars.now a.lows.now a.highs.now a.heads.now a.links.now in
    let left : Columns =
    let p = c.call-checked.new in columns_made p.vars p.lows p.highs p.heads p.links in
    ap (why_outcome left c.call-checked.new.members c.call-checked.new.struck
    c.call-checked.new.scratch c.args.fixed.now) c.why_nothing-then-checked-eq7.ensures
    ∙ answered-7 c.args.mode lent c.args.count c.args.members.now c.args.struck.now c.args.scratch.now
    c.args.formula.now c.args.proof.now left c.call-checked.new.members
    c.call-checked.new.struck c.call-checked.new.scratch c.call-checked.result c.call-checked.ensures
    c.args.fixed.now c.if-checked-eq7.true

pub shape_of-vars-then-checked-eq0 : goal.shape_of-vars-then-checked-eq0
shape_of-vars-then-checked-eq0 c =
    c.call-checked.auto.vars

pub shape_of-lows-then-checked-eq0 : goal.shape_of-lows-then-checked-eq0
shape_of-lows-then-checked-eq0 c =
    c.call-checked.auto.lows

pub shape_of-highs-then-checked-eq0 : goal.shape_of-highs-then-checked-eq0
shape_of-highs-then-checked-eq0 c =
    c.call-checked.auto.highs

pub shape_of-heads-then-checked-eq0 : goal.shape_of-heads-then-checked-eq0
shape_of-heads-then-checked-eq0 c =
    c.call-checked.auto.heads

pub shape_of-links-then-checked-eq0 : goal.shape_of-links-then-checked-eq0
shape_of-links-then-checked-eq0 c =
    c.call-checked.auto.links

pub shape_of-members-then-checked-eq0 : goal.shape_of-members-then-checked-eq0
shape_of-members-then-checked-eq0 c =
    c.call-checked.auto.members

pub shape_of-scratch-then-checked-eq0 : goal.shape_of-scratch-then-checked-eq0
shape_of-scratch-then-checked-eq0 c =
    c.call-checked.auto.scratch

pub shape_of-struck-then-checked-eq0 : goal.shape_of-struck-then-checked-eq0
shape_of-struck-then-checked-eq0 c =
    c.call-checked.auto.struck

pub shape_of-fixed-then-checked-eq0 : goal.shape_of-fixed-then-checked-eq0
shape_of-fixed-then-checked-eq0 c =
    c.clear_words.auto.words

pub returns-then-checked-eq0 : goal.returns-then-checked-eq0
returns-then-checked-eq0 c =
    let lent : Columns =
    let a = c.args in columns_made a.vars.now a.lows.now a.highs.now a.heads.now a.links.now in
    let left : Columns =
    let p = c.call-checked.new in columns_made p.vars p.lows p.highs p.heads p.links in
    ap (why_outcome left c.call-checked.new.members c.call-checked.new.struck
    c.call-checked.new.scratch c.clear_words.new.words) c.why_nothing-then-checked-eq0.ensures
    ∙ answered-30 c.args.mode lent c.args.count c.args.members.now c.args.struck.now c.args.scratch.now
    c.args.formula.now c.args.proof.now left c.call-checked.new.members
    c.call-checked.new.struck c.call-checked.new.scratch c.call-checked.result c.call-checked.ensures
    c.if-checked-eq7.false c.args.fixed.now c.if-fixed-lt128.false c.if-checked-eq0.true
    c.clear_words.new.words
    c.clear_words.ensures

pub explained-requires : goal.explained-requires
explained-requires c =
    let lent : Columns =
    let a = c.args in columns_made a.vars.now a.lows.now a.highs.now a.heads.now a.links.now in
    let left : Columns =
    let p = c.call-checked.new in columns_made p.vars p.lows p.highs p.heads p.links in
    explained-asks c.args.mode lent c.args.count c.args.members.now c.args.struck.now c.args.scratch.now
    c.args.formula.now c.args.proof.now left c.call-checked.new.members
    c.call-checked.new.struck c.call-checked.new.scratch c.call-checked.result c.call-checked.ensures
    c.if-checked-eq7.false (length left.vars) c.call-checked.auto.vars c.call-checked.auto.vars
    c.call-checked.auto.members
    c.call-checked.auto.scratch c.if-checked-eq0.false c.clear_words.new.words
    (omega (arith, c.clear_words.auto.words, c.if-fixed-lt128.false))
    (c.clear_words.ensures ∙ ap zeros (sym c.clear_words.auto.words))

pub shape_of-vars : goal.shape_of-vars
shape_of-vars c =
    c.explained.auto.vars ∙ c.call-checked.auto.vars

pub shape_of-lows : goal.shape_of-lows
shape_of-lows c =
    c.explained.auto.lows ∙ c.call-checked.auto.lows

pub shape_of-highs : goal.shape_of-highs
shape_of-highs c =
    c.explained.auto.highs ∙ c.call-checked.auto.highs

pub shape_of-heads : goal.shape_of-heads
shape_of-heads c =
    c.explained.auto.heads ∙ c.call-checked.auto.heads

pub shape_of-links : goal.shape_of-links
shape_of-links c =
    c.explained.auto.links ∙ c.call-checked.auto.links

pub shape_of-members : goal.shape_of-members
shape_of-members c =
    c.explained.auto.members ∙ c.call-checked.auto.members

pub shape_of-scratch : goal.shape_of-scratch
shape_of-scratch c =
    c.explained.auto.scratch ∙ c.call-checked.auto.scratch

pub shape_of-struck : goal.shape_of-struck
shape_of-struck c =
    c.explained.auto.struck ∙ c.call-checked.auto.struck

pub shape_of-fixed : goal.shape_of-fixed
shape_of-fixed c =
    c.explained.auto.fixed ∙ c.clear_words.auto.words

pub returns : goal.returns
returns c =
    let lent : Columns =
    let a = c.args in columns_made a.vars.now a.lows.now a.highs.now a.heads.now a.links.now in
    let left : Columns =
    let p = c.call-checked.new in columns_made p.vars p.lows p.highs p.heads p.links in
    let p = c.explained.new in
    answered-why c.args.mode lent c.args.count c.args.members.now c.args.struck.now c.args.scratch.now
    c.args.formula.now c.args.proof.now left c.call-checked.new.members
    c.call-checked.new.struck c.call-checked.new.scratch c.call-checked.result c.call-checked.ensures
    c.if-checked-eq7.false c.args.fixed.now c.if-fixed-lt128.false (length left.vars)
    (length c.clear_words.new.words)
    c.call-checked.auto.vars c.clear_words.auto.words
    (why_outcome (columns_made p.vars p.lows p.highs p.heads p.links) p.members
    p.struck p.scratch p.fixed c.explained.result) c.explained.ensures
