-- `line_step`: refused, or the root is the next member. Assumes nothing.
use native.Mathlib.Omega.{arith}
use borrow.Author.Tests.{not-true, not-false}
use Rattle.std.proofs.lemmas.Result.{err_from_is_err_and}
use Rattle.small.proofs.LineWays.{line_refused, root-other, few-lines, line-19, line-next}
use Rattle.small.proofs.line.line_step.Goals as goal

pub judge_live-j-requires : goal.judge_live-j-requires
judge_live-j-requires c = (
  omega (arith, c.requires.many, c.requires.lines),
  c.requires.room,
  c.requires.marked,
  c.requires.places,
  root-other 6 c.args.members.now c.args.struck.now
      c.args.scratch.now c.args.st c.args.rule
      c.args.root.0 c.requires
      c.line_test.result
      (c.line_test.ensures c.args.members.now
      c.args.struck.now) c.in_ok-g.g c.in_ok-g.was,
)

pub returns-then-not-j : goal.returns-then-not-j
returns-then-not-j c = λ n H. rw c.from.ensures (line-19 n c.args.members.now c.args.struck.now
    c.args.scratch.now c.args.st c.args.rule
    c.args.root.0 H c.line_test.result
    (c.line_test.ensures c.args.members.now c.args.struck.now)
    c.in_ok-g.g c.in_ok-g.was c.judge_live-j.result
    c.judge_live-j.ensures.fact (not-true _ c.if-not-j.true) _)

pub bounds-members-m : goal.bounds-members-m
bounds-members-m c = omega (
  arith,
  few-lines 6 c.args.members.now c.args.struck.now
      c.args.scratch.now c.args.st c.args.rule
      c.args.root.0 c.requires c.line_test.result
      (c.line_test.ensures c.args.members.now c.args.struck.now)
      c.in_ok-g.g c.in_ok-g.was,
  c.requires.room,
  c.requires.many,
)

pub bounds-struck-m : goal.bounds-struck-m
bounds-struck-m c = omega (
  arith,
  few-lines 6 c.args.members.now c.args.struck.now
      c.args.scratch.now c.args.st c.args.rule
      c.args.root.0 c.requires c.line_test.result
      (c.line_test.ensures c.args.members.now c.args.struck.now)
      c.in_ok-g.g c.in_ok-g.was,
  c.requires.room,
  c.requires.many,
  c.requires.marked,
)

pub returns-in_err-g : goal.returns-in_err-g
returns-in_err-g c =
    let p = err_from_is_err_and c.from_residual.result c.from_residual.ensures.1 in
    λ n H. rw (p.1, p.2) (line_refused n c.args.members.now c.args.struck.now
    c.args.scratch.now c.args.st c.args.rule
    c.args.root.0 H c.line_test.result
    (c.line_test.ensures c.args.members.now c.args.struck.now) _
    c.in_err-g.was _)

pub returns : goal.returns
returns c = λ n H. line-next n c.args.members.now c.args.struck.now
    c.args.scratch.now c.args.st c.args.rule
    c.args.root.0 H c.line_test.result
    (c.line_test.ensures c.args.members.now c.args.struck.now)
    c.in_ok-g.g c.in_ok-g.was c.judge_live-j.result
    c.judge_live-j.ensures.fact (not-false _ c.if-not-j.false)
    c.judge_live-j.ensures.rounds_bound c.with_line.result c.with_line.ensures
    c.judge_live-j.new.scratch c.judge_live-j.auto.scratch
