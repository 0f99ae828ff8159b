-- `pr`: the PR line over words. The idea: what is left of the loop is what is left of the turns. Assumes nothing.
use native.Mathlib.Omega.{arith}
use borrow.Author.Tests.{not-true, not-false}
use Rattle.meaning.specs.Words.{in_word}
use Rattle.truth_rules.proofs.LineWords.{turns-all, turn-fails, turn-passes, pr-says}
use Rattle.truth_rules.proofs.pr.Goals as goal

pub returns-then-not-t-clause-line_says : goal.returns-then-not-t-clause-line_says
returns-then-not-t-clause-line_says c = pr-says c.args.g c.negate-not.result (omega (arith, c.ranges.g))
    c.requires.3 c.negate-not.ensures (in_word c.args.witness.positive)
    (in_word c.args.witness.negative) c.args.live.now c.all_by.new.to
    c.all_by.ensures _ (turn-fails _ _ _ _ c.loop-f.f-index c.loop-f.rounds
    c.loop-f.invariant.2 c.loop-f-test.true c.turn-t.result
    c.turn-t.ensures.says (not-true _ c.if-not-t.true))

pub loop-f-preserved : goal.loop-f-preserved
loop-f-preserved c = (
  omega (arith, c.turn-t.auto.second, c.loop-f.invariant.0),
  omega (arith, c.turn-t.auto.second, c.loop-f.invariant.1),
  turn-passes _ _ _ _ c.loop-f.f-index c.loop-f.rounds
      c.loop-f.invariant.2 c.loop-f-test.true c.turn-t.result
      c.turn-t.ensures.says (not-false _ c.if-not-t.false) c.turn-t.ensures.rounds_bound,
)

pub returns-clause-line_says : goal.returns-clause-line_says
returns-clause-line_says c = pr-says c.args.g c.negate-not.result
    (omega (arith, c.ranges.g)) c.requires.3 c.negate-not.ensures
    (in_word c.args.witness.positive) (in_word c.args.witness.negative)
    c.args.live.now c.all_by.new.to c.all_by.ensures _
    (turns-all _ _ _ _ c.loop-f.f-index c.loop-f.rounds c.loop-f.invariant.2 (omega (arith, c.loop-f-test.false)))
