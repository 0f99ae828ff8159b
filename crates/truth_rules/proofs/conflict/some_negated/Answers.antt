-- `some_negated`: a listed word whose negation is listed. The idea: only a word whose negation's key is marked is searched for. Assumes
-- nothing.
use native.Mathlib.Omega.{arith}
use Rattle.truth_rules.proofs.Conflicts.{negated-next, negated-at, negated-none}
use Rattle.truth_rules.proofs.conflict.some_negated.Goals as goal

pub returns-then-is_met : goal.returns-then-is_met
returns-then-is_met c = negated-at c.args.list.now c.loop-w.w-index c.negate.result
    c.is_met.result c.loop-w-test.true c.negate.ensures c.is_met.ensures
    c.if-is_met.true

pub loop-w-preserved : goal.loop-w-preserved
loop-w-preserved c = negated-next c.args.list.now
    c.loop-w.w-index c.negate.result c.is_met.result c.loop-w.invariant
    c.negate.ensures c.is_met.ensures c.if-is_met.false

pub returns : goal.returns
returns c = negated-none c.args.list.now c.loop-w.w-index (omega (arith, c.loop-w-test.false)) c.loop-w.invariant
