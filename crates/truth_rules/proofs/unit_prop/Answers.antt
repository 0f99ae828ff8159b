-- `unit_prop`: UnitProp over words. The idea: each round is the definition's, and six rounds are enough. Assumes nothing.
use native.Mathlib.Omega.{arith}
use Rattle.truth_rules.proofs.Propagation.{onward-none, at-conflict, at_none, at-round, at_last}
use Rattle.truth_rules.proofs.unit_prop.Goals as goal

pub loop-rounds-init : goal.loop-rounds-init
loop-rounds-init c = onward-none _

pub returns-then-conflicts-clause-says : goal.returns-then-conflicts-clause-says
returns-then-conflicts-clause-says c = at-conflict c.args.list.now c.loop-rounds.list c.loop-rounds.rounds
    c.loop-rounds.invariant c.loop-rounds-test.true c.conflicts.result
    c.conflicts.ensures c.if-conflicts.true

pub returns-in_default-clause-says : goal.returns-in_default-clause-says
returns-in_default-clause-says c = at_none c.args.list.now c.loop-rounds.list c.loop-rounds.rounds
    c.loop-rounds.invariant c.loop-rounds-test.true c.conflicts.result
    c.conflicts.ensures c.if-conflicts.false c.first_with_unit.result
    c.first_with_unit.ensures c.in_default.is

pub loop-rounds-preserved : goal.loop-rounds-preserved
loop-rounds-preserved c = at-round c.args.list.now c.loop-rounds.list
    c.loop-rounds.rounds c.loop-rounds.invariant c.loop-rounds-test.true
    c.conflicts.result c.conflicts.ensures c.if-conflicts.false
    c.first_with_unit.result c.first_with_unit.ensures c.in-Some.word
    c.in-Some.is (omega arith)
    c.all_by_units.new.list c.all_by_units.auto.list c.all_by_units.ensures

pub returns-clause-says : goal.returns-clause-says
returns-clause-says c = at_last c.args.list.now c.loop-rounds.list
    c.loop-rounds.rounds c.loop-rounds.invariant (omega (arith, c.loop-rounds-test.false))
    c.conflicts-shown.result c.conflicts-shown.ensures
