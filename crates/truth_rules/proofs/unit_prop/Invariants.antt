-- `unit_prop`: UnitProp over words. The idea: each round is the definition's, and six rounds are enough. Assumes nothing.
use Rattle.truth_rules.proofs.Propagation.{Onward}
use Rattle.truth_rules.proofs.unit_prop.Given as goal

abbrev pub invariant-loop-rounds : goal.invariant-loop-rounds
invariant-loop-rounds l = Onward l.initial.list l.list l.rounds
