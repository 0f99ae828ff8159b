-- `some_negated`: a listed word whose negation is listed. The idea: only a word whose negation's key is marked is searched for. Assumes
-- nothing.
use Rattle.truth_rules.proofs.Conflicts.{NoneNegated}
use Rattle.truth_rules.proofs.conflict.some_negated.Given as goal

abbrev pub invariant-loop-w : goal.invariant-loop-w
invariant-loop-w l = NoneNegated l.list l.w-index
