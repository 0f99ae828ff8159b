-- Twice the node's number falls, and one more for the first.
use Prim.Native.Nat.{◌+◌, ◌*◌}
use Rattle.negate.proofs.+negation_from_negation_over.Given as goal

abbrev pub decreases-negation_from : goal.decreases-negation_from
decreases-negation_from l = 2 * l.f.0 + 1

abbrev pub decreases-negation_over : goal.decreases-negation_over
decreases-negation_over l = 2 * l.f.0
