-- The walk ends, for a child has a smaller number. Assumes nothing.
use Prim.Native.Nat.{◌≤◌}
use Rattle.supports.proofs.forced.is_thin.Given as goal

abbrev pub invariant-loop-k : goal.invariant-loop-k
invariant-loop-k l = l.k ≤ l.initial.k

abbrev pub decreases-loop-k : goal.decreases-loop-k
decreases-loop-k l = l.k
