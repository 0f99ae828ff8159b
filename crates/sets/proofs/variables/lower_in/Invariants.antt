-- `lower_in` stops at the set's greatest variable below v. The loop: what is to be found is what is left to be found. Assumes nothing.
use mathlib.Core.Path.{◌≡◌}
use Prim.Native.Nat.{◌≤◌, suc}
use Rattle.sets.specs.Variables.{lower}
use Rattle.sets.proofs.variables.lower_in.Given as goal

abbrev pub invariant-loop-w : goal.invariant-loop-w
invariant-loop-w l = (l.w ≤ 64) × (lower l.set l.v ≡ lower l.set (suc l.w))

abbrev pub decreases-loop-w : goal.decreases-loop-w
decreases-loop-w l = l.w
