-- The zeros are counted block by block. Assumes nothing.
use mathlib.Core.Path.{◌≡◌}
use Prim.Native.Nat.{◌-◌, ◌≤◌}
use lib.ListN.{length}
use Rattle.good_order.specs.Tested.{zeros_in}
use Rattle.good_order.proofs.zeros.zeros_of.Given as goal

abbrev pub invariant-loop-b : goal.invariant-loop-b
invariant-loop-b l = (l.b ≤ length l.column) × (l.zeros ≡ zeros_in l.column l.b)

abbrev pub decreases-loop-b : goal.decreases-loop-b
decreases-loop-b l = length l.column - l.b
