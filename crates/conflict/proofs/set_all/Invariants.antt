-- The walk over the list: what is to be set is what is left to be set. Assumes nothing.
use mathlib.Core.Path.{◌≡◌}
use Prim.Native.Nat.{◌-◌, ◌≤◌}
use lib.ListN.{length, drop}
use Rattle.conflict.specs.Marks.{set_all}
use Rattle.conflict.proofs.set_all.Given as goal

abbrev pub invariant-loop-i : goal.invariant-loop-i
invariant-loop-i l = (length l.marks ≡ length l.initial.marks) × (l.i ≤ length l.list)
    × (set_all l.mark l.initial.marks l.list ≡ set_all l.mark l.marks (drop l.i l.list))

abbrev pub decreases-loop-i : goal.decreases-loop-i
decreases-loop-i l = length l.list - l.i
