-- `clear_cells` leaves zeros. The invariant: the first i cells are zeros. Assumes nothing.
use mathlib.Core.Path.{◌≡◌}
use Prim.Native.Nat.{◌-◌, ◌≤◌}
use lib.ListN.{length}
use Rattle.walks.specs.Readable.{Cleared}
use Rattle.walks.proofs.clear_cells.Given as goal

abbrev pub invariant-loop-i : goal.invariant-loop-i
invariant-loop-i l = Cleared l.i l.memo × (l.i ≤ l.count) × (length l.memo ≡ length l.initial.memo)

abbrev pub decreases-loop-i : goal.decreases-loop-i
decreases-loop-i l = l.count - l.i
