-- `clear_places` leaves the places empty. The invariant: those passed are (Cells). Assumes nothing.
use Rattle.std.proofs.Common.{◌-◌, ◌≤◌}
use Rattle.memo.specs.Memo.{Cleared}
use Rattle.memo.proofs.clear_places.Given as goal

abbrev pub invariant-loop-i : goal.invariant-loop-i
invariant-loop-i l = (l.from ≤ l.i) × Cleared l.initial.memo l.from l.i l.memo

abbrev pub decreases-loop-i : goal.decreases-loop-i
decreases-loop-i l = l.to - l.i
