-- `move_all` moves one cell after the other. The invariant: all cells have been moved about (Cells). Assumes nothing.
use Rattle.std.proofs.Common.{◌≤◌}
use Rattle.memo.specs.Memo.{Moved}
use Rattle.memo.proofs.move_all.Given as goal

abbrev pub invariant-loop-c : goal.invariant-loop-c
invariant-loop-c l = (l.c ≤ l.m) × Moved l.initial.memo l.n l.memo

abbrev pub decreases-loop-c : goal.decreases-loop-c
decreases-loop-c l = l.c
