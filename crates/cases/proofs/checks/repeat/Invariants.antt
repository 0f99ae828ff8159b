-- Repeating a piece stays within both slices and ends: the place goes up by one each turn.
use Rattle.std.specs.Prelude.{◌≡◌, ◌-◌, ◌<◌, length}
use Rattle.cases.proofs.checks.repeat.Given as goal

abbrev pub invariant-loop-i : goal.invariant-loop-i
invariant-loop-i l = (length l.bytes ≡ length l.initial.bytes) × (0 < length l.piece)

abbrev pub decreases-loop-i : goal.decreases-loop-i
decreases-loop-i l = length l.initial.bytes - l.i
