-- The walk to the end of a line: the line in which the place is ends where that of the place reached does. Assumes nothing.
use mathlib.Core.Path.{◌≡◌}
use Rattle.dimacs.specs.Text.{line_end}
use Rattle.pieces.proofs.line_end.Given as goal

abbrev pub invariant-loop-i : goal.invariant-loop-i
invariant-loop-i l = line_end l.s l.at ≡ line_end l.s l.i
