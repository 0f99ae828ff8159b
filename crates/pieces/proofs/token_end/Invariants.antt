-- The walk to the end of a token: the token in which the place is ends where that of the place reached does. Assumes nothing.
use mathlib.Core.Path.{◌≡◌}
use Rattle.dimacs.specs.Text.{token_end}
use Rattle.pieces.proofs.token_end.Given as goal

abbrev pub invariant-loop-i : goal.invariant-loop-i
invariant-loop-i l = token_end l.s l.at ≡ token_end l.s l.i
