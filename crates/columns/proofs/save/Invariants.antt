-- `save`: after i turns the first i nodes are those of the columns' first i places. Assumes nothing.
use mathlib.Core.Path.{◌≡◌}
use Rattle.columns.proofs.Lists.{slice}
use Rattle.columns.proofs.save.Given as goal

abbrev pub invariant-loop-i : goal.invariant-loop-i
invariant-loop-i l = (l.nodes ≡ slice l.vars l.lows l.highs l.initial.nodes l.i)
