-- `load`: after i turns a column holds the field of the first i nodes, and then what it held. Assumes nothing.
use mathlib.Core.Path.{◌≡◌}
use Rattle.columns.proofs.Lists.{var_of, low_of, high_of, column}
use Rattle.columns.proofs.load.Given as goal

abbrev pub invariant-loop-i : goal.invariant-loop-i
invariant-loop-i l = (l.vars ≡ column var_of l.nodes l.initial.vars l.i) × (l.lows ≡ column low_of l.nodes l.initial.lows l.i)
    × (l.highs ≡ column high_of l.nodes l.initial.highs l.i)
