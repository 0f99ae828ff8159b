-- `value_of` gives the node's value. The invariant: the node that the walk is at has the value asked for. Assumes nothing.
use mathlib.Core.Path.{◌≡◌}
use Prim.Native.Nat.{◌<◌}
use Rattle.walks.specs.Readable.{nodes_in, value_under}
use Rattle.walks.proofs.value_of.Given as goal

abbrev pub invariant-loop-k : goal.invariant-loop-k
invariant-loop-k l = (l.k < l.count)
    × (value_under (nodes_in l.vars l.lows l.highs l.count) l.k l.word ≡ value_under (nodes_in l.vars l.lows l.highs l.count) l.initial.k
    l.word)

abbrev pub decreases-loop-k : goal.decreases-loop-k
decreases-loop-k l = l.k
