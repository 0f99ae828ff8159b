-- `nodes_fit` tells whether all nodes and their links are as good order asks. Assumes nothing.
use Prim.Native.Nat.{◌≤◌}
use Rattle.table.specs.Indexed.{table_of}
use Rattle.good_order.specs.Tested.{NodesFit}
use Rattle.good_order.proofs.nodes_fit.Given as goal

abbrev pub invariant-loop-k : goal.invariant-loop-k
invariant-loop-k l = (2 ≤ l.k) × (l.k ≤ l.count) × NodesFit (table_of l.vars l.lows l.highs l.heads l.links l.count) l.k
