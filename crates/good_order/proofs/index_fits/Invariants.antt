-- `index_fits` tells whether each node is on the walk down its chain, behind no node like it, and each head 0 or a node of its chain.
-- Assumes nothing.
use Prim.Native.Nat.{◌≤◌}
use mathlib.Core.Path.{◌≡◌}
use lib.ListN.{length}
use Rattle.table.specs.Indexed.{table_of}
use Rattle.good_order.specs.Tested.{AllInChain, many}
use Rattle.good_order.proofs.Counting.{own}
use Rattle.good_order.proofs.index_fits.Given as goal

abbrev pub invariant-loop-k : goal.invariant-loop-k
invariant-loop-k l =
    (2 ≤ l.k) × (l.k ≤ l.count) × AllInChain (table_of l.vars l.lows l.highs l.heads l.links l.count) l.k
    × (l.first ≡ many (own (table_of l.vars l.lows l.highs l.heads l.links l.count) l.k) (length l.heads))
