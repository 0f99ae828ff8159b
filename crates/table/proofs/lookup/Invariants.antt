-- `lookup` finds by the index what the walk from place 2 finds: the loop goes down one chain (Chain). Assumes nothing.
use Rattle.table.specs.Nodes.{node_of}
use Rattle.table.specs.Indexed.{table_of}
use Rattle.table.proofs.Chain.{Chain}
use Rattle.table.proofs.lookup.Given as goal

abbrev pub invariant-loop-k : goal.invariant-loop-k
invariant-loop-k l =
    Chain (table_of l.vars l.lows l.highs l.heads l.links l.count) (node_of l.v l.l.0 l.h.0) l.k

abbrev pub decreases-loop-k : goal.decreases-loop-k
decreases-loop-k l =
    l.k
