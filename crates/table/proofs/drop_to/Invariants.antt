-- `drop_to` leaves the table of the first nodes: one node is taken out at each turn (IndexStores). Assumes nothing.
use Rattle.table.specs.Indexed.{table_of}
use Rattle.table.proofs.IndexStores.{Dropping}
use Rattle.table.proofs.drop_to.Given as goal

abbrev pub invariant-loop-k : goal.invariant-loop-k
invariant-loop-k l =
    Dropping (table_of l.initial.vars l.initial.lows l.initial.highs l.initial.heads l.initial.links l.count)
    (table_of l.vars l.lows l.highs l.heads l.links l.k) l.keep

abbrev pub decreases-loop-k : goal.decreases-loop-k
decreases-loop-k l =
    l.k
