-- `reached` tells where the walk down a node's chain comes to it. Assumes nothing.
use Rattle.table.specs.Indexed.{table_of}
use Rattle.good_order.proofs.Testing.{Walking}
use Rattle.good_order.proofs.reached.Given as goal

abbrev pub invariant-loop-j : goal.invariant-loop-j
invariant-loop-j l = Walking (table_of l.vars l.lows l.highs l.heads l.links l.count) l.k l.j

abbrev pub decreases-loop-j : goal.decreases-loop-j
decreases-loop-j l = l.j
