-- The literals found and those of the node that the walk is at are the diagram's, and a child has a smaller number. Assumes nothing.
use Rattle.table.specs.Nodes.{diagram_at}
use Rattle.walks.specs.Readable.{nodes_in}
use Rattle.judge.proofs.CubeWalks.{Walking}
use Rattle.judge.proofs.cube.literals_of.Given as goal

abbrev pub invariant-loop-k : goal.invariant-loop-k
invariant-loop-k l =
    Walking (nodes_in l.vars l.lows l.highs l.count) l.count (diagram_at (nodes_in l.vars l.lows l.highs l.count) l.initial.k) l.positive
    l.negative l.k

abbrev pub decreases-loop-k : goal.decreases-loop-k
decreases-loop-k l = l.k
