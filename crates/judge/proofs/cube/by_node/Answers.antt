-- A conjunction of literals is one by its literals; else the node's own. Assumes nothing.
use Rattle.judge.proofs.CubeWalks.{cube-by-node}
use Rattle.judge.proofs.cube.by_node.Goals as goal

pub returns-then-cube : goal.returns-then-cube
returns-then-cube c =
    let a = c.args in
    cube-by-node a.vars.now a.lows.now a.highs.now a.count c.requires.0 a.n.0 c.requires.1 c.literals_of-cube.result.literals
    (c.literals_of-cube.ensures c.if-cube.true)
