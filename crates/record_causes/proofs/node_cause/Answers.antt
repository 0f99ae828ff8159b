-- `node_cause`: the two entries' nodes are inside the table, and the child's variable is the cause's. Assumes nothing.
use Rattle.state.specs.States.{lent_of}
use Rattle.record_causes.proofs.Told.{told-inside, node-told}
use Rattle.record_causes.proofs.node_cause.Goals as goal

pub child_variable-requires : goal.child_variable-requires
child_variable-requires c =
    let x = c.args in (
      c.requires.0,
      told-inside x.scratch.now x.st.entries x.st.count c.requires.2 c.requires.0.least c.requires.1 x.b.low.0 _ c.requires.3
          c.entry_node-low.ensures,
      told-inside x.scratch.now x.st.entries x.st.count c.requires.2 c.requires.0.least c.requires.1 x.b.high.0 _ c.requires.4
          c.entry_node-high.ensures,
    )

pub returns : goal.returns
returns c = λ ds ks ms ss.
    let x = c.args in
    node-told (lent_of x.vars.now x.lows.now x.highs.now ds ks ms x.scratch.now ss) x.st x.b _ _ _
    c.entry_node-low.ensures c.entry_node-high.ensures c.child_variable.ensures
