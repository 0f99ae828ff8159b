-- `shut_cause`: the line's node is inside the table and shut under the witness, and the word is the cause's assignment. Assumes nothing.
use mathlib.Core.Path.{sym, subst}
use Prim.Native.Nat.{ℕ}
use Rattle.table.specs.Nodes.{diagram_at}
use Rattle.walks.specs.Readable.{nodes_in}
use Rattle.state.specs.States.{lent_of}
use Rattle.why.specs.Greedy.{Shut}
use Rattle.record_causes.proofs.Told.{told-inside, shut-told}
use Rattle.record_causes.proofs.shut_cause.Goals as goal

pub smallest_false-requires : goal.smallest_false-requires
smallest_false-requires c =
    let x = c.args in (
      c.requires.readable.0,
      told-inside x.scratch.now x.st.entries x.st.count c.requires.readable.2 c.requires.readable.0.least c.requires.readable.1 x.root.0 _
          c.requires.readable.3
          c.entry_node-g.ensures,
      c.requires.readable.4,
      c.requires.readable.5,
      subst
          (λ (k : ℕ). Shut x.variables (diagram_at (nodes_in x.vars.now x.lows.now x.highs.now x.st.count) k)
          x.st.witness)
          (sym c.entry_node-g.ensures)
          c.requires.fact,
    )

pub returns : goal.returns
returns c =
    let a = c.before.before.before.before.before in
    let x = a.args in record {
      g_value = λ ds ks ms ss. shut-told (lent_of x.vars.now x.lows.now x.highs.now ds ks ms x.scratch.now ss) x.st x.variables
          x.root.0
          _
          _
          c.entry_node-g.ensures
          c.smallest_false.ensures.result_value;
      by_index = c.smallest_false.ensures.by_index;
    }
