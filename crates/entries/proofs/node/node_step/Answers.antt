-- `node_step`: the ways out are laws of Nodes. Assumes nothing.
use mathlib.Core.Path.{◌≡◌, refl, ap, ap₂, ◌∙◌, subst}
use mathlib.Core.List.{List, []}
use Prim.Native.Nat.{ℕ, ◌≤◌, ◌<◌}
use native.Mathlib.Omega.{arith}
use lib.ListN.{length, length-set}
use Rattle.table.specs.Nodes.{put}
use Rattle.table.specs.Indexed.{Table, table_of, size, nodes_of, Outcome, outcome_of, written}
use Rattle.walks.proofs.Here.{good-readable}
use Rattle.verdict.specs.Steps as check
use Rattle.verdict.specs.Steps.{entry_node}
use Rattle.entries.specs.declared.node.NodeTest.TheVariants.{Fits}
use Rattle.state.specs.States.{Lent, lent_of, state_of, state_with_entry}
use Rattle.entries.specs.Tests.{NodeTested}
use Rattle.entries.proofs.Stops.{node-fits}
use Rattle.entries.proofs.Entering.{few-there}
use Rattle.entries.proofs.Nodes.{node-refused, node-full, node_made}
use Rattle.entries.proofs.node.node_step.Reads as reads
use Rattle.entries.proofs.node.node_step.Lts as lts
use Rattle.entries.proofs.node.node_step.Tie as tie
use Rattle.entries.proofs.node.node_step.Goals as goal

module _ (s : lts.Start tie.the-claims reads.Pre reads.Post) (ms ss : List ℕ) where
  abbrev lent : Lent
  lent = lent_of s.args.vars.now s.args.lows.now s.args.highs.now s.args.heads.now s.args.links.now ms
      s.args.scratch.now ss

  abbrev state : check.State
  state = state_of lent s.args.st

  abbrev before : Table
  before = table_of s.args.vars.now s.args.lows.now s.args.highs.now s.args.heads.now s.args.links.now
      s.args.st.count

  room : s.args.st.entries ≤ length s.args.scratch.now
  room = omega (arith, s.requires.few, s.requires.room)

-- the record is not refused
module _ (c : lts.Past-After-known_told2 tie.the-claims reads.Pre reads.Post) (ms ss : List ℕ) where
  tested : NodeTested c.args.variables (state c.before.before.before.before.before.before.before.before ms ss) c.args.b
      (Fits c.in-Fits.low c.in-Fits.high)
  tested =
      subst (NodeTested c.args.variables (state c.before.before.before.before.before.before.before.before ms ss) c.args.b) c.in-Fits.is
      (c.node_test.ensures c.args.heads.now c.args.links.now ms ss)

  few : c.args.st.entries < 4096
  few = few-there (lent c.before.before.before.before.before.before.before.before ms ss) c.args.st
      (room c.before.before.before.before.before.before.before.before ms ss)
      (node-fits c.args.variables (state c.before.before.before.before.before.before.before.before ms ss) c.args.b tested.0).few

-- what placing the node leaves
module _ (c : lts.After-put tie.the-claims reads.Pre reads.Post) (ms ss : List ℕ) where
  abbrev outcome : Outcome
  outcome = outcome_of c.put-p.new.vars c.put-p.new.lows c.put-p.new.highs c.put-p.new.heads
      c.put-p.new.links c.put-p.result

  made :
      let c12 = c.before.before.before.before.before.before.before.before.before.before.before.before in
      outcome ≡ written (size (before c12.before.before
      ms ss))
      (put (size (before c12.before.before ms ss))
      (nodes_of (before c12.before.before ms ss))
      c.args.b.variable
      (entry_node (state c12.before.before ms ss)
      c.args.b.low.0) (entry_node
      (state c12.before.before ms ss)
      c.args.b.high.0))
  made =
      let c12 = c.before.before.before.before.before.before.before.before.before.before.before.before in
      c.put-p.ensures
      ∙ ap₂ (λ (l h : ℕ). written (size (before
      c12.before.before ms ss))
      (put (size (before c12.before.before ms ss))
      (nodes_of (before c12.before.before ms ss))
      c.args.b.variable l h))
      (tested c.before.before.before.before.before.before ms ss).1 (tested c.before.before.before.before.before.before ms ss).2

pub node_test-requires : goal.node_test-requires
node_test-requires c = (
  good-readable (before c.before.before.before.before.before.before.before [] []) c.requires.good,
  c.requires.inside,
  c.requires.few,
  c.requires.room,
)

pub put-p-requires : goal.put-p-requires
put-p-requires c = c.requires.good

pub shape_of-vars-then-p : goal.shape_of-vars-then-p
shape_of-vars-then-p c = c.put-p.auto.vars

pub shape_of-lows-then-p : goal.shape_of-lows-then-p
shape_of-lows-then-p c = c.put-p.auto.lows

pub shape_of-highs-then-p : goal.shape_of-highs-then-p
shape_of-highs-then-p c = c.put-p.auto.highs

pub shape_of-heads-then-p : goal.shape_of-heads-then-p
shape_of-heads-then-p c = c.put-p.auto.heads

pub shape_of-links-then-p : goal.shape_of-links-then-p
shape_of-links-then-p c = c.put-p.auto.links

pub shape_of-scratch-then-p : goal.shape_of-scratch-then-p
shape_of-scratch-then-p c = refl

pub returns-then-p : goal.returns-then-p
returns-then-p c =
    let c12 = c.before.before.before.before.before.before.before.before.before.before.before.before in
    let c24 = c12.before.before.before.before.before.before.before.before.before.before.before.before in
    λ ms ss H. node-full _ (lent
    c24.before.before.before ms ss) c.args.st c.args.b H
    (tested c12.before.before.before.before.before.before.before ms ss).0 (outcome c12.before ms ss) (made c12.before ms ss) _
    c.greater-peak.ensures c.if-p.true

pub offset_bounds-scratch-entries : goal.offset_bounds-scratch-entries
offset_bounds-scratch-entries c =
    let c12 = c.before.before.before.before.before.before.before.before.before.before.before.before in
    omega (
      arith,
      few
          c12.before.before.before.before.before.before.before.before [] [],
    )

pub bounds-scratch-entries : goal.bounds-scratch-entries
bounds-scratch-entries c =
    let c12 = c.before.before.before.before.before.before.before.before.before.before.before.before in
    omega
    (arith, few c12.before.before.before.before.before.before.before.before [] [], c.requires.room)

pub with_entry-requires : goal.with_entry-requires
with_entry-requires c = c.requires.few

pub shape_of-vars-in-Refused : goal.shape_of-vars-in-Refused
shape_of-vars-in-Refused c = refl

pub shape_of-lows-in-Refused : goal.shape_of-lows-in-Refused
shape_of-lows-in-Refused c = refl

pub shape_of-highs-in-Refused : goal.shape_of-highs-in-Refused
shape_of-highs-in-Refused c = refl

pub shape_of-scratch-in-Refused : goal.shape_of-scratch-in-Refused
shape_of-scratch-in-Refused c = refl

pub returns-in-Refused : goal.returns-in-Refused
returns-in-Refused c = λ ms ss H.
    let told = subst (NodeTested c.args.variables (state c.before.before.before.before.before.before.before.before.before ms ss) c.args.b)
    c.in-Refused.is
    (c.node_test.ensures c.args.heads.now c.args.links.now ms ss) in
    node-refused _ (lent c.before.before.before.before.before.before.before.before.before ms ss) c.args.st c.args.b H _ told.0 told.1

pub shape_of-vars-else-p : goal.shape_of-vars-else-p
shape_of-vars-else-p c = c.put-p.auto.vars

pub shape_of-lows-else-p : goal.shape_of-lows-else-p
shape_of-lows-else-p c = c.put-p.auto.lows

pub shape_of-highs-else-p : goal.shape_of-highs-else-p
shape_of-highs-else-p c = c.put-p.auto.highs

pub shape_of-heads : goal.shape_of-heads
shape_of-heads c = c.put-p.auto.heads

pub shape_of-links : goal.shape_of-links
shape_of-links c = c.put-p.auto.links

pub shape_of-scratch-else-p : goal.shape_of-scratch-else-p
shape_of-scratch-else-p c = length-set c.args.scratch.now c.args.st.entries
    c.put-p.result.node.0

pub returns-else-p : goal.returns-else-p
returns-else-p c =
    let c12 = c.before.before.before.before.before.before.before.before.before.before.before.before in
    let c24 = c12.before.before.before.before.before.before.before.before.before.before.before.before in
    λ ms ss H. node_made _ (lent
    c24.before.before.before.before.before ms ss) c.args.st c.args.b H
    (tested c12.before.before.before.before.before.before.before.before.before ms ss).0 (outcome c12.before.before.before ms ss)
    (made c12.before.before.before ms ss)
    c.if-p.false c.with_entry.result
    (c.with_entry.ensures ∙ ap (state_with_entry c.args.st
    (outcome c12.before.before.before ms
    ss).table.count)
    c.greater-peak.ensures)
