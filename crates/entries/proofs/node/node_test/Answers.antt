-- `node_test`: each way out is one law of Entries. Assumes nothing.
use mathlib.Core.Path.{◌≡◌, sym, ◌∙◌, subst}
use mathlib.Core.Bool.{true, false}
use mathlib.Core.List.{List, [], ◌∷◌}
use Prim.Native.Nat.{ℕ, ◌+◌, ◌≤◌, ◌<◌}
use native.Mathlib.Omega.{arith}
use lib.ListN.{length, get_or, take}
use lib.Dec.{leb}
use borrow.Author.Tests.{not-true, not-false, ltb-true}
use Rattle.verdict.specs.Steps as check
use Rattle.verdict.specs.Steps.{is_variable, is_entry}
use Rattle.state.specs.States.{Lent, lent_of, state_of}
use Rattle.entries.proofs.Entries.{is-variable, variable-zero, variable-beyond}
use Rattle.entries.proofs.Entries.{node-inside, node-is-at, above-is, entry-told, full-entries, few-entries, node-21, node-12}
use Rattle.entries.proofs.Entries.{node-13-low, node-13-high, node-14-low, node-14-high, node-0}
use Rattle.entries.proofs.node.node_test.Reads as reads
use Rattle.entries.proofs.node.node_test.Lts as lts
use Rattle.entries.proofs.node.node_test.Tie as tie
use Rattle.entries.proofs.node.node_test.Goals as goal

module _ (s : lts.Start tie.the-claims reads.Pre reads.Post) (ds ks ms ss : List ℕ) where
  abbrev lent : Lent
  lent = lent_of s.args.vars.now s.args.lows.now s.args.highs.now ds ks ms s.args.scratch.now ss

  abbrev state : check.State
  state = state_of lent s.args.st

  room : s.args.st.entries ≤ length s.args.scratch.now
  room = omega (arith, s.requires.2, s.requires.3)

-- the tests of the number of entries and of the variable are passed
module _ (c : lts.Else3 tie.the-claims reads.Pre reads.Post) (ds ks ms ss : List ℕ) where
  few : leb 4096 (length (state c.before.before.before.before.before.before.before ds ks ms ss).entries) ≡ false
  few = few-entries (lent c.before.before.before.before.before.before.before ds ks ms ss) c.args.st
      (room c.before.before.before.before.before.before.before ds ks ms ss) c.if-entries-ge4096.false

  variable : is_variable c.args.variables c.args.b.variable ≡ true
  variable = is-variable _ _ (omega (arith, c.if-v-lt1.false)) c.if-variables-v.false

-- both entries are there
module _ (c : lts.Else5 tie.the-claims reads.Pre reads.Post) (ds ks ms ss : List ℕ) where
  low :
      let c12 = c.before.before.before.before.before.before.before.before.before.before.before.before in
      is_entry (state c12.before ds ks ms ss)
      c.args.b.low.0 ≡ true
  low =
      let c12 = c.before.before.before.before.before.before.before.before.before.before.before.before in
      entry-told (lent c12.before ds ks ms ss) c.args.st
      (room c12.before ds ks ms ss) _ _ _
      c.is_entry.ensures
      (not-false _ c.if-not-is_entry.false-raw)

  high :
      let c12 = c.before.before.before.before.before.before.before.before.before.before.before.before in
      is_entry (state c12.before ds ks ms ss)
      c.args.b.high.0 ≡ true
  high =
      let c12 = c.before.before.before.before.before.before.before.before.before.before.before.before in
      entry-told (lent c12.before ds ks ms ss)
      c.args.st (room c12.before ds ks ms ss) _ _ _
      c.is_entry-2.ensures
      (not-false _ c.if-not-is_entry-2.false-raw)

  low-there : c.args.b.low.0 < c.args.st.entries + 2
  low-there = ltb-true _ _ (sym c.is_entry.ensures ∙ not-false _ c.if-not-is_entry.false-raw)

  high-there : c.args.b.high.0 < c.args.st.entries + 2
  high-there = ltb-true _ _ (sym c.is_entry-2.ensures ∙ not-false _ c.if-not-is_entry-2.false-raw)

-- the entries' nodes are in the table
module _ (c : lts.After-entry_node2 tie.the-claims reads.Pre reads.Post) where
  inside : (e k : ℕ) → e < c.args.st.entries + 2 → k ≡ get_or (0 ∷ 1 ∷ take c.args.st.entries c.args.scratch.now) e 0 →
      k < c.args.st.count
  inside e k there is =
      subst (λ (x : ℕ). x < c.args.st.count) (sym is)
      (node-inside c.args.scratch.now c.args.st.entries (omega (arith, c.requires.2, c.requires.3)) c.args.st.count
      c.requires.0.least c.requires.1 e there)

  low-inside : c.entry_node-low.result.0 < c.args.st.count
  low-inside = inside c.args.b.low.0 _ (low-there c.before.before.before.before [] [] [] []) c.entry_node-low.ensures

  high-inside : c.entry_node-high.result.0 < c.args.st.count
  high-inside = inside c.args.b.high.0 _ (high-there c.before.before.before.before [] [] [] []) c.entry_node-high.ensures

pub returns-then-entries-ge4096 : goal.returns-then-entries-ge4096
returns-then-entries-ge4096 c = λ ds ks ms ss. (
  node-21 _ _ _
      (full-entries (lent c.before.before.before.before.before.before ds ks ms ss) c.args.st
      (room c.before.before.before.before.before.before ds ks ms ss) c.if-entries-ge4096.true),
  λ e. omega (arith, e),
)

pub returns-then-v-lt1 : goal.returns-then-v-lt1
returns-then-v-lt1 c = λ ds ks ms ss. (
  node-12 _ _ _ (few-entries (lent c.before.before.before.before.before.before.before ds ks ms ss) c.args.st
      (room c.before.before.before.before.before.before.before ds ks ms ss) c.if-entries-ge4096.false)
      (variable-zero _ _ c.if-v-lt1.true),
  λ e. omega (arith, e),
)

pub returns-then-variables-v : goal.returns-then-variables-v
returns-then-variables-v c = λ ds ks ms ss. (
  node-12 _ _ _ (few-entries (lent c.before.before.before.before.before.before.before.before ds ks ms ss) c.args.st
      (room c.before.before.before.before.before.before.before.before ds ks ms ss) c.if-entries-ge4096.false)
      (variable-beyond _ _ (omega (arith, c.if-v-lt1.false)) c.if-variables-v.true),
  λ e. omega (arith, e),
)

pub is_entry-requires : goal.is_entry-requires
is_entry-requires c = c.requires.2

pub returns-then-not-is_entry : goal.returns-then-not-is_entry
returns-then-not-is_entry c = λ ds ks ms ss. (
  node-13-low _ _ _ (few c.before.before.before.before ds ks ms ss) (variable c.before.before.before.before ds ks ms ss)
      (entry-told (lent c.before.before.before.before.before.before.before.before.before.before.before ds ks ms ss) c.args.st
      (room c.before.before.before.before.before.before.before.before.before.before.before ds ks ms ss) _ _ _ c.is_entry.ensures
      (not-true _ c.if-not-is_entry.true-raw)),
  λ e. omega (arith, e),
)

pub is_entry-requires-2 : goal.is_entry-requires-2
is_entry-requires-2 c = c.requires.2

pub returns-then-not-is_entry-2 : goal.returns-then-not-is_entry-2
returns-then-not-is_entry-2 c =
    let c12 = c.before.before.before.before.before.before.before.before.before.before.before.before in
    λ ds ks ms ss. (
      node-13-high _ _ _ (few c.before.before.before.before.before.before.before ds ks ms ss)
          (variable c.before.before.before.before.before.before.before ds ks ms ss)
          (entry-told (lent c12.before.before ds ks ms ss)
          c.args.st (room c12.before.before ds ks ms ss) _
          _ _ c.is_entry-2.ensures
          (not-true _ c.if-not-is_entry-2.true-raw)),
      λ e. omega (arith, e),
    )

pub entry_node-low-requires : goal.entry_node-low-requires
entry_node-low-requires c =
    let c12 = c.before.before.before.before.before.before.before.before.before.before.before.before in (
      room c12.before.before.before
          [] [] [] [],
      low-there c.before.before [] [] [] [],
    )

pub entry_node-high-requires : goal.entry_node-high-requires
entry_node-high-requires c =
    let c12 = c.before.before.before.before.before.before.before.before.before.before.before.before in (
      room c12.before.before.before.before.before [] [] []
          [],
      high-there c.before.before.before.before [] [] [] [],
    )

pub stands_above-requires : goal.stands_above-requires
stands_above-requires c = (c.requires.0.lows, c.requires.0.highs, omega (arith, low-inside c.before, c.requires.0.within))

pub returns-then-not-stands_above : goal.returns-then-not-stands_above
returns-then-not-stands_above c =
    let c12 = c.before.before.before.before.before.before.before.before.before.before.before.before in
    λ ds ks ms ss. (
      node-14-low _ _ _ (few c12.before ds ks ms ss)
          (variable c12.before ds ks ms ss)
          (low c.before.before.before.before.before.before.before ds ks ms ss)
          (high c.before.before.before.before.before.before.before ds ks ms ss)
          (above-is (lent c12.before.before.before.before.before.before.before.before ds ks ms ss) c.args.st _ _ c.entry_node-low.ensures _
          (low-inside c.before.before.before) _ _
          c.stands_above.ensures (not-true _ c.if-not-stands_above.true-raw)),
      λ e. omega (arith, e),
    )

pub stands_above-requires-2 : goal.stands_above-requires-2
stands_above-requires-2 c = (c.requires.0.lows, c.requires.0.highs, omega (arith, high-inside c.before.before.before, c.requires.0.within))

pub returns-then-not-stands_above-2 : goal.returns-then-not-stands_above-2
returns-then-not-stands_above-2 c =
    let c12 = c.before.before.before.before.before.before.before.before.before.before.before.before in
    λ ds ks ms ss. (
      node-14-high _ _ _ (few c12.before.before.before ds ks
          ms ss) (variable c12.before.before.before ds ks ms
          ss)
          (low c.before.before.before.before.before.before.before.before.before ds ks ms ss)
          (high c.before.before.before.before.before.before.before.before.before ds ks ms ss)
          (above-is (lent c12.before.before.before.before.before.before.before.before.before.before ds ks ms ss) c.args.st _ _
          c.entry_node-high.ensures _
          (high-inside c.before.before.before.before.before) _ _ c.stands_above-2.ensures (not-true _ c.if-not-stands_above-2.true-raw)),
      λ e. omega (arith, e),
    )

pub returns : goal.returns
returns c =
    let c12 = c.before.before.before.before.before.before.before.before.before.before.before.before in
    λ ds ks ms ss. (
      sym (node-0 _ _ _ (few c12.before.before.before ds ks ms
          ss) (variable c12.before.before.before ds ks ms ss)
          (low c.before.before.before.before.before.before.before.before.before ds ks ms ss)
          (high c.before.before.before.before.before.before.before.before.before ds ks ms ss)
          (above-is (lent c12.before.before.before.before.before.before.before.before.before.before ds ks ms ss) c.args.st _ _
          c.entry_node-low.ensures _
          (low-inside c.before.before.before.before.before) _ _ c.stands_above.ensures
          (not-false _ c.if-not-stands_above.false-raw))
          (above-is (lent c12.before.before.before.before.before.before.before.before.before.before ds ks ms ss) c.args.st _ _
          c.entry_node-high.ensures _
          (high-inside c.before.before.before.before.before) _ _ c.stands_above-2.ensures (not-false _ c.if-not-stands_above-2.false-raw))),
      c.entry_node-low.ensures ∙ sym (node-is-at (lent
          c12.before.before.before.before.before.before.before.before.before.before ds ks ms ss) c.args.st c.args.b.low.0),
      c.entry_node-high.ensures ∙ sym (node-is-at (lent
          c12.before.before.before.before.before.before.before.before.before.before ds ks ms ss) c.args.st c.args.b.high.0),
    )
