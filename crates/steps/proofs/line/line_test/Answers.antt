-- `line_test`: each way out is one law of Lines. Assumes nothing.
use mathlib.Core.Path.{◌≡◌, sym, ap, ◌∙◌, subst}
use mathlib.Core.Bool.{true}
use mathlib.Core.List.{List, []}
use Prim.Native.Nat.{ℕ, ◌+◌, ◌≤◌, ◌<◌}
use native.Mathlib.Omega.{arith}
use lib.ListN.{length}
use borrow.Author.Tests.{not-true, not-false, ltb-true, le-leb, lt-leb}
use Rattle.records.specs.declared.Rule.{Rule}
use Rattle.verdict.specs.Steps as check
use Rattle.verdict.specs.Steps.{is_entry}
use Rattle.state.specs.States.{Lent, lent_of, state_of}
use Rattle.steps.specs.Tests.{line_refusal}
use Rattle.entries.proofs.Entries.{node-inside, node-is-at, is_one, not-one, waits-is, entry-told}
use Rattle.steps.proofs.Lines.{shut-is, line-13, rup-16, rup-22, rup-17, rup-0, pr-22, pr-17, pr-18, pr-0, paths-told, path-16}
use Rattle.steps.proofs.Lines.{path-22, path-17, path-34, path-0}
use Rattle.steps.proofs.line.line_test.Reads as reads
use Rattle.steps.proofs.line.line_test.Lts as lts
use Rattle.steps.proofs.line.line_test.Tie as tie
use Rattle.steps.proofs.line.line_test.Goals as goal

module _ (s : lts.Start tie.the-claims reads.Pre reads.Post) (ds ks ms ss : List ℕ) where
  abbrev lent : Lent
  lent = lent_of s.args.vars.now s.args.lows.now s.args.highs.now ds ks ms s.args.scratch.now ss

  abbrev state : check.State
  state = state_of lent s.args.st

  room : s.args.st.entries ≤ length s.args.scratch.now
  room = omega (arith, s.requires.2, s.requires.3)

-- the entry is there
module _ (c : lts.Else1 tie.the-claims reads.Pre reads.Post) (ds ks ms ss : List ℕ) where
  entry : is_entry (state c.before.before.before.before.before.before.before ds ks ms ss) c.args.root.0 ≡ true
  entry = entry-told (lent c.before.before.before.before.before.before.before ds ks ms ss) c.args.st
      (room c.before.before.before.before.before.before.before ds ks ms ss) _ _ _ c.is_entry.ensures
      (not-false _ c.if-not-is_entry.false-raw)

  there : c.args.root.0 < c.args.st.entries + 2
  there = ltb-true _ _ (sym c.is_entry.ensures ∙ not-false _ c.if-not-is_entry.false-raw)

pub is_entry-requires : goal.is_entry-requires
is_entry-requires c = c.requires.2

pub returns-then-not-is_entry : goal.returns-then-not-is_entry
returns-then-not-is_entry c = λ ds ks ms ss. (
  line-13 64 (state c.before.before.before.before.before.before.before.before ds ks ms ss) c.args.root.0 c.args.rule
      (entry-told (lent c.before.before.before.before.before.before.before.before ds ks ms ss) c.args.st
      (room c.before.before.before.before.before.before.before.before ds ks ms ss) _ _ _ c.is_entry.ensures
      (not-true _ c.if-not-is_entry.true-raw)),
  λ e. omega (arith, e),
)

pub entry_node-g-requires : goal.entry_node-g-requires
entry_node-g-requires c = (room c.before.before.before.before.before.before.before.before [] [] [] [], there c.before [] [] [] [])

pub returns-then-waits : goal.returns-then-waits
returns-then-waits c =
    let c12 = c.before.before.before.before.before.before.before.before.before.before.before.before in
    λ ds ks ms ss. (
      rup-16 64 _ _ (entry c.before.before.before.before.before.before ds ks ms ss)
          (waits-is (lent c12.before ds ks ms ss) c.args.st _
          _ c.waits.ensures c.if-waits.true)
          ∙ ap (λ (r : Rule). line_refusal 64 (state
          c12.before ds ks ms ss) r c.args.root.0)
          (sym c.in-Rup.is),
      λ e. omega (arith, e),
    )

pub returns-then-st-ge1024 : goal.returns-then-st-ge1024
returns-then-st-ge1024 c =
    let c12 = c.before.before.before.before.before.before.before.before.before.before.before.before in
    λ ds ks ms ss. (
      rup-22 64 _ _ (entry c.before.before.before.before.before.before.before.before ds ks ms ss)
          (waits-is (lent c12.before.before.before ds ks ms
          ss) c.args.st _ _ c.waits.ensures c.if-waits.false)
          (le-leb 1024 _ c.if-st-ge1024.true) ∙ ap (λ (r : Rule). line_refusal 64
          (state c12.before.before.before ds ks ms ss) r
          c.args.root.0)
          (sym c.in-Rup.is),
      λ e. omega (arith, e),
    )

pub returns-then-g-eq1 : goal.returns-then-g-eq1
returns-then-g-eq1 c =
    let c12 = c.before.before.before.before.before.before.before.before.before.before.before.before in
    λ ds ks ms ss. (
      rup-17 64 _ _ (entry c.before.before.before.before.before.before.before.before.before.before ds ks ms ss)
          (waits-is (lent c12.before.before.before.before.before ds ks ms ss) c.args.st _ _ c.waits.ensures c.if-waits.false)
          (lt-leb 1024 _ c.if-st-ge1024.false)
          (is_one (lent c12.before.before.before.before.before
          ds ks ms ss) c.args.st _ _ c.entry_node-g.ensures c.if-g-eq1.true)
          ∙ ap (λ (r : Rule). line_refusal 64 (state
          c12.before.before.before.before.before ds ks ms
          ss) r c.args.root.0) (sym c.in-Rup.is),
      λ e. omega (arith, e),
    )

pub returns-then-st-ge1024-2 : goal.returns-then-st-ge1024-2
returns-then-st-ge1024-2 c = λ ds ks ms ss. (
  pr-22 64 _ _ (entry c.before.before.before.before.before ds ks ms ss) (le-leb 1024 _ c.if-st-ge1024-2.true)
      ∙ ap (λ (r : Rule). line_refusal 64 (state c.before.before.before.before.before.before.before.before.before.before.before.before ds ks
      ms ss) r c.args.root.0) (sym c.in-Pr.is),
  λ e. omega (arith, e),
)

pub returns-then-g-eq1-2 : goal.returns-then-g-eq1-2
returns-then-g-eq1-2 c =
    let c12 = c.before.before.before.before.before.before.before.before.before.before.before.before in
    λ ds ks ms ss. (
      pr-17 64 _ _ (entry c.before.before.before.before.before.before.before ds ks ms ss) (lt-leb 1024 _ c.if-st-ge1024-2.false)
          (is_one (lent c12.before.before ds ks ms ss)
          c.args.st _ _ c.entry_node-g.ensures c.if-g-eq1-2.true)
          ∙ ap (λ (r : Rule). line_refusal 64 (state
          c12.before.before ds ks ms ss) r c.args.root.0)
          (sym c.in-Pr.is),
      λ e. omega (arith, e),
    )

pub is_one-requires : goal.is_one-requires
is_one-requires c =
    let c12 = c.before.before.before.before.before.before.before.before.before.before.before.before in (
      c.requires.0,
      subst (λ (x : ℕ). x < c.args.st.count) (sym c.entry_node-g.ensures)
          (node-inside c.args.scratch.now c.args.st.entries
          (room c12.before.before.before.before [] [] []
          []) c.args.st.count c.requires.0.least c.requires.1
          c.args.root.0 (there c.before.before.before.before.before.before.before.before.before [] [] [] [])),
      omega (arith, c.requires.4),
    )

pub returns-then-not-is_one : goal.returns-then-not-is_one
returns-then-not-is_one c =
    let c12 = c.before.before.before.before.before.before.before.before.before.before.before.before in
    λ ds ks ms ss. (
      pr-18 64 _ _ (entry c12.before ds ks ms ss)
          (lt-leb 1024 _ c.if-st-ge1024-2.false)
          (not-one (lent c12.before.before.before.before.before.before.before.before ds ks ms ss) c.args.st _ _ c.entry_node-g.ensures
          c.if-g-eq1-2.false)
          (shut-is (lent c12.before.before.before.before.before.before.before.before ds ks ms ss) c.args.st _ _ c.entry_node-g.ensures _ _
          c.is_one.ensures (not-true _ c.if-not-is_one.true-raw))
          ∙ ap (λ (r : Rule). line_refusal 64 (state
          c12.before.before.before.before.before.before.before.before ds ks ms ss) r c.args.root.0) (sym c.in-Pr.is),
      λ e. omega (arith, e),
    )

pub returns-then-waits-2 : goal.returns-then-waits-2
returns-then-waits-2 c =
    let c12 = c.before.before.before.before.before.before.before.before.before.before.before.before in
    λ ds ks ms ss. (
      path-16 64 _ _ (entry c.before.before.before.before.before.before ds ks ms ss)
          (waits-is (lent c12.before ds ks ms ss) c.args.st _
          _ c.waits-in-Path.ensures c.if-waits-2.true)
          ∙ ap (λ (r : Rule). line_refusal 64 (state
          c12.before ds ks ms ss) r c.args.root.0)
          (sym c.in-Path.is),
      λ e. omega (arith, e),
    )

pub returns-then-st-ge1024-3 : goal.returns-then-st-ge1024-3
returns-then-st-ge1024-3 c =
    let c12 = c.before.before.before.before.before.before.before.before.before.before.before.before in
    λ ds ks ms ss. (
      path-22 64 _ _ (entry c.before.before.before.before.before.before.before.before ds ks ms ss)
          (waits-is (lent c12.before.before.before ds ks ms
          ss) c.args.st _ _ c.waits-in-Path.ensures c.if-waits-2.false)
          (le-leb 1024 _ c.if-st-ge1024-3.true) ∙ ap
          (λ (r : Rule). line_refusal 64 (state
          c12.before.before.before ds ks ms ss) r
          c.args.root.0)
          (sym c.in-Path.is),
      λ e. omega (arith, e),
    )

pub returns-then-g-eq1-3 : goal.returns-then-g-eq1-3
returns-then-g-eq1-3 c =
    let c12 = c.before.before.before.before.before.before.before.before.before.before.before.before in
    λ ds ks ms ss. (
      path-17 64 _ _ (entry c.before.before.before.before.before.before.before.before.before.before ds ks ms ss)
          (waits-is (lent c12.before.before.before.before.before ds ks ms ss) c.args.st _ _ c.waits-in-Path.ensures c.if-waits-2.false)
          (lt-leb 1024 _ c.if-st-ge1024-3.false)
          (is_one (lent c12.before.before.before.before.before
          ds ks ms ss) c.args.st _ _ c.entry_node-g.ensures c.if-g-eq1-3.true)
          ∙ ap (λ (r : Rule). line_refusal 64 (state
          c12.before.before.before.before.before ds ks ms
          ss) r c.args.root.0) (sym c.in-Path.is),
      λ e. omega (arith, e),
    )

pub paths_left-requires : goal.paths_left-requires
paths_left-requires c =
    let c12 = c.before.before.before.before.before.before.before.before.before.before.before.before in (
      c.requires.0,
      subst (λ (x : ℕ). x < c.args.st.count) (sym c.entry_node-g.ensures)
          (node-inside c.args.scratch.now c.args.st.entries
          (room c12.before.before.before.before.before []
          [] [] []) c.args.st.count c.requires.0.least c.requires.1
          c.args.root.0 (there c.before.before.before.before.before.before.before.before.before.before [] [] [] [])),
    )

pub returns-then-paths_left-eq0 : goal.returns-then-paths_left-eq0
returns-then-paths_left-eq0 c =
    let c12 = c.before.before.before.before.before.before.before.before.before.before.before.before in
    λ ds ks ms ss. (
      path-34 64 _ _ (entry c.before.before.before.before.before.before.before.before.before.before.before.before ds ks ms ss)
          (waits-is (lent c12.before.before.before.before.before.before.before ds ks ms ss) c.args.st _ _ c.waits-in-Path.ensures
          c.if-waits-2.false)
          (lt-leb 1024 _ c.if-st-ge1024-3.false)
          (not-one (lent c12.before.before.before.before.before.before.before ds ks ms ss) c.args.st _ _ c.entry_node-g.ensures
          c.if-g-eq1-3.false)
          (omega (
            arith,
            (paths-told (lent c12.before.before.before.before.before.before.before ds ks ms ss) c.args.st c.args.root.0 _
                c.entry_node-g.ensures
                _
                c.paths_left.ensures),
            c.if-paths_left-eq0.true,
          )) ∙ ap
          (λ (r : Rule). line_refusal 64
          (state c12.before.before.before.before.before.before.before ds ks ms ss) r c.args.root.0) (sym c.in-Path.is),
      λ e. omega (arith, e),
    )

pub returns-else-g-eq1 : goal.returns-else-g-eq1
returns-else-g-eq1 c =
    let c12 = c.before.before.before.before.before.before.before.before.before.before.before.before in
    λ ds ks ms ss. (
      sym (rup-0 64 _ _ (entry c.before.before.before.before.before.before.before.before.before.before ds ks ms ss)
          (waits-is (lent c12.before.before.before.before.before ds ks ms ss) c.args.st _ _ c.waits.ensures c.if-waits.false)
          (lt-leb 1024 _ c.if-st-ge1024.false)
          (not-one (lent c12.before.before.before.before.before ds ks ms ss) c.args.st _ _ c.entry_node-g.ensures c.if-g-eq1.false)
          ∙ ap (λ (r : Rule). line_refusal 64 (state
          c12.before.before.before.before.before ds ks ms
          ss) r c.args.root.0) (sym c.in-Rup.is)),
      c.entry_node-g.ensures ∙ sym (node-is-at (lent
          c12.before.before.before.before.before ds ks ms ss)
          c.args.st c.args.root.0),
    )

pub returns-else-not-is_one : goal.returns-else-not-is_one
returns-else-not-is_one c =
    let c12 = c.before.before.before.before.before.before.before.before.before.before.before.before in
    λ ds ks ms ss. (
      sym (pr-0 64 _ _ (entry c12.before ds ks ms ss)
          (lt-leb 1024 _ c.if-st-ge1024-2.false)
          (not-one (lent c12.before.before.before.before.before.before.before.before ds ks ms ss) c.args.st _ _ c.entry_node-g.ensures
          c.if-g-eq1-2.false)
          (shut-is (lent c12.before.before.before.before.before.before.before.before ds ks ms ss) c.args.st _ _ c.entry_node-g.ensures _ _
          c.is_one.ensures (not-false _ c.if-not-is_one.false-raw))
          ∙ ap (λ (r : Rule). line_refusal 64 (state
          c12.before.before.before.before.before.before.before.before ds ks ms ss) r c.args.root.0) (sym c.in-Pr.is)),
      c.entry_node-g.ensures ∙ sym (node-is-at (lent
          c12.before.before.before.before.before.before.before.before ds ks ms ss) c.args.st c.args.root.0),
    )

pub returns-else-paths_left-eq0 : goal.returns-else-paths_left-eq0
returns-else-paths_left-eq0 c =
    let c12 = c.before.before.before.before.before.before.before.before.before.before.before.before in
    λ ds ks ms ss. (
      sym (path-0 64 _ _ (entry c.before.before.before.before.before.before.before.before.before.before.before.before ds ks ms ss)
          (waits-is (lent c12.before.before.before.before.before.before.before ds ks ms ss) c.args.st _ _ c.waits-in-Path.ensures
          c.if-waits-2.false)
          (lt-leb 1024 _ c.if-st-ge1024-3.false)
          (not-one (lent c12.before.before.before.before.before.before.before ds ks ms ss) c.args.st _ _ c.entry_node-g.ensures
          c.if-g-eq1-3.false)
          (omega (
            arith,
            (paths-told (lent c12.before.before.before.before.before.before.before ds ks ms ss) c.args.st c.args.root.0 _
                c.entry_node-g.ensures
                _
                c.paths_left.ensures),
            c.if-paths_left-eq0.false,
          )) ∙ ap
          (λ (r : Rule). line_refusal 64
          (state c12.before.before.before.before.before.before.before ds ks ms ss) r c.args.root.0) (sym c.in-Path.is)),
      c.entry_node-g.ensures ∙ sym (node-is-at (lent
          c12.before.before.before.before.before.before.before
          ds ks ms ss) c.args.st c.args.root.0),
    )
