-- A line that is refused with 19, over the lists that hold the state: what its rule's function asks, and that what it tells is the cause.
-- Assumes nothing.
use mathlib.Core.Path.{◌≡◌, refl, sym, ap, ◌∙◌, subst}
use mathlib.Core.Bool.{false, true, not}
use mathlib.Core.List.{List}
use Prim.Native.Nat.{ℕ, ◌+◌, ◌≤◌, ◌<◌}
use lib.ListN.{length, get_or, take}
use lib.Dec.{eqb, ltb, leb}
use borrow.Author.Tests.{ltb-true, ltb-false}
use Rattle.meaning.specs.Diagram.{Diagram}
use Rattle.meaning.specs.Words.{in_word}
use Rattle.table.specs.Nodes.{diagram_at}
use Rattle.table.specs.Indexed.{Table, size, nodes_of}
use Rattle.walks.specs.Readable.{Roomy}
use Rattle.records.specs.declared.Rule.{Rule}
use Rattle.records.specs.declared.Rule.TheVariants.{Rup, Pr, Path}
use Rattle.paths.specs.Paths.{path_count}
use Rattle.judge.specs.Lines.{Negatable}
use Rattle.verdict.specs.Steps as check
use Rattle.verdict.specs.Steps.{spent, is_entry, entry_node, waiting, diagram_in, live_members, line_step}
use Rattle.verdict.specs.Taken.{line_of}
use Rattle.verdict.proofs.Steps.{past-early}
use Rattle.state.specs.declared.State.{State}
use Rattle.state.specs.States.{Lent, table_in, state_of}
use Rattle.entries.proofs.Entries.{entry-is}
use Rattle.record_causes.proofs.Refused.{room}
use Rattle.causes.specs.Causes.{fixed, fixes, rup_cause, pr_cause, path_cause, line_cause}
use Rattle.causes.specs.Answers.{told}
use Rattle.tell.specs.Failed.{Unshown, Fixed, by_not, under_witness, PrTold}
use Rattle.tell.proofs.Refused.{fits, root-inside, refused-unshown, refused-ready}
use Rattle.tell.proofs.Lines.{rup-cause-is, pr-cause-is}
use Rattle.path_causes.specs.Failing.{PathTold}
use Rattle.path_causes.proofs.Widths.{path-cause-is}
use Rattle.command_causes.specs.declared.Cause.{Cause}
use Rattle.command_causes.specs.Causes.{told_by, of_rounds, LineRefused}
use Rattle.command_causes.proofs.Told.{told-rounds, told-turn}

-- ---- the cause by its rule

module _ (n : ℕ) (st : check.State) (g : Diagram) where
  rup-line : line_cause n 19 st Rup g ≡ rup_cause n (live_members st) g
  unfolding line_cause
  rup-line = refl

  pr-line : line_cause n 19 st Pr g ≡ pr_cause n (in_word st.positive) (in_word st.negative) st g
  unfolding line_cause
  pr-line = refl

  path-line : line_cause n 19 st Path g ≡ path_cause n (live_members st) g
  unfolding line_cause
  path-line = refl

-- a path line that is refused with 19 has few paths
few-paths : (n s : ℕ) (st : check.State) (root peak : ℕ) → line_step n s st Path root ≡ spent 19 peak →
    path_count (diagram_in st (entry_node st root)) ≤ 4096
unfolding line_step
few-paths n s st root peak e =
    let (_, after-entry) = past-early (not (is_entry st root)) 13 0 _ e in
    let (_, after-witness) = past-early (waiting st) 16 0 _ after-entry in
    let (_, after-lines) = past-early (leb 1024 st.lines) 22 0 _ after-witness in
    let (_, after_one) = past-early (eqb (entry_node st root) 1) 17 0 _ after-lines in
    let (few, _) = past-early (ltb 4096 (path_count (diagram_in st (entry_node st root)))) 34 0 _ after_one in
    ltb-false 4096 (path_count (diagram_in st (entry_node st root))) few

module _ (L : Lent) (x : State) (root : ℕ) where
  abbrev T : Table
  T = table_in L x.count

  abbrev S : check.State
  S = state_of L x

  abbrev members : List ℕ
  members = take x.members L.members

  abbrev G : ℕ → Diagram
  G g = diagram_at (nodes_of T) g

  -- The cause of the answer and its words, for every way in which the line is refused; m words are lent.
  module _ (m : ℕ) (words : List ℕ) where
    abbrev pub Tells : Cause → Rule → Type 0
    Tells r rule = (R : LineRefused L x rule root) → told_by r words ≡ told m (line_cause R.n 19 S rule (diagram_in S (entry_node S root)))

    -- The same, the rule being that one.
    pub tells_as : (r : Cause) (rule rule' : Rule) → rule ≡ rule' → Tells r rule' → Tells r rule
    tells_as r rule rule' e W = subst (Tells r) (sym e) W

  -- its entry is there
  pub root_below : (rule : Rule) → LineRefused L x rule root → root < x.entries + 2
  root_below rule R =
      ltb-true root (x.entries + 2) (sym (entry-is L x (room R.n (size T) L x R.held) root)
      ∙ (fits R.n L x R.held rule root R.peak R.refused).entry)

  -- the node of the line, as it is read from the scratch list
  module _ (g : ℕ) (is : g ≡ entry_node S root) where
    at-node : (P : ℕ → Type 0) → P (entry_node S root) → P g
    at-node P h = subst P (sym is) h

    pub ready : (rule : Rule) → LineRefused L x rule root → (memo : List ℕ) → Roomy L.vars memo → Negatable T members memo g
    ready rule R memo room =
        at-node (Negatable T members memo) (refused-ready R.n L x R.held rule root R.peak R.refused memo room)

    pub fails : (rule : Rule) → LineRefused L x rule root → Unshown T (line_of 64 S rule g)
    fails rule R =
        at-node (λ (k : ℕ). Unshown T (line_of 64 S rule k)) (refused-unshown R.n L x R.held rule root R.peak R.refused)

    pub paths-few : LineRefused L x Path root → path_count (G g) ≤ 4096
    paths-few R = at-node (λ (k : ℕ). path_count (G k) ≤ 4096) (few-paths R.n (size T) S root R.peak R.refused)

    module _ (m : ℕ) (words : List ℕ) (kept : length words ≡ m) where
      pub rup-tells : (rounds : ℕ) → Fixed (by_not (G g) (live_members S)) rounds words → Tells m words (of_rounds rounds false 0) Rup
      rup-tells rounds F R =
          let X : Fixed (by_not (G (entry_node S root)) (live_members S)) rounds words =
          subst (λ (k : ℕ). Fixed (by_not (G k) (live_members S)) rounds words) is F in
          told-rounds m words rounds (fixes 64 (by_not (G (entry_node S root)) (live_members S))) X.rounds-are kept X.words_are
          ∙ ap (told m) (sym (rup-line R.n S (G (entry_node S root))
          ∙ rup-cause-is R.n L x R.held (entry_node S root) (root-inside R.n L x R.held Rup root R.peak R.refused)
          (fits R.n L x R.held Rup root R.peak R.refused).not-one))

      pub pr-tells : (i rounds : ℕ)
          → PrTold (nodes_of T) x.witness.positive x.witness.negative (by_not (G g) (live_members S)) L.members L.struck
          x.members i rounds words
          → Tells m words (of_rounds rounds true i) Pr
      pr-tells i rounds F R =
          let p = x.witness.positive in
          let q = x.witness.negative in
          let W : PrTold (nodes_of T) p q (by_not (G (entry_node S root)) (live_members S)) L.members L.struck x.members i rounds words
          =
          subst (λ (k : ℕ). PrTold (nodes_of T) p q (by_not (G k) (live_members S)) L.members L.struck x.members i rounds words) is F
          in
          told-turn m words rounds
          (fixes 64 (by_not (under_witness p q (diagram_in S (get_or L.members i 0))) (by_not (G (entry_node S root)) (live_members S))))
          W.fixed.rounds-are kept W.fixed.words_are i
          ∙ ap (told m) (sym (pr-line R.n S (G (entry_node S root))
          ∙ pr-cause-is R.n L x R.held (entry_node S root) (root-inside R.n L x R.held Pr root R.peak R.refused)
          (fits R.n L x R.held Pr root R.peak R.refused).not-one p q i rounds words W))

      pub path-tells : (rounds : ℕ) → PathTold (live_members S) (G g) rounds words → Tells m words (of_rounds rounds false 0) Path
      path-tells rounds F R =
          let X : PathTold (live_members S) (G (entry_node S root)) rounds words =
          subst (λ (k : ℕ). PathTold (live_members S) (G k) rounds words) is F in
          told-rounds m words rounds X.literals X.rounds-are kept X.words_are
          ∙ ap (told m) (sym (path-line R.n S (G (entry_node S root)) ∙ path-cause-is R.n L x R.held (G (entry_node S root))
          ∙ X.cause))
