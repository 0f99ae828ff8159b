-- Node records: a node without room leaves the table as it was; one that is placed is the next entry, and all that is held stays held.
-- Assumes nothing.
use mathlib.Core.Path.{◌≡◌, refl, sym, ap, ◌∙◌}
use mathlib.Core.Bool.{Bool, true, false, cond}
use mathlib.Core.List.{List, [], ◌∷◌, ◌++◌}
use mathlib.Core.Option.{Option, none, some}
use Prim.Native.Nat.{ℕ, suc, ◌+◌, ◌≤◌, ◌<◌, max}
use native.Mathlib.Omega.{arith}
use lib.ListN.{length, set}
use lib.Dec.{eqb, ltb}
use Rattle.meaning.specs.Diagram.{Diagram, branch}
use Rattle.meaning.proofs.Canonical.{reduced-from, branch-reduced}
use Rattle.table.specs.Nodes.{Node, node_of, at, diagram_at, Placing, full, placed, find, or_append, put}
use Rattle.table.specs.Indexed.{Table, size, nodes_of, indexed, Outcome, written}
use Rattle.table.proofs.Order.{above-true, Ordered}
use Rattle.meaning.proofs.Booleans.{t≢f}
use Rattle.table.proofs.Numbers.{reduced-from-to}
use Rattle.table.proofs.Written.{nodes-indexed, length-nodes, good-ordered}
use Rattle.table.proofs.Placing.{put-place}
use Rattle.table.proofs.Outcomes.{Grown, put-grown}
use Rattle.records.specs.declared.NodeBody.{NodeBody}
use Rattle.verdict.specs.Steps as check
use Rattle.verdict.specs.Steps.{spent, entry_node, entered, node_step}
use Rattle.verdict.proofs.Uses.{UsesAfter, place-uses}
use Rattle.state.specs.declared.State.{State}
use Rattle.state.specs.declared.Step.TheVariants.{Next, Stop, Spent}
use Rattle.state.specs.States.{Lent, table_in, state_of, state_with_entry, Held, Stepped}
use Rattle.entries.specs.Tests.{node_refusal}
use Rattle.entries.proofs.Stops.{unless, unless-refused, unless-none, node-is, NodeFits, node-fits, stopped}
use Rattle.entries.proofs.Entries.{entry_in}
use Rattle.entries.proofs.Entering.{lent_with, entry-made}

-- ---- a node without room

abbrev FullSame : List Node → Placing → Type 0
FullSame t (full t') = t' ≡ t
FullSame t (placed t' k) = Unit {0}

put_full : (s : ℕ) (t : List Node) (v l h : ℕ) → FullSame t (put s t v l h)
unfolding put or_append
put_full s t v l h = go (eqb l h) (find t (node_of v l h))
  where
    appended : (c : Bool) → FullSame t (cond c (placed (t ++ node_of v l h ∷ []) (length t)) (full t))
    appended true = tt
    appended false = refl

    go : (c : Bool) (o : Option ℕ) → FullSame t (cond c (placed t l) (or_append s t (node_of v l h) o))
    go true o = tt
    go false none = appended (ltb (length t) s)
    go false (some k) = tt

full-stops : (st : check.State) (s : ℕ) (p : Placing) → FullSame st.nodes p → (written s p).full ≡ true
    → ((written s p).table ≡ indexed s st.nodes) × (entered st p ≡ spent 23 (max st.peak (length (nodes_of (written s p).table))))
unfolding written entered
full-stops st s (full t) same f = (
  ap (indexed s) same,
  ap (λ (x : List Node). spent 23 (max st.peak (length x)))
      (sym (nodes-indexed s t)),
)
full-stops st s (placed t k) same f = t≢f (sym f)

-- ---- the step

module _ (n : ℕ) (L : Lent) (st : State) (b : NodeBody) (H : Held n L st) where
  abbrev T : Table
  T = table_in L st.count

  abbrev S : check.State
  S = state_of L st

  abbrev l : ℕ
  l = entry_node S b.low.0

  abbrev h : ℕ
  h = entry_node S b.high.0

  abbrev said : check.Step
  said = node_step n (size T) S b

  pub node-refused : (number : ℕ) → number ≡ node_refusal n S b → (number ≡ 0 → ⊥) → Stepped n L L st said (Stop number 0)
  node-refused number e ne =
      stopped n L st said number 0
      (node-is n (size T) S b ∙ ap (λ (k : ℕ). unless k (entered S (put (size T) (nodes_of T) b.variable l h))) (sym e)
      ∙ unless-refused number _ ne)

  module _ (none : node_refusal n S b ≡ 0) (o : Outcome) (made : o ≡ written (size T) (put (size T) (nodes_of T) b.variable l h)) where
    fits : NodeFits n S b
    fits = node-fits n S b none

    said-is : said ≡ entered S (put (size T) (nodes_of T) b.variable l h)
    said-is = node-is n (size T) S b ∙ unless-none (node_refusal n S b) _ none

    low-in : l < st.count
    low-in = entry_in n L st H b.low.0 fits.low

    high-in : h < st.count
    high-in = entry_in n L st H b.high.0 fits.high

    over-low : 2 ≤ l → b.variable < (at (nodes_of T) l).var
    over-low = above-true (nodes_of T) b.variable l fits.over-low

    over-high : 2 ≤ h → b.variable < (at (nodes_of T) h).var
    over-high = above-true (nodes_of T) b.variable h fits.over-high

    abbrev D : Diagram
    D = branch b.variable (diagram_at (nodes_of T) l) (diagram_at (nodes_of T) h)

    grown : Grown T D o
    grown = put-grown T H.entries.good b.variable l h fits.least (omega (arith, fits.most, H.entries.narrow)) low-in high-in
        over-low over-high o made

    put-uses : UsesAfter n (put (size T) (nodes_of T) b.variable l h)
    put-uses =
        let O : Ordered (nodes_of T) = good-ordered T H.entries.good in
        let len : length (nodes_of T) ≡ st.count = length-nodes T H.entries.good in
        rw (put-place (size T) (nodes_of T) O b.variable l h (omega (arith, low-in)) (omega (arith, high-in)))
        (place-uses n (size T) (nodes_of T) D H.entries.uses (reduced-from 1 b.variable (suc n) D fits.least
        (branch-reduced b.variable (suc n) (diagram_at (nodes_of T) l) (diagram_at (nodes_of T) h) (omega (arith, fits.most))
        (reduced-from-to n (nodes_of T) O H.entries.uses l (omega (arith, low-in)) (suc b.variable) over-low)
        (reduced-from-to n (nodes_of T) O H.entries.uses h (omega (arith, high-in)) (suc b.variable) over-high))))

    pub node-full : (peak : ℕ) → peak ≡ max st.peak o.table.count → o.full ≡ true
        → Stepped n L (lent_with o.table L.members L.scratch L.struck) st said (Spent 23 peak)
    node-full peak greatest f =
        let (table, stops) = full-stops S (size T) (put (size T) (nodes_of T) b.variable l h)
        (put_full (size T) (nodes_of T) b.variable l h) (sym (ap (λ (x : Outcome). x.full) made) ∙ f) in
        let same : o.table ≡ T = ap (λ (x : Outcome). x.table) made ∙ table ∙ sym H.entries.good.written in
        record {
          says = ap (spent 23) (greatest ∙ ap (max st.peak)
              (sym (length-nodes o.table grown.good) ∙ ap (λ (x : Outcome). length (nodes_of x.table)) made))
              ∙ sym (said-is ∙ stops);
          leaves = record {
            table = ap (λ (t : Table). table_in (lent_with t L.members L.scratch L.struck) st.count) same;
            members = refl;
            struck = refl;
          };
        }

    pub node_made : o.full ≡ false → (st' : State) → st' ≡ state_with_entry st o.table.count (max st.peak o.table.count)
        → Stepped n L (lent_with o.table L.members (set L.scratch st.entries o.node) L.struck) st said (Next st')
    node_made = entry-made n L st H said D (put (size T) (nodes_of T) b.variable l h) o made grown put-uses fits.few said-is
