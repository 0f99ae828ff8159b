-- Entries and their nodes as the scratch list holds them, and the tests of a node record in their order. Assumes nothing.
use mathlib.Core.Path.{◌≡◌, refl, sym, ap, ◌∙◌}
use mathlib.Core.Bool.{Bool, true, false, not, ◌&&◌}
use mathlib.Core.List.{List, ◌∷◌}
use Prim.Native.Nat.{ℕ, zero, suc, ◌+◌, ◌-◌, ◌≤◌, ◌<◌}
use native.Mathlib.Omega.{arith}
use lib.ListN.{length, get_or, take}
use lib.Dec.{eqb, ltb, leb}
use lib.Seq.{length-take-le, get_or-take}
use borrow.Author.Tests.{ltb-true, eq-eqb, ne_eqb, le-leb, lt-leb}
use Rattle.meaning.proofs.Booleans.{and-false}
use Rattle.table.specs.Nodes.{Node, blank, above}
use Rattle.table.specs.Columns.{rows}
use Rattle.table.specs.Indexed.{nodes_of}
use Rattle.records.specs.declared.NodeBody.{NodeBody}
use Rattle.verdict.specs.Steps as check
use Rattle.verdict.specs.Steps.{is_entry, entry_node, is_variable, waiting}
use Rattle.table.specs.Lists.{Inside}
use Rattle.state.specs.declared.State.{State}
use Rattle.state.specs.States.{Lent, state_of, Held}
use Rattle.entries.specs.Tests.{node_refusal}

-- ---- entries in the scratch list

module _ (scratch : List ℕ) (entries : ℕ) (room : entries ≤ length scratch) where
  pub entries-length : length (take entries scratch) ≡ entries
  entries-length = length-take-le entries scratch room

  pub node-inside : (count : ℕ) → 2 ≤ count → Inside count (take entries scratch) → (e : ℕ) → e < entries + 2 →
      get_or (0 ∷ 1 ∷ take entries scratch) e 0 < count
  node-inside count two inside zero p = omega arith
  node-inside count two inside (suc zero) p = omega arith
  node-inside count two inside (suc (suc i)) p = inside i (omega (arith, entries-length))

  pub node_at : (e : ℕ) → 2 ≤ e → e < entries + 2 → get_or scratch (e - 2) 0 ≡ get_or (0 ∷ 1 ∷ take entries scratch) e 0
  node_at zero p q = absurd (omega arith)
  node_at (suc zero) p q = absurd (omega arith)
  node_at (suc (suc i)) p q = let e : suc (suc i) - 2 ≡ i = omega arith in ap (λ (j : ℕ). get_or scratch j 0) e
      ∙ sym (get_or-take entries scratch i 0 (omega arith))

-- entries 0 and 1 are the constants
pub node-constant : (entries : List ℕ) (e : ℕ) → e < 2 → e ≡ get_or (0 ∷ 1 ∷ entries) e 0
node-constant entries zero p = refl
node-constant entries (suc zero) p = refl
node-constant entries (suc (suc i)) p = absurd (omega arith)

-- what stands above a node stands above it among the first nodes
above-first : (count : ℕ) (t : List Node) (v child : ℕ) → child < count → above (take count t) v child ≡ above t v child
unfolding above
above-first count t v child p = rw (get_or-take count t child blank p)

module _ (l : Lent) (st : State) where
  pub entry-is : st.entries ≤ length l.scratch → (e : ℕ) → is_entry (state_of l st) e ≡ ltb e (st.entries + 2)
  unfolding is_entry
  entry-is room e = let len : suc (suc (length (take st.entries l.scratch))) ≡ st.entries + 2 =
      omega (arith, entries-length l.scratch st.entries room) in ap (ltb e) len

  pub node-is-at : (e : ℕ) → entry_node (state_of l st) e ≡ get_or (0 ∷ 1 ∷ take st.entries l.scratch) e 0
  unfolding entry_node
  node-is-at e = refl

  -- what the code's tests of an entry's node say
  module _ (e child : ℕ) (is : child ≡ get_or (0 ∷ 1 ∷ take st.entries l.scratch) e 0) where
    child-is : child ≡ entry_node (state_of l st) e
    child-is = is ∙ sym (node-is-at e)

    pub is_one : child ≡ 1 → eqb (entry_node (state_of l st) e) 1 ≡ true
    is_one p = eq-eqb (entry_node (state_of l st) e) 1 (sym child-is ∙ p)

    pub not-one : (child ≡ 1 → ⊥) → eqb (entry_node (state_of l st) e) 1 ≡ false
    not-one n = ne_eqb (entry_node (state_of l st) e) 1 (λ q. n (child-is ∙ q))

    pub above-is : (v : ℕ) → child < st.count → (r b : Bool) → r ≡ above (rows l.vars l.lows l.highs) v child → r ≡ b
        → above (state_of l st).nodes v (entry_node (state_of l st) e) ≡ b
    unfolding nodes_of
    above-is v p r b ensures told =
        ap (above (take st.count (rows l.vars l.lows l.highs)) v) (sym child-is)
        ∙ above-first st.count (rows l.vars l.lows l.highs) v child p ∙ sym ensures ∙ told

  pub waits-is : (r b : Bool) → r ≡ not (eqb st.witness.positive 0 && eqb st.witness.negative 0) → r ≡ b → waiting (state_of l st)
      ≡ b
  unfolding waiting
  waits-is r b ensures told = sym ensures ∙ told

  -- the test of an entry
  pub entry-told : st.entries ≤ length l.scratch → (e : ℕ) (r b : Bool) → r ≡ ltb e (st.entries + 2) → r ≡ b → is_entry (state_of l st) e
      ≡ b
  entry-told room e r b ensures told = entry-is room e ∙ sym ensures ∙ told

  -- the test of the number of entries
  pub full-entries : st.entries ≤ length l.scratch → 4096 ≤ st.entries → leb 4096 (length (state_of l st).entries) ≡ true
  full-entries room p = le-leb 4096 (length (state_of l st).entries) (omega (arith, entries-length l.scratch st.entries room))

  pub few-entries : st.entries ≤ length l.scratch → st.entries < 4096 → leb 4096 (length (state_of l st).entries) ≡ false
  few-entries room p = lt-leb 4096 (length (state_of l st).entries) (omega (arith, entries-length l.scratch st.entries room))

-- an entry's node is in the table
pub entry_in : (n : ℕ) (L : Lent) (st : State) → Held n L st → (e : ℕ) → is_entry (state_of L st) e ≡ true →
    entry_node (state_of L st) e < st.count
entry_in n L st H e there =
    let room : st.entries ≤ length L.scratch = omega (arith, H.entries.few, H.entries.room) in
    rw (node-is-at L st e)
    (node-inside L.scratch st.entries room st.count H.entries.good.least H.entries.inside e
    (ltb-true e (st.entries + 2) (sym (entry-is L st room e) ∙ there)))

-- ---- the test of a variable

pub is-variable : (n v : ℕ) → 1 ≤ v → v ≤ n → is_variable n v ≡ true
unfolding is_variable
is-variable n v p q = rw (le-leb 1 v p, le-leb v n q)

pub variable-zero : (n v : ℕ) → v < 1 → is_variable n v ≡ false
unfolding is_variable
variable-zero n v p = rw (lt-leb 1 v p)

pub variable-beyond : (n v : ℕ) → 1 ≤ v → n < v → is_variable n v ≡ false
unfolding is_variable
variable-beyond n v p q = rw (le-leb 1 v p, lt-leb v n q)

-- ---- the tests of a node record

module _ (n : ℕ) (st : check.State) (b : NodeBody) where
  abbrev l : ℕ
  l = b.low.0

  abbrev h : ℕ
  h = b.high.0

  abbrev v : ℕ
  v = b.variable

  pub node-21 : leb 4096 (length st.entries) ≡ true → 21 ≡ node_refusal n st b
  unfolding node_refusal
  node-21 e = rw e

  module _ (few : leb 4096 (length st.entries) ≡ false) where
    pub node-12 : is_variable n v ≡ false → 12 ≡ node_refusal n st b
    unfolding node_refusal
    node-12 e = rw (few, e)

    module _ (variable : is_variable n v ≡ true) where
      pub node-13-low : is_entry st l ≡ false → 13 ≡ node_refusal n st b
      unfolding node_refusal
      node-13-low e = rw (few, variable, e)

      pub node-13-high : is_entry st h ≡ false → 13 ≡ node_refusal n st b
      unfolding node_refusal
      node-13-high e = rw (few, variable, e, and-false (is_entry st l))

      module _ (low : is_entry st l ≡ true) (high : is_entry st h ≡ true) where
        pub node-14-low : above st.nodes v (entry_node st l) ≡ false → 14 ≡ node_refusal n st b
        unfolding node_refusal
        node-14-low e = rw (few, variable, low, high, e)

        pub node-14-high : above st.nodes v (entry_node st h) ≡ false → 14 ≡ node_refusal n st b
        unfolding node_refusal
        node-14-high e = rw (few, variable, low, high, e, and-false (above st.nodes v (entry_node st l)))

        pub node-0 : above st.nodes v (entry_node st l) ≡ true → above st.nodes v (entry_node st h) ≡ true → 0 ≡ node_refusal n st b
        unfolding node_refusal
        node-0 p q = rw (few, variable, low, high, p, q)
