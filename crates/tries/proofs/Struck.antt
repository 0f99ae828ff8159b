-- A clause struck out: the live member of lowest place that is its diagram, found by its node's number. The idea: two numbers are equal
-- exactly where their diagrams are. Assumes nothing.
use mathlib.Core.Path.{◌≡◌, refl, sym, ap, ◌∙◌, subst}
use mathlib.Core.Bool.{true, false}
use mathlib.Core.List.{List}
use mathlib.Core.Option.{Option, none, some}
use Prim.Native.Nat.{ℕ, ◌+◌, ◌≤◌, ◌<◌}
use native.Mathlib.Omega.{arith}
use native.Mathlib.Decide.{ℕ_discrete}
use lib.ListN.{length, get_or, set, take}
use lib.Dec.{eqb, ltb}
use lib.Seq.{length-take-le, get_or-take}
use borrow.Author.Tests.{eq-eqb, eqb-true, lt-ltb, ltb-true}
use Rattle.meaning.specs.Diagram.{same}
use Rattle.meaning.specs.Operations.{Literal, clause}
use Rattle.meaning.proofs.Booleans.{t≢f, and_both}
use Rattle.meaning.proofs.Units.{same-eq, eq-same}
use Rattle.words.specs.Sets.{literals_of}
use Rattle.table.specs.Nodes.{diagram_at, placed, place}
use Rattle.table.specs.declared.Found.TheVariants.{Nothing}
use Rattle.table.specs.Indexed.{Table, size, nodes_of}
use Rattle.table.proofs.Numbers.{diagram_at-injective}
use Rattle.table.proofs.Written.{length-nodes, good-ordered}
use Rattle.clause.specs.Words.{clause_of_words, Stands}
use Rattle.clause.proofs.Literals.{clause-of-words}
use Rattle.clause.proofs.Finding.{stands-is, stands-not}
use Rattle.commands.specs.declared.DratClause.{DratClause}
use Rattle.commands.specs.Inner.{clause_words}
use Rattle.verdict.specs.Steps as check
use Rattle.verdict.specs.Steps.{with_marks, next, stop, diagram_in, is_live}
use Rattle.verdict.specs.Clausal.{first_same, strike_found, strike_clause}
use Rattle.verdict.specs.ClauseTaken.{IsThere}
use Rattle.verdict.proofs.Striking.{first_some, first-none}
use Rattle.state.specs.declared.State.{State}
use Rattle.state.specs.declared.Step.TheVariants.{Next, Stop}
use Rattle.state.specs.States.{Lent, lent_of, table_in, state_of, Held, Stepped}
use Rattle.entries.proofs.Stops.{stopped}
use Rattle.steps.proofs.Strikings.{marked_next}
use Rattle.meaning.specs.Literals.{OfVariables}
use Rattle.tries.specs.Lowest.{is_at, Lowest}

-- ---- the loop

-- None of the first i is live and node g.
abbrev pub NoneBelow : List ℕ → List ℕ → ℕ → ℕ → Type 0
NoneBelow members struck g i = (k : ℕ) → k < i → is_at members struck g k ≡ false

pub none_more : (members struck : List ℕ) (g i : ℕ) → NoneBelow members struck g i → is_at members struck g i ≡ false →
    NoneBelow members struck g (i + 1)
none_more members struck g i passed not-here k p = elim (ℕ_discrete k i) [
  | yes e ↦ subst (λ (x : ℕ). is_at members struck g x ≡ false) (sym e) not-here
  | no ne ↦ passed k (omega (arith, ne))
]

pub there-lowest : (members struck : List ℕ) (m g i : ℕ) → i ≤ m → NoneBelow members struck g i → is_at members struck g i ≡ true →
    Lowest members struck m g i
there-lowest members struck m g i le passed here = record { most = le; there = λ p. here; lowest = passed }

pub none-lowest : (members struck : List ℕ) (m g i : ℕ) → m ≤ i → NoneBelow members struck g i → Lowest members struck m g m
none-lowest members struck m g i le passed = record
    { most = omega arith; there = λ p. absurd (omega arith); lowest = λ k p. passed k (omega arith) }

-- ---- the clause that is struck

module _ (n : ℕ) (L : Lent) (st : State) (H : Held n L st) (ls : List Literal) (within : OfVariables n ls) where
  abbrev T : Table
  T = table_in L st.count

  abbrev S : check.State
  S = state_of L st

  many : length S.members ≡ st.members
  many = length-take-le st.members L.members (omega (arith, H.many, H.lines, H.room))

  words-is : clause_of_words (literals_of ls) ≡ clause n ls
  words-is = clause-of-words n H.entries.narrow ls within

  member-in : (i : ℕ) → i < st.members → get_or L.members i 0 < st.count
  member-in i p =
      let b : get_or (take st.members L.members) i 0 < st.kept = H.inside i (omega (arith, many)) in
      let e : get_or (take st.members L.members) i 0 ≡ get_or L.members i 0 = get_or-take st.members L.members i 0 p in
      omega (arith, H.kept)

  -- a member that is there, by its place in the lists lent
  there-is : (i : ℕ) → IsThere S (clause n ls) i → (i < st.members) × (eqb (get_or L.struck i 0) 0 ≡ true)
      × (diagram_at (nodes_of T) (get_or L.members i 0) ≡ clause n ls)
  unfolding is_live
  there-is i t =
      let (live, eq) = and_both (is_live S i) (same (diagram_in S (get_or S.members i 0)) (clause n ls)) t in
      let (less, mark) = and_both (ltb i (length S.members)) (eqb (get_or S.struck i 0) 0) live in
      let p : i < st.members = omega (arith, ltb-true i (length S.members) less, many) in (
        p,
        sym (ap (λ (x : ℕ). eqb x 0) (get_or-take st.members L.struck i 0 p)) ∙ mark,
        sym (ap (diagram_at (nodes_of T)) (get_or-take st.members L.members i 0 p))
            ∙ same-eq (diagram_in S (get_or S.members i 0)) (clause n ls) eq,
      )

  is-there : (i : ℕ) → i < st.members → eqb (get_or L.struck i 0) 0 ≡ true → diagram_at (nodes_of T) (get_or L.members i 0) ≡ clause n ls →
      IsThere S (clause n ls) i
  unfolding is_live
  is-there i p mark eq = rw (
    lt-ltb i (length S.members) (omega (arith, many)),
    get_or-take st.members L.struck i 0 p,
    mark,
    eq-same (diagram_in S (get_or S.members i 0)) (clause n ls)
        (ap (diagram_at (nodes_of T)) (get_or-take st.members L.members i 0 p) ∙ eq),
  ) refl

  -- no member is there
  first-not : ((i : ℕ) → IsThere S (clause n ls) i → ⊥) → strike_clause n S ls ≡ stop 28 0
  unfolding strike_clause
  first-not absent = go (first_same (length S.members) S 0 (clause n ls)) refl
    where
      go : (o : Option ℕ) → first_same (length S.members) S 0 (clause n ls) ≡ o → strike_found S o ≡ stop 28 0
      go none e = refl
      go (some i) e = absurd (absent i (first_some S (clause n ls) (length S.members) 0 i e).2)

  first-is : (r : ℕ) → r < length S.members → IsThere S (clause n ls) r → ((i : ℕ) → i < r → IsThere S (clause n ls) i → ⊥) →
      strike_clause n S ls ≡ next (with_marks S (set S.struck r 1))
  unfolding strike_clause
  first-is r p there lowest = go (first_same (length S.members) S 0 (clause n ls)) refl
    where
      go : (o : Option ℕ) → first_same (length S.members) S 0 (clause n ls) ≡ o → strike_found S o
          ≡ next (with_marks S (set S.struck r 1))
      go none e = absurd (first-none S (clause n ls) (length S.members) 0 e r (omega arith) (omega arith) there)
      go (some i) e =
          let f = first_some S (clause n ls) (length S.members) 0 i e in
          let up : i < r → ⊥ = λ lt. lowest i lt f.2 in
          let down : r < i → ⊥ = λ lt. f.3 r (omega arith) lt there in
          let is : i ≡ r = omega (arith, up, down) in
          ap (λ (k : ℕ). next (with_marks S (set S.struck k 1))) is

  -- ---- the ways out, c being the clause as the code has it

  module _ (c : DratClause) (is : clause_words ls ≡ c) where
    diagram-is : clause_of_words c.literals ≡ clause n ls
    diagram-is = ap (λ (x : DratClause). clause_of_words x.literals) (sym is) ∙ words-is

    -- its diagram is not in the table
    pub strike-absent : Stands (nodes_of T) (place (size T) (nodes_of T) (clause_of_words c.literals)) Nothing →
        Stepped n L L st (strike_clause n S ls) (Stop 28 0)
    strike-absent absent =
        stopped n L st (strike_clause n S ls) 28 0
        (first-not λ i t.
        let (p, mark, eq) = there-is i t in
        stands-not T H.entries.good c.literals absent (get_or L.members i 0)
        (omega (arith, length-nodes T H.entries.good, member-in i p)) (eq ∙ sym diagram-is))

    module _ (g r : ℕ) (stands : place (size T) (nodes_of T) (clause_of_words c.literals) ≡ placed (nodes_of T) g)
        (F : Lowest L.members L.struck st.members g r) where
      g-is : (g < length (nodes_of T)) × (diagram_at (nodes_of T) g ≡ clause_of_words c.literals)
      g-is = stands-is T H.entries.good c.literals g stands

      at_there : (i : ℕ) → i < st.members → is_at L.members L.struck g i ≡ true → IsThere S (clause n ls) i
      at_there i p e =
          let (mark, number) = and_both (eqb (get_or L.struck i 0) 0) (eqb (get_or L.members i 0) g) e in
          is-there i p mark (ap (diagram_at (nodes_of T)) (eqb-true (get_or L.members i 0) g number) ∙ g-is.1 ∙ diagram-is)

      there-at : (i : ℕ) → IsThere S (clause n ls) i → (i < st.members) × (is_at L.members L.struck g i ≡ true)
      there-at i t =
          let (p, mark, eq) = there-is i t in
          let q : get_or L.members i 0 < length (nodes_of T) = omega (arith, length-nodes T H.entries.good, member-in i p) in (
            p,
            rw (
              mark,
              eq-eqb (get_or L.members i 0) g
                  (diagram_at-injective (nodes_of T) (good-ordered T H.entries.good) (get_or L.members i 0) g q g-is.0
                  (eq ∙ sym (g-is.1 ∙ diagram-is))),
            ) refl,
          )

      -- none of the live members is its diagram
      pub strike-none : st.members ≤ r → Stepped n L L st (strike_clause n S ls) (Stop 28 0)
      strike-none le =
          stopped n L st (strike_clause n S ls) 28 0 (first-not λ i t. let (p, e) = there-at i t in t≢f (sym e ∙ F.lowest i (omega arith)))

      -- the lowest is struck
      pub strike-lowest : r < st.members
          → Stepped n L (lent_of L.vars L.lows L.highs L.heads L.links L.members L.scratch (set L.struck r 1)) st
          (strike_clause n S ls) (Next st)
      strike-lowest lt =
          rw (first-is r (omega (arith, many)) (at_there r lt (F.there lt)) (λ i p t. t≢f (sym (there-at i t).1 ∙ F.lowest i p)))
          (marked_next n L st r lt H)
