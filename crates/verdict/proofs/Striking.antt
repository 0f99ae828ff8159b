-- A clause that a text strikes is the live member of lowest place with its diagram, and 28 is given exactly where there is none. The idea:
-- place after place. Assumes nothing.
use mathlib.Core.Path.{◌≡◌, refl, sym, ap, ◌∙◌, subst}
use mathlib.Core.Bool.{Bool, true, false, ◌&&◌, cond}
use mathlib.Core.List.{List}
use mathlib.Core.Option.{Option, none, some}
use Prim.Native.Nat.{ℕ, zero, suc, ◌+◌, ◌≤◌, ◌<◌}
use native.Mathlib.Omega.{arith}
use native.Mathlib.Decide.{ℕ_discrete}
use lib.ListN.{length, get_or, set}
use Rattle.meaning.specs.Diagram.{Diagram, same}
use Rattle.meaning.specs.Operations as meaning
use Rattle.meaning.proofs.Booleans.{t≢f}
use Rattle.table.specs.Nodes.{place}
use Rattle.verdict.specs.Steps.{State, next, stop, diagram_in, is_live}
use Rattle.verdict.specs.Clausal.{first_same, strike_found, strike_clause}
use Rattle.verdict.specs.Steps.{with_marks}
use Rattle.verdict.specs.ClauseTaken.{IsThere, ClauseStruck}
use Rattle.verdict.proofs.Steps.{stop-not-next}

module _ (st : State) (g : Diagram) where
  -- what is found is live and the diagram, and none before it is
  pub first_some : (k i j : ℕ) → first_same k st i g ≡ some j → (i ≤ j) × (j < i + k) × IsThere st g j
      × ((m : ℕ) → i ≤ m → m < j → IsThere st g m → ⊥)
  unfolding first_same
  first_some zero i j e = let z : ◌≡◌ {A = ℕ} 0 1 = cc in absurd (omega arith)
  first_some (suc k) i j e = go (is_live st i && same (diagram_in st (get_or st.members i 0)) g) refl e (first_some k (suc i) j)
    where
      here : (b : Bool) → (is_live st i && same (diagram_in st (get_or st.members i 0)) g) ≡ b → (m : ℕ) → b ≡ false → i ≡ m →
          IsThere st g m → ⊥
      here b q m f is t = t≢f (sym (subst (λ (x : ℕ). IsThere st g x) (sym is) t) ∙ q ∙ f)

      go : (b : Bool) → (is_live st i && same (diagram_in st (get_or st.members i 0)) g) ≡ b → cond b (some i) (first_same k st (suc i) g)
          ≡ some j
          → (first_same k st (suc i) g ≡ some j → (suc i ≤ j) × (j < suc i + k) × IsThere st g j
          × ((m : ℕ) → suc i ≤ m → m < j → IsThere st g m → ⊥))
          → (i ≤ j) × (j < i + suc k) × IsThere st g j × ((m : ℕ) → i ≤ m → m < j → IsThere st g m → ⊥)
      go true q e ih = let is : i ≡ j = cc in (
        omega arith,
        omega arith,
        subst (λ (x : ℕ). IsThere st g x) is q,
        λ m lo hi t. absurd (omega arith),
      )
      go false q e ih =
          let r = ih e in
          (omega (arith, r.0), omega (arith, r.1), r.2, λ m lo hi t. before m lo hi t r.3 (ℕ_discrete i m))
        where
          before : (m : ℕ) → i ≤ m → m < j → IsThere st g m → ((m : ℕ) → suc i ≤ m → m < j → IsThere st g m → ⊥) → Dec (i ≡ m) → ⊥
          before m lo hi t f (yes is) = here false q m refl is t
          before m lo hi t f (no ne) = f m (omega (arith, ne)) hi t

  -- and where none is found, none is there
  pub first-none : (k i : ℕ) → first_same k st i g ≡ none → (m : ℕ) → i ≤ m → m < i + k → IsThere st g m → ⊥
  unfolding first_same
  first-none zero i e m lo hi t = omega arith
  first-none (suc k) i e m lo hi t = go (is_live st i && same (diagram_in st (get_or st.members i 0)) g) refl e (ℕ_discrete i m)
      (first-none k (suc i))
    where
      go : (b : Bool) → (is_live st i && same (diagram_in st (get_or st.members i 0)) g) ≡ b → cond b (some i) (first_same k st (suc i) g)
          ≡ none → Dec (i ≡ m)
          → (first_same k st (suc i) g ≡ none → (m : ℕ) → suc i ≤ m → m < suc i + k → IsThere st g m → ⊥) → ⊥
      go true q e d ih = let z : ◌≡◌ {A = ℕ} 0 1 = cc in omega arith
      go false q e (yes is) ih = t≢f (sym (subst (λ (x : ℕ). IsThere st g x) (sym is) t) ∙ q)
      go false q e (no ne) ih = ih e m (omega (arith, ne)) (omega arith) t

module _ (n : ℕ) (st : State) (ls : List meaning.Literal) where
  abbrev g : Diagram
  g = meaning.clause n ls

  -- where a member is found
  some-struck : (i : ℕ) → first_same (length st.members) st 0 g ≡ some i → ClauseStruck n st ls (with_marks st (set st.struck i 1))
  some-struck i e = let r = first_some st g (length st.members) 0 i e in record {
    place = i;
    inside = omega (arith, r.1);
    there = r.2;
    lowest = λ m hi t. r.3 m (omega arith) hi t;
    is = refl;
  }

  -- THEOREM: a striking is taken exactly where a live member has the diagram, and the one of lowest place is struck.
  pub struck-taken : (st' : State) → strike_clause n st ls ≡ next st' → ClauseStruck n st ls st'
  unfolding strike_clause
  struck-taken st' e = go (first_same (length st.members) st 0 g) refl e
    where
      go : (o : Option ℕ) → first_same (length st.members) st 0 g ≡ o → strike_found st o ≡ next st' → ClauseStruck n st ls st'
      go none q e = stop-not-next 28 0 st' e
      go (some i) q e =
          subst (ClauseStruck n st ls) (next-is e) (some-struck i q)
        where
          next-is : {x y : State} → next x ≡ next y → x ≡ y
          next-is e = cc

  pub taken-struck : (st' : State) → ClauseStruck n st ls st' → strike_clause n st ls ≡ next st'
  unfolding strike_clause
  taken-struck st' C = go (first_same (length st.members) st 0 g) refl
    where
      same_place : (i : ℕ) → first_same (length st.members) st 0 g ≡ some i → i ≡ C.place
      same_place i q =
          let r = first_some st g (length st.members) 0 i q in
          let up : i < C.place → ⊥ = λ lt. C.lowest i lt r.2 in
          let down : C.place < i → ⊥ = λ lt. r.3 C.place (omega arith) lt C.there in
          omega (arith, up, down)

      go : (o : Option ℕ) → first_same (length st.members) st 0 g ≡ o → strike_found st o ≡ next st'
      go none q = absurd (first-none st g (length st.members) 0 q C.place (omega arith) (omega (arith, C.inside)) C.there)
      go (some i) q = ap next (ap (λ (k : ℕ). with_marks st (set st.struck k 1)) (same_place i q) ∙ C.is)

  -- "an absent clause to strike with 28"
  pub absent-refused : ((m : ℕ) → m < length st.members → IsThere st g m → ⊥) → strike_clause n st ls ≡ stop 28 0
  unfolding strike_clause
  absent-refused none-there = go (first_same (length st.members) st 0 g) refl
    where
      go : (o : Option ℕ) → first_same (length st.members) st 0 g ≡ o → strike_found st o ≡ stop 28 0
      go none q = refl
      go (some i) q = let r = first_some st g (length st.members) 0 i q in absurd (none-there i (omega (arith, r.1)) r.2)
