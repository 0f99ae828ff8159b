-- A member has a unit exactly where one of the two words of its units is not 0, and the first such member is the one that a round
-- takes. The idea: a word without variables is 0. Assumes nothing.
use mathlib.Core.Path.{◌≡◌, refl, sym, ap, ap₂, ◌∙◌, subst}
use mathlib.Core.Logic.{inl, inr, ⊎_elim}
use mathlib.Core.Bool.{Bool, true, false, ◌||◌, cond}
use mathlib.Core.List.{List, [], ◌∷◌}
use mathlib.Core.Option.{none, some}
use Prim.Native.Nat.{ℕ, zero, suc, ◌+◌, ◌-◌, ◌^◌, ◌≤◌, ◌<◌}
use native.Mathlib.Omega.{arith}
use native.Mathlib.Numerals.{add-one}
use native.Mathlib.Decide.{ℕ_discrete, dec_lt}
use lib.ListN.{length, get_or, drop, length-map, drop_of_length-le, get_or-map, get_or-eq_default}
use lib.Seq.{drop-cons}
use Rattle.meaning.specs.Diagram.{Diagram, leaf}
use Rattle.meaning.specs.Operations.{is_unit}
use Rattle.meaning.specs.Rules.{has_unit, first_with_unit}
use Rattle.meaning.specs.Words.{in_word}
use Rattle.meaning.proofs.Booleans.{or-neither}
use Rattle.meaning.proofs.Words.{in-none}
use Rattle.table.specs.Nodes.{Node, diagram_at}
use Rattle.table.proofs.Numbers.{diagram_at-zero}
use Rattle.words.specs.declared.Literals.{Literals}
use Rattle.words.specs.Sets.{has}
use Rattle.words.proofs.Variables.{word-zero}
use Rattle.units.specs.Units.{UnitsAt}
use Rattle.table.specs.Lists.{diagrams_of}
use Rattle.touched.specs.Places.{behind, Rising}
use Rattle.touched.proofs.Places.{get_or-inside, get_or-more}
use Rattle.unit_search.specs.Units.{UnitsTaken, Unitless, UnitsAsked, Behind, NextPlace, Skips, UnitlessTo}

-- ---- units

has-step : (n v : ℕ) (f : Diagram) → has_unit n (suc v) f ≡ ((is_unit n f (suc v) true || is_unit n f (suc v) false) || has_unit n v f)
unfolding has_unit
has-step n v f = refl

has-none : (n : ℕ) (f : Diagram) → has_unit n zero f ≡ false
unfolding has_unit
has-none n f = refl

-- Neither literal of the variable v is a unit.
abbrev NoUnit : ℕ → Diagram → ℕ → Type 0
NoUnit n f v = (is_unit n f v true ≡ false) × (is_unit n f v false ≡ false)

no-units : (n k : ℕ) (f : Diagram) → ((v : ℕ) → 1 ≤ v → v ≤ k → NoUnit n f v) → has_unit n k f ≡ false
no-units n zero f h = has-none n f
no-units n (suc k) f h =
    let z : NoUnit n f (suc k) = h (suc k) (omega arith) (omega arith) in
    has-step n k f ∙ ap₂ ◌||◌ (ap₂ ◌||◌ z.0 z.1) (no-units n k f (λ v lo hi. h v lo (omega arith)))

units-none : (n k : ℕ) (f : Diagram) → has_unit n k f ≡ false → (v : ℕ) → 1 ≤ v → v ≤ k → NoUnit n f v
units-none n zero f e v lo hi = absurd (omega arith)
units-none n (suc k) f e v lo hi =
    go (or-neither (is_unit n f (suc k) true || is_unit n f (suc k) false) (has_unit n k f) (sym (has-step n k f) ∙ e))
    (λ z less. units-none n k f z v lo less) (ℕ_discrete v (suc k))
  where
    go : ((is_unit n f (suc k) true || is_unit n f (suc k) false) ≡ false) × (has_unit n k f ≡ false) →
        (has_unit n k f ≡ false → v ≤ k → NoUnit n f v) → Dec (v ≡ suc k) → NoUnit n f v
    go z ih (yes q) = subst (NoUnit n f) (sym q) (or-neither (is_unit n f (suc k) true) (is_unit n f (suc k) false) z.0)
    go z ih (no q) = ih z.1 (omega arith)

-- ---- the units of one node, as its two words

module _ (n : ℕ) (t : List Node) (k : ℕ) (u : Literals) (U : UnitsAt n t k u) where
  words-empty : u.positive ≡ 0 → u.negative ≡ 0 → has_unit n n (diagram_at t k) ≡ false
  unfolding UnitsAt has
  words-empty p q =
      no-units n n (diagram_at t k) λ v lo hi. (
        sym (U v true lo hi) ∙ ap (λ (w : ℕ). in_word w v) p ∙ in-none v,
        sym (U v false lo hi) ∙ ap (λ (w : ℕ). in_word w v) q ∙ in-none v,
      )

  module _ (fits-p : u.positive < 2 ^ n) (fits-n : u.negative < 2 ^ n) where
    words-none : has_unit n n (diagram_at t k) ≡ false → (u.positive ≡ 0) × (u.negative ≡ 0)
    unfolding UnitsAt has
    words-none e = (
      word-zero n u.positive fits-p (λ v lo hi. U v true lo hi ∙ (units-none n n (diagram_at t k) e v lo hi).0),
      word-zero n u.negative fits-n (λ v lo hi. U v false lo hi ∙ (units-none n n (diagram_at t k) e v lo hi).1),
    )

    pub words-some : ((u.positive ≡ 0) × (u.negative ≡ 0) → ⊥) → has_unit n n (diagram_at t k) ≡ true
    words-some h = go (has_unit n n (diagram_at t k)) words-none
      where
        go : (b : Bool) → (b ≡ false → (u.positive ≡ 0) × (u.negative ≡ 0)) → b ≡ true
        go true f = refl
        go false f = absurd (h (f refl))

-- ---- the first member that has one

first-cons : (n : ℕ) (f : Diagram) (fs : List Diagram) → first_with_unit n (f ∷ fs) ≡ cond (has_unit n n f) (some f) (first_with_unit n fs)
unfolding first_with_unit
first-cons n f fs = refl

first-nil : (n : ℕ) → first_with_unit n [] ≡ none
unfolding first_with_unit
first-nil n = refl

module _ (n : ℕ) (t : List Node) (list : List ℕ) (i : ℕ) where
  module _ (inside : i < length list) where
    first_step : first_with_unit n (diagrams_of t (drop i list)) ≡ cond (has_unit n n (diagram_at t (get_or list i 0)))
        (some (diagram_at t (get_or list i 0))) (first_with_unit n (diagrams_of t (drop (i + 1) list)))
    first_step =
        ap (λ (l : List ℕ). first_with_unit n (diagrams_of t l)) (drop-cons list i 0 inside)
        ∙ first-cons n (diagram_at t (get_or list i 0)) (diagrams_of t (drop (suc i) list))
        ∙ ap (λ (k : ℕ). cond (has_unit n n (diagram_at t (get_or list i 0))) (some (diagram_at t (get_or list i 0)))
        (first_with_unit n (diagrams_of t (drop k list)))) (sym (add-one i))

    pub first-later : has_unit n n (diagram_at t (get_or list i 0)) ≡ false → first_with_unit n (diagrams_of t (drop i list))
        ≡ first_with_unit n (diagrams_of t (drop (i + 1) list))
    first-later e = first_step ∙ ap (λ (b : Bool). cond b (some (diagram_at t (get_or list i 0)))
        (first_with_unit n (diagrams_of t (drop (i + 1) list)))) e

    pub first-here : first_with_unit n (diagrams_of t list) ≡ first_with_unit n (diagrams_of t (drop i list)) →
        has_unit n n (diagram_at t (get_or list i 0)) ≡ true
        → (u : Literals) → UnitsAt n t (get_or list i 0) u → UnitsTaken n (diagrams_of t list) u
    unfolding UnitsAt
    first-here so_far e u U =
        record {
          member = diagram_at t (get_or list i 0);
          is = so_far ∙ first_step ∙ ap (λ (b : Bool). cond b (some (diagram_at t (get_or list i 0)))
              (first_with_unit n (diagrams_of t (drop (i + 1) list)))) e;
          holds = U;
        }

  pub first-none : length list ≤ i → first_with_unit n (diagrams_of t (drop i list)) ≡ none
  first-none h = ap (λ (l : List ℕ). first_with_unit n (diagrams_of t l)) (drop_of_length-le list {i = i} h) ∙ first-nil n

-- ---- members that are passed over

unitless-next : (ms : List Diagram) (i : ℕ) → Unitless ms i → has_unit 64 64 (get_or ms i (leaf false)) ≡ false → Unitless ms (i + 1)
unitless-next ms i U e k p = go (ℕ_discrete k i)
  where
    go : Dec (k ≡ i) → has_unit 64 64 (get_or ms k (leaf false)) ≡ false
    go (yes z) = ap (λ (j : ℕ). has_unit 64 64 (get_or ms j (leaf false))) z ∙ e
    go (no z) = U k (omega arith)

-- The next place, from `from` on, behind the first k of the places.
module _ (places : List ℕ) (asked k from : ℕ) where
  pub skips-none : asked ≤ from → Skips places asked k from from
  skips-none h = record { from_on = omega arith; most = λ n p q. p; next = inr h; passed = λ j p q. absurd (omega arith) }

  module _ (B : Behind places asked k from) (before : from < asked) where
    behind-is : (k ≤ length places) × (behind places k ≡ from)
    behind-is = ⊎_elim (λ b. b) (λ q. absurd (omega arith)) B

    pub skips-place : Rising places → k < length places → get_or places k 0 < asked → Skips places asked k from (get_or places k 0)
    skips-place R less p =
        record {
          from_on = omega (arith, behind-is.1, R k less);
          most = λ n _ q. omega arith;
          next = inl (less, refl);
          passed = λ j q r. (behind-is.0, omega (arith, behind-is.1), omega (arith, get_or-inside places k 0 asked less), omega arith);
        }

    pub skips-all : (k < length places → asked ≤ get_or places k 0) → Skips places asked k from asked
    skips-all far =
        record {
          from_on = omega arith;
          most = λ n _ q. q;
          next = inr (omega arith);
          passed =
              λ j q r. (behind-is.0, omega (arith, behind-is.1), up_to j r (dec_lt k (length places)), r);
        }
      where
        up_to : (j : ℕ) → j < asked → Dec (k < length places) → j < get_or places k asked
        up_to j r (yes p) = omega (arith, far p, get_or-inside places k 0 asked p)
        up_to j r (no p) = omega (arith, get_or-eq_default places asked {n = k} (omega (arith, p)))

pub behind-next : (places : List ℕ) (asked k place : ℕ) → NextPlace places asked k place → Behind places asked (k + 1) (place + 1)
behind-next places asked k place =
    ⊎_elim (λ n. inl (omega (arith, n.0), ap (behind places) (add-one k) ∙ ap suc n.1 ∙ sym (add-one place)))
    (λ q. inr (omega (arith, q)))

pub unitless-skip : (ms : List Diagram) (places : List ℕ) (asked k from r : ℕ) → UnitsAsked ms places asked → k ≤ from → from ≤ length ms →
    Unitless ms from → Skips places asked k from r
    → UnitlessTo ms places asked r k
unitless-skip ms places asked k from r A fewer inside U S =
    record {
      most = S.most (length ms) inside A.0;
      none = λ j p. go j p (dec_lt j from);
      next = S.next;
      fewer =
          omega (arith, S.from_on);
    }
  where
    go : (j : ℕ) → j < r → Dec (j < from) → has_unit 64 64 (get_or ms j (leaf false)) ≡ false
    go j p (yes q) = U j q
    go j p (no q) =
        let s = S.passed j (omega (arith, q)) p in
        A.1.others k j s.0 s.1 (omega (arith, s.2, get_or-more places k asked (length ms) A.0)) s.3

module _ (t : List Node) (list : List ℕ) where
  member_is : (i : ℕ) → get_or (diagrams_of t list) i (leaf false) ≡ diagram_at t (get_or list i 0)
  member_is i = ap (get_or (diagrams_of t list) i) (sym (diagram_at-zero t)) ∙ get_or-map (diagram_at t) list i 0

  pub first-passed : (i : ℕ) → i ≤ length list → Unitless (diagrams_of t list) i → first_with_unit 64 (diagrams_of t list)
      ≡ first_with_unit 64 (diagrams_of t (drop i list))
  first-passed zero h U = refl
  first-passed (suc i) h U =
      first-passed i (omega arith) (λ k p. U k (omega arith))
      ∙ first-later 64 t list i (omega arith) (ap (has_unit 64 64) (sym (member_is i)) ∙ U i (omega arith))
      ∙ ap (λ (j : ℕ). first_with_unit 64 (diagrams_of t (drop j list))) (add-one i)

-- ---- the member at a place before which none has a unit

module _ (t : List Node) (list : List ℕ) (i : ℕ) (inside : i < length list) (U : Unitless (diagrams_of t list) i) (u : Literals)
    (units : UnitsAt 64 t (get_or list i 0) u) where
  pub taken_here : u.positive < 2 ^ 64 → u.negative < 2 ^ 64 → ((u.positive ≡ 0) × (u.negative ≡ 0) → ⊥)
      → UnitsTaken 64 (diagrams_of t list) u × (i ≤ length (diagrams_of t list)) × Unitless (diagrams_of t list) i
  taken_here fits-p fits-n any = (
    first-here 64 t list i inside (first-passed t list i (omega arith) U) (words-some 64 t (get_or list i 0) u units fits-p fits-n any) u
        units,
    omega (arith, length-map list (diagram_at t)),
    U,
  )

  pub unitless-here : u.positive ≡ 0 → u.negative ≡ 0 → Unitless (diagrams_of t list) (i + 1)
  unitless-here p q = unitless-next (diagrams_of t list) i U
      (ap (has_unit 64 64) (member_is t list i) ∙ words-empty 64 t (get_or list i 0) u units p q)
