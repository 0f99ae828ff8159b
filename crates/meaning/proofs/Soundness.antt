-- The rules are sound: a propagation that conflicts has members that no assignment satisfies together, a shown RUP line is 1 wherever all
-- members are, and a shown PR line keeps satisfiability. The idea: an assignment that satisfies the members satisfies what the rules make
-- of them; the witness turns one that does not satisfy the line into one that does. Assumes nothing.
use mathlib.Core.Path.{◌≡◌, refl, sym, ap, ◌∙◌}
use mathlib.Core.Bool.{Bool, true, false, not, cond}
use mathlib.Core.List.{List, [], ◌∷◌, map}
use mathlib.Core.Option.{Option, none, some}
use Prim.Native.Nat.{ℕ, zero, suc, ◌-◌}
use native.Mathlib.Omega.{arith}
use lib.ListN.{length, get_or}
use lib.Seq.{ext_get_or}
use Rattle.meaning.specs.Diagram.{Assignment, Diagram, leaf, same, value_from, value}
use Rattle.meaning.specs.Operations.{negation, forced, cofactor_literals, cofactor, is_unit}
use Rattle.meaning.specs.Rules.{any, conflicts, has_unit, first_with_unit, by_units, round, still, taking, propagate, unit_prop, by_diagram}
use Rattle.meaning.specs.Rules.{rup, after_turn, pr_turns, witnessed, pr}
use Rattle.meaning.proofs.Booleans.{t≢f, not-true, not-not, and_both, or_cases}
use Rattle.meaning.proofs.Pointwise.{forced-at, forced-length, negation-value, literals-value}
use Rattle.meaning.proofs.Cofactor.{cofactor-where}
use Rattle.meaning.proofs.Units.{same-eq, unit-holds}

-- The assignment satisfies every member.
abbrev pub Satisfies : Assignment → List Diagram → Type 0
Satisfies a [] = Unit {0}
Satisfies a (f ∷ fs) = (value f a ≡ true) × Satisfies a fs

-- members changed so that their values at a stay
map-satisfies : (g : Diagram → Diagram) (ms : List Diagram) (a : Assignment) → ((f : Diagram) → value (g f) a ≡ value f a) →
    Satisfies a ms → Satisfies a (map g ms)
map-satisfies g [] a h s = tt
map-satisfies g (f ∷ fs) a h s = (h f ∙ s.0, map-satisfies g fs a h s.1)

-- ---- conflicts

any-satisfied : (p : Diagram → Bool) (ms : List Diagram) (a : Assignment) → any p ms ≡ true → Satisfies a ms → (f : Diagram) × (p f ≡ true)
    × (value f a ≡ true)
unfolding any
any-satisfied p [] a e s = t≢f (sym e)
any-satisfied p (f ∷ fs) a e s = or_cases (p f) (any p fs) e (λ x. (f, x, s.0)) (λ x. any-satisfied p fs a x s.1)

conflicts-sound : (n : ℕ) (ms : List Diagram) (a : Assignment) → length a ≡ n → conflicts n ms ≡ true → Satisfies a ms → ⊥
unfolding conflicts value_from
conflicts-sound n ms a len e s =
    or_cases (any (same (leaf false)) ms) (any (λ f. any (λ g. same f (negation n g)) ms) ms) e
    (λ x. let (f, z, v) = any-satisfied (same (leaf false)) ms a x s in
    t≢f (sym v ∙ sym (ap (λ (t : Diagram). value t a) (same-eq (leaf false) f z))))
    (λ x. let (f, z, v) = any-satisfied (λ f. any (λ g. same f (negation n g)) ms) ms a x s in
    let (g, y, w) = any-satisfied (λ g. same f (negation n g)) ms a z s in
    t≢f (sym v ∙ ap (λ (t : Diagram). value t a) (same-eq f (negation n g) y) ∙ negation-value n a len g ∙ ap not w))

-- ---- UnitProp

first-satisfied : (n : ℕ) (ms : List Diagram) (a : Assignment) (u : Diagram) → first_with_unit n ms ≡ some u → Satisfies a ms → value u a
    ≡ true
unfolding first_with_unit
first-satisfied n [] a u e s = cc
first-satisfied n (f ∷ fs) a u e s = go (has_unit n n f) e (λ e'. first-satisfied n fs a u e' s.1)
  where
    go : (b : Bool) → cond b (some f) (first_with_unit n fs) ≡ some u → (first_with_unit n fs ≡ some u → value u a ≡ true) → value u a
        ≡ true
    go true e ih = let p : f ≡ u = cc in rw p at s.0
    go false e ih = ih e

-- an assignment that satisfies u has u's units already
forced-units : (n : ℕ) (u : Diagram) (a : Assignment) → length a ≡ n → value u a ≡ true →
    forced (λ v. is_unit n u v true) (λ v. is_unit n u v false) 1 a ≡ a
forced-units n u a len t = ext_get_or false (forced P N 1 a) a (forced-length P N 1 a) λ j lt.
    let z : suc j - 1 ≡ j = omega arith in
    (rw z at (forced-at P N 1 a (suc j) (omega arith) (omega (arith, forced-length P N 1 a))))
    ∙ go (P (suc j)) (N (suc j)) (get_or a j false)
    (λ e. rw z at (unit-holds n u (suc j) true a e len t)) (λ e. rw z at (unit-holds n u (suc j) false a e len t))
  where
    P : ℕ → Bool
    P v = is_unit n u v true

    N : ℕ → Bool
    N v = is_unit n u v false

    go : (x y b : Bool) → (x ≡ true → b ≡ true) → (y ≡ true → b ≡ false) → cond x true (cond y false b) ≡ b
    go true y b p q = sym (p refl)
    go false true b p q = sym (q refl)
    go false false b p q = refl

propagate-sound : (most n : ℕ) (ms : List Diagram) → (propagate most n ms).conflict ≡ true → (a : Assignment) → length a ≡ n →
    Satisfies a ms → ⊥
unfolding propagate
propagate-sound zero n ms e a len s = conflicts-sound n ms a len e s
propagate-sound (suc most) n ms e a len s = go (conflicts n ms) refl (first_with_unit n ms) refl e
    (λ u e. propagate-sound most n (by_units n u ms) e a len)
  where
    go : (b : Bool) → conflicts n ms ≡ b → (x : Option Diagram) → first_with_unit n ms ≡ x
        → (cond b (still true) (taking x (λ u. round (by_units n u ms) (propagate most n (by_units n u ms))))).conflict ≡ true
        → ((u : Diagram) → (propagate most n (by_units n u ms)).conflict ≡ true → Satisfies a (by_units n u ms) → ⊥) → ⊥
    go true p x q e ih = conflicts-sound n ms a len p s
    go false p none q e ih = t≢f (sym e)
    go false p (some u) q e ih =
        ih u e (map-satisfies _ ms a (λ f. literals-value n a len _ _ f
        ∙ ap (value f) (forced-units n u a len (first-satisfied n ms a u q s))) s)

pub unit_prop-sound : (n : ℕ) (ms : List Diagram) → (unit_prop n ms).conflict ≡ true → (a : Assignment) → length a ≡ n → Satisfies a ms → ⊥
unfolding unit_prop
unit_prop-sound n ms e a len s = propagate-sound n n ms e a len s

-- ---- RUP

-- members cofactored by g keep their values where g is 1
by-satisfies : (n : ℕ) (g : Diagram) (ms : List Diagram) (a : Assignment) → length a ≡ n → value g a ≡ true → Satisfies a ms →
    Satisfies a (by_diagram n g ms)
by-satisfies n g ms a len t s = map-satisfies (λ f. cofactor n f g) ms a (λ f. cofactor-where n f g a len t) s

-- the members by not-g conflict: g is 1 where they all are
pub refuted : (n : ℕ) (g : Diagram) (ms : List Diagram) → (unit_prop n (by_diagram n (negation n g) ms)).conflict ≡ true
    → (a : Assignment) → length a ≡ n → Satisfies a ms → value g a ≡ true
refuted n g ms e a len s =
    sym (not-not (value g a))
    ∙ ap not (not-true (not (value g a)) λ z.
    unit_prop-sound n (by_diagram n (negation n g) ms) e a len (by-satisfies n (negation n g) ms a len (negation-value n a len g ∙ z) s))

-- A shown RUP line follows from the members.
pub rup-sound : (n : ℕ) (ms : List Diagram) (g : Diagram) → (rup n ms g).shown ≡ true → (a : Assignment) → length a ≡ n → Satisfies a ms →
    value g a ≡ true
unfolding rup
rup-sound n ms g e a len s = refuted n g ms e a len s

-- ---- PR

module _ (n : ℕ) (P N : ℕ → Bool) (a : Assignment) (len : length a ≡ n) where
  -- what is 1 under the witness
  one-satisfied : (f : Diagram) → same (cofactor_literals n P N f) (leaf true) ≡ true → value f (forced P N 1 a) ≡ true
  unfolding value_from
  one-satisfied f e = sym (literals-value n a len P N f) ∙ ap (λ (t : Diagram). value t a)
      (same-eq (cofactor_literals n P N f) (leaf true) e)

  turns-satisfied : (ms' : List Diagram) → Satisfies a ms' → (fs : List Diagram) → (pr_turns n P N ms' fs).shown ≡ true →
      Satisfies (forced P N 1 a) fs
  unfolding pr_turns
  turns-satisfied ms' s [] e = tt
  turns-satisfied ms' s (f ∷ fs) e = go (same h (leaf true)) refl e (turns-satisfied ms' s fs)
    where
      h : Diagram
      h = cofactor_literals n P N f

      second : List Diagram
      second = by_diagram n (negation n h) ms'

      go : (b : Bool) → same h (leaf true) ≡ b
          → (cond b (pr_turns n P N ms' fs) (after_turn (unit_prop n second) (h ∷ negation n h ∷ second) (pr_turns n P N ms' fs))).shown
          ≡ true
          → ((pr_turns n P N ms' fs).shown ≡ true → Satisfies (forced P N 1 a) fs) → Satisfies (forced P N 1 a) (f ∷ fs)
      go true p e ih = (one-satisfied f p, ih e)
      go false p e ih =
          let b : ((unit_prop n second).conflict ≡ true) × ((pr_turns n P N ms' fs).shown ≡ true) =
          and_both (unit_prop n second).conflict (pr_turns n P N ms' fs).shown e in
          (sym (literals-value n a len P N f) ∙ refuted n h ms' b.0 a len s, ih b.1)

-- A shown PR line keeps satisfiability: where the members have an assignment, they have one that satisfies the line too.
pub pr-sound : (n : ℕ) (P N : ℕ → Bool) (ms : List Diagram) (g : Diagram) → witnessed n P N g ≡ true → (pr n P N ms g).shown ≡ true
    → (a : Assignment) → length a ≡ n → Satisfies a ms → (b : Assignment) × (length b ≡ n) × Satisfies b ms × (value g b ≡ true)
unfolding pr witnessed
pr-sound n P N ms g w e a len s = go (value g a) refl
  where
    go : (x : Bool) → value g a ≡ x → (b : Assignment) × (length b ≡ n) × Satisfies b ms × (value g b ≡ true)
    go true p = (a, len, s, p)
    go false p = (
      forced P N 1 a,
      forced-length P N 1 a ∙ len,
      turns-satisfied n P N a len (by_diagram n (negation n g) ms)
          (by-satisfies n (negation n g) ms a len (negation-value n a len g ∙ ap not p) s) ms e,
      one-satisfied n P N a len g w,
    )
