-- Cofactors by literals, one after the other: together they are one, negation commutes with them, and literals that are set already change
-- nothing; a diagram's units are set by any literals together with the units that they leave it. The idea: each is about one variable of an
-- assignment. Assumes nothing.
use mathlib.Core.Path.{◌≡◌, refl, sym, ap, ap₂, ◌∙◌}
use mathlib.Core.Logic.{◌≢◌}
use mathlib.Core.Bool.{Bool, true, false, not, ◌&&◌, ◌||◌, cond, beq}
use mathlib.Core.List.{[], ◌∷◌}
use Prim.Native.Nat.{ℕ, suc, ◌+◌, ◌≤◌, ◌<◌}
use native.Mathlib.Omega.{arith}
use lib.ListN.{length}
use Rattle.meaning.specs.Diagram.{Assignment, holds, Diagram, leaf, value}
use Rattle.meaning.specs.Operations.{negation, forced, cofactor_literals, is_unit}
use Rattle.meaning.proofs.Booleans.{t≢f, not-true, or_right, eq-beq}
use Rattle.meaning.proofs.Assignments.{all-every}
use Rattle.meaning.proofs.Values.{diagram-cong}
use Rattle.meaning.proofs.Pointwise.{forced-length, forced-at, negation-value, literals-value, literals-reduced}
use Rattle.meaning.proofs.Nearest.{sat-of}
use Rattle.meaning.proofs.Units.{unit-holds}

-- ---- two cofactors are one

-- The variables that P, N and then P', N' make true, and those that they make false: what is set first stays.
abbrev pub then_true : (ℕ → Bool) → (ℕ → Bool) → (ℕ → Bool) → ℕ → Bool
then_true P N P' v = P v || (not (N v) && P' v)

abbrev pub then_false : (ℕ → Bool) → (ℕ → Bool) → ℕ → Bool
then_false N N' v = N v || N' v

module _ (P N P' N' : ℕ → Bool) where
  forced-then : (i : ℕ) (a : Assignment) → forced P N i (forced P' N' i a) ≡ forced (then_true P N P') (then_false N N') i a
  unfolding forced
  forced-then i [] = refl
  forced-then i (b ∷ a) = ap₂ ◌∷◌ (go (P i) (N i) (P' i) (N' i)) (forced-then (suc i) a)
    where
      go : (p q p' q' : Bool) → cond p true (cond q false (cond p' true (cond q' false b)))
          ≡ cond (p || (not q && p')) true (cond (q || q') false b)
      go true q p' q' = refl
      go false true p' q' = refl
      go false false p' q' = refl

  pub literals-then : (n : ℕ) (f : Diagram) → cofactor_literals n P' N' (cofactor_literals n P N f)
      ≡ cofactor_literals n (then_true P N P') (then_false N N') f
  unfolding cofactor_literals
  literals-then n f = diagram-cong n _ _ λ a len.
      literals-value n (forced P' N' 1 a) (forced-length P' N' 1 a ∙ len) P N f ∙ ap (value f) (forced-then 1 a)

-- ---- literals that are set already

-- P', N' set the k variables from i on as P, N do, where these set them.
abbrev pub SetBy : (ℕ → Bool) → (ℕ → Bool) → (ℕ → Bool) → (ℕ → Bool) → ℕ → ℕ → Type 0
SetBy P N P' N' i k = (v : ℕ) → i ≤ v → v < i + k → (P v ≡ true → P' v ≡ true) × (N v ≡ true → (P' v ≡ false) × (N' v ≡ true))

module _ (P N P' N' : ℕ → Bool) where
  forced-set : (i : ℕ) (a : Assignment) → SetBy P N P' N' i (length a) → forced P N i (forced P' N' i a) ≡ forced P' N' i a
  unfolding forced
  forced-set i [] S = refl
  forced-set i (b ∷ a) S =
      let (trues, falses) = S i (omega arith) (omega arith) in
      ap₂ ◌∷◌ (go (P i) (N i) (P' i) (N' i) trues falses) (forced-set (suc i) a (λ v p q. S v (omega arith) (omega arith)))
    where
      go : (p q p' q' : Bool) → (p ≡ true → p' ≡ true) → (q ≡ true → (p' ≡ false) × (q' ≡ true))
          → cond p true (cond q false (cond p' true (cond q' false b))) ≡ cond p' true (cond q' false b)
      go true q p' q' x y = rw (x refl)
      go false true p' q' x y = rw ((y refl).0, (y refl).1)
      go false false p' q' x y = refl

  pub literals-set : (n : ℕ) (f : Diagram) → SetBy P N P' N' 1 n → cofactor_literals n P' N' (cofactor_literals n P N f)
      ≡ cofactor_literals n P' N' f
  unfolding cofactor_literals
  literals-set n f S = diagram-cong n _ _ λ a len.
      literals-value n (forced P' N' 1 a) (forced-length P' N' 1 a ∙ len) P N f
      ∙ ap (value f) (forced-set 1 a (λ v p q. S v p (omega arith)))

-- ---- negation

pub literals-negation : (n : ℕ) (P N : ℕ → Bool) (g : Diagram) → cofactor_literals n P N (negation n g)
    ≡ negation n (cofactor_literals n P N g)
unfolding cofactor_literals negation
literals-negation n P N g = diagram-cong n _ _ λ a len.
    negation-value n (forced P N 1 a) (forced-length P N 1 a ∙ len) g ∙ ap not (sym (literals-value n a len P N g))

-- ---- units under literals

-- a literal that holds wherever f is 1 is a unit
unit-by : (n : ℕ) (f : Diagram) (v : ℕ) (s : Bool) → ((a : Assignment) → length a ≡ n → value f a ≡ true → holds a v ≡ s) → is_unit n f v s
    ≡ true
unfolding is_unit
unit-by n f v s h = all-every n _ (λ a len. go (value f a) (h a len))
  where
    go : {x : Bool} (y : Bool) → (y ≡ true → x ≡ s) → (beq x s || not y) ≡ true
    go {x} true k = rw (eq-beq x s (k refl))
    go {x} false k = or_right (beq x s) true refl

module _ (n : ℕ) (P N : ℕ → Bool) (u : Diagram) (some : cofactor_literals n P N u ≢ leaf false) where
  abbrev left : Diagram
  left = cofactor_literals n P N u

  -- an assignment that satisfies what the literals leave of u
  satisfied : (a : Assignment) × (length a ≡ n) × (value left a ≡ true)
  satisfied = sat-of n 1 (suc n) left (omega arith) (literals-reduced n P N u) some

  module _ (v : ℕ) (lo : 1 ≤ v) (hi : v ≤ n) where
    -- where what is left of u is 1, u's units hold in the assignment with the literals made true
    held : (s : Bool) → is_unit n u v s ≡ true → (a : Assignment) → length a ≡ n → value left a ≡ true →
        cond (P v) true (cond (N v) false (holds a v)) ≡ s
    held s x a len t =
        sym (forced-at P N 1 a v lo (omega arith))
        ∙ unit-holds n u v s (forced P N 1 a) x (forced-length P N 1 a ∙ len) (sym (literals-value n a len P N u) ∙ t)

    held-true : is_unit n u v true ≡ true → then_true P N (λ v. is_unit n left v true) v ≡ true
    held-true x = go (P v) (N v) (held true x)
      where
        go : (p q : Bool) → ((a : Assignment) → length a ≡ n → value left a ≡ true → cond p true (cond q false (holds a v)) ≡ true) →
            (p || (not q && is_unit n left v true)) ≡ true
        go true q h = refl
        go false true h = t≢f (sym (h satisfied.0 satisfied.1 satisfied.2))
        go false false h = unit-by n left v true h

    held-false : is_unit n u v false ≡ true → (then_true P N (λ v. is_unit n left v true) v ≡ false)
        × (then_false N (λ v. is_unit n left v false) v ≡ true)
    held-false x = go (P v) (N v) (held false x)
      where
        go : (p q : Bool) → ((a : Assignment) → length a ≡ n → value left a ≡ true → cond p true (cond q false (holds a v)) ≡ false)
            → ((p || (not q && is_unit n left v true)) ≡ false) × ((q || is_unit n left v false) ≡ true)
        go true q h = t≢f (h satisfied.0 satisfied.1 satisfied.2)
        go false true h = (refl, refl)
        go false false h =
            let (a, len, t) = satisfied in
            (not-true (is_unit n left v true) (λ y. t≢f (sym (unit-holds n left v true a y len t) ∙ h a len t)), unit-by n left v false h)

  -- u's units are set by the literals and then the units of what these leave of u
  pub units-set : SetBy (λ v. is_unit n u v true) (λ v. is_unit n u v false) (then_true P N (λ v. is_unit n left v true))
      (then_false N (λ v. is_unit n left v false)) 1 n
  units-set v lo hi = (held-true v lo (omega arith), held-false v lo (omega arith))
