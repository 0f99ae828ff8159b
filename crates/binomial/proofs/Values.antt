-- The assignments that an at-least diagram excludes, counted one by one over its values, are those of its set with fewer than k true
-- variables. The idea: an assignment of the set's variables alone, spread over all, has as many true ones. Assumes nothing.
use mathlib.Core.Path.{◌≡◌, refl, sym, ap, ◌∙◌}
use mathlib.Core.Logic.{inl, inr}
use mathlib.Core.Bool.{Bool, true, false, cond, and-false}
use mathlib.Core.List.{List, [], ◌∷◌}
use Prim.Native.Nat.{ℕ, zero, suc}
use native.Mathlib.Omega.{arith}
use native.Mathlib.Decide.{dec_lt}
use lib.ListN.{length}
use lib.Dec.{leb, ltb}
use borrow.Author.Tests.{le-leb, lt-leb, lt-ltb, le-ltb}
use Rattle.meaning.specs.Diagram.{Assignment, value}
use Rattle.meaning.specs.Operations.{assignments}
use Rattle.meaning.specs.Sets.{trues_from, at_least_value, at_least, size_from, size_of, spread_from, false_on, excluded_by}
use Rattle.meaning.proofs.Assignments.{Listed, AllLong, all-long}
use Rattle.meaning.proofs.Sets.{trues-in, trues-out, size_in, size-out, size-end, at_least-value}
use Rattle.binomial.specs.Binomials.{trues, makes_fewer, fewer, excluded}

-- ---- an assignment of the set's variables, spread

module _ (S : ℕ → Bool) where
  one-long : (k i : ℕ) (b x : Bool) (a : Assignment) → length (spread_from S k (suc i) a) ≡ k → length (spread_from S k (suc i) (b ∷ a)) ≡ k
      → length (cond x (b ∷ spread_from S k (suc i) a) (false ∷ spread_from S k (suc i) (b ∷ a))) ≡ suc k
  one-long k i b true a p q = ap suc p
  one-long k i b false a p q = ap suc q

  length-spread : (k i : ℕ) (a : Assignment) → length (spread_from S k i a) ≡ k
  unfolding spread_from
  length-spread zero i a = refl
  length-spread (suc k) i [] = ap suc (length-spread k (suc i) [])
  length-spread (suc k) i (b ∷ a) = one-long k i b (S i) a (length-spread k (suc i) a) (length-spread k (suc i) (b ∷ a))

  spread-in : (k i : ℕ) (b : Bool) (a : Assignment) → S i ≡ true → spread_from S (suc k) i (b ∷ a) ≡ b ∷ spread_from S k (suc i) a
  unfolding spread_from
  spread-in k i b a e = rw e

  spread-out : (k i : ℕ) (b : Bool) (a : Assignment) → S i ≡ false → spread_from S (suc k) i (b ∷ a) ≡ false ∷
      spread_from S k (suc i) (b ∷ a)
  unfolding spread_from
  spread-out k i b a e = rw e

  trues-cons : (b : Bool) (a : Assignment) → trues (b ∷ a) ≡ cond b (suc (trues a)) (trues a)
  unfolding trues
  trues-cons b a = refl

  trues-none : (k i : ℕ) → trues_from S i (spread_from S k i []) ≡ trues []
  unfolding trues_from spread_from trues
  trues-none zero i = refl
  trues-none (suc k) i = rw (and-false (S i)) (trues-none k (suc i))

  step : (k i : ℕ) (b : Bool) (a : Assignment) →
      (length a ≡ size_from S k (suc i) → trues_from S (suc i) (spread_from S k (suc i) a) ≡ trues a)
      → (length (b ∷ a) ≡ size_from S k (suc i) → trues_from S (suc i) (spread_from S k (suc i) (b ∷ a)) ≡ trues (b ∷ a))
      → length (b ∷ a) ≡ size_from S (suc k) i → (x : Bool) → S i ≡ x → trues_from S i (spread_from S (suc k) i (b ∷ a)) ≡ trues (b ∷ a)
  step k i b a one two len true e =
      let n : length a ≡ size_from S k (suc i) = omega (arith, len, size_in S k i e) in
      ap (trues_from S i) (spread-in k i b a e) ∙ trues-in S i b (spread_from S k (suc i) a) e ∙ ap (λ (m : ℕ). cond b (suc m) m) (one n)
      ∙ sym (trues-cons b a)
  step k i b a one two len false e =
      ap (trues_from S i) (spread-out k i b a e) ∙ trues-out S i false (spread_from S k (suc i) (b ∷ a)) e ∙ two (len ∙ size-out S k i e)

  trues-spread : (k i : ℕ) (a : Assignment) → length a ≡ size_from S k i → trues_from S i (spread_from S k i a) ≡ trues a
  trues-spread k i [] len = trues-none k i
  trues-spread zero i (b ∷ a) len = absurd (omega (arith, len, size-end S i))
  trues-spread (suc k) i (b ∷ a) len = step k i b a (trues-spread k (suc i) a) (trues-spread k (suc i) (b ∷ a)) len (S i) refl

  -- the diagram's value under an assignment of the set's variables
  excluded-values : (n k : ℕ) (a : Assignment) → length a ≡ size_of n S → value (at_least n S k) (spread_from S n 1 a) ≡ leb k (trues a)
  unfolding size_of at_least_value
  excluded-values n k a len = at_least-value S n k (spread_from S n 1 a) (length-spread n 1 a) ∙ ap (leb k) (trues-spread n 1 a len)

-- ---- counted one by one

pick : (k t m n : ℕ) (x : Bool) → x ≡ leb k t → m ≡ n → cond x m (suc m) ≡ cond (ltb t k) (suc n) n
pick k t m n x e q = elim (dec_lt t k) [
  | yes h ↦ rw (e ∙ lt-leb k t h, lt-ltb t k h, q)
  | no h ↦ rw (e ∙ le-leb k t (omega (arith, h)), le-ltb t k (omega (arith, h)), q)
]

false-fewer : (f : Assignment → Bool) (k : ℕ) (list : List Assignment) → ((a : Assignment) → Listed a list → f a ≡ leb k (trues a)) →
    false_on f list ≡ fewer k list
unfolding false_on fewer makes_fewer
false-fewer f k [] is = refl
false-fewer f k (a ∷ rest) is = pick k (trues a) (false_on f rest) (fewer k rest) (f a) (is a (inl refl))
    (false-fewer f k rest (λ b h. is b (inr h)))

-- the count by binomials is the count over the diagram's values
pub excluded-counts : (S : ℕ → Bool) (n k : ℕ) → excluded_by n S k ≡ excluded (size_of n S) k
unfolding excluded_by excluded AllLong
excluded-counts S n k =
    false-fewer (λ a. value (at_least n S k) (spread_from S n 1 a)) k (assignments (size_of n S))
    (λ a h. excluded-values S n k a (all-long (size_of n S) a h))
