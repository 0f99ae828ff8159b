-- The assignments with fewer than k true variables, counted one by one, are as many as the binomials below k add up to. The idea: both
-- fall by the first variable, the count because an assignment makes it false or true, the sum by Pascal's rule. Assumes nothing.
use mathlib.Core.Path.{◌≡◌, refl, sym, ap₂, ◌∙◌}
use mathlib.Core.Bool.{Bool, true, false, cond}
use mathlib.Core.List.{List, [], ◌∷◌, ◌++◌, map}
use Prim.Native.Nat.{ℕ, zero, suc, ◌+◌, ◌-◌, ◌≤◌, ◌<◌, min}
use native.Mathlib.Omega.{arith}
use native.Mathlib.Decide.{dec_lt}
use lib.Dec.{ltb}
use borrow.Author.Tests.{lt-ltb, le-ltb}
use Rattle.meaning.specs.Diagram.{Assignment}
use Rattle.meaning.specs.Operations.{assignments}
use Rattle.binomial.specs.Binomials.{choose, trues, makes_fewer, fewer, excluded}

-- C(n, 0) + .. + C(n, k - 1)
unfoldable pub sum_below : ℕ → ℕ → ℕ
unfolding choose
sum_below n zero = 0
sum_below n (suc k) = sum_below n k + choose n k

-- ---- the count

none-makes : (a : Assignment) → makes_fewer 0 a ≡ false
unfolding makes_fewer
none-makes a = le-ltb (trues a) 0 (omega arith)

empty-makes : (k : ℕ) → makes_fewer (suc k) [] ≡ true
unfolding makes_fewer trues
empty-makes k = lt-ltb 0 (suc k) (omega arith)

ltb-suc : (a b : ℕ) → ltb (suc a) (suc b) ≡ ltb a b
ltb-suc a b = elim (dec_lt a b) [
  | yes h ↦ lt-ltb (suc a) (suc b) (omega arith) ∙ sym (lt-ltb a b h)
  | no h ↦ le-ltb (suc a) (suc b) (omega (arith, h)) ∙ sym (le-ltb a b (omega (arith, h)))
]

true-makes : (k : ℕ) (a : Assignment) → makes_fewer (suc k) (true ∷ a) ≡ makes_fewer k a
unfolding makes_fewer trues
true-makes k a = ltb-suc (trues a) k

false-makes : (k : ℕ) (a : Assignment) → makes_fewer k (false ∷ a) ≡ makes_fewer k a
unfolding makes_fewer trues
false-makes k a = refl

add-one-more : (b : Bool) (m n k : ℕ) → m ≡ n + k → cond b (suc m) m ≡ cond b (suc n) n + k
add-one-more true m n k h = omega arith
add-one-more false m n k h = h

none-fewer : (xs : List Assignment) → fewer 0 xs ≡ 0
unfolding fewer
none-fewer [] = refl
none-fewer (a ∷ xs) = rw (none-makes a) (none-fewer xs)

fewer-append : (k : ℕ) (xs ys : List Assignment) → fewer k (xs ++ ys) ≡ fewer k xs + fewer k ys
unfolding fewer
fewer-append k [] ys = omega arith
fewer-append k (a ∷ xs) ys = add-one-more (makes_fewer k a) (fewer k (xs ++ ys)) (fewer k xs) (fewer k ys) (fewer-append k xs ys)

fewer-false : (k : ℕ) (xs : List Assignment) → fewer k (map (◌∷◌ false) xs) ≡ fewer k xs
unfolding fewer
fewer-false k [] = refl
fewer-false k (a ∷ xs) = ap₂ (λ (b : Bool) (m : ℕ). cond b (suc m) m) (false-makes k a) (fewer-false k xs)

fewer-true : (k : ℕ) (xs : List Assignment) → fewer (suc k) (map (◌∷◌ true) xs) ≡ fewer k xs
unfolding fewer
fewer-true k [] = refl
fewer-true k (a ∷ xs) = ap₂ (λ (b : Bool) (m : ℕ). cond b (suc m) m) (true-makes k a) (fewer-true k xs)

excluded-suc : (n k : ℕ) → excluded (suc n) (suc k) ≡ excluded n (suc k) + excluded n k
unfolding excluded assignments
excluded-suc n k =
    fewer-append (suc k) (map (◌∷◌ false) (assignments n)) (map (◌∷◌ true) (assignments n))
    ∙ ap₂ ◌+◌ (fewer-false (suc k) (assignments n)) (fewer-true k (assignments n))

-- ---- the sum

first-row : (k : ℕ) → sum_below 0 (suc k) ≡ 1
unfolding sum_below
first-row zero = refl
first-row (suc k) = let h : sum_below 0 (suc k) ≡ 1 = first-row k in omega arith

sum-suc : (n k : ℕ) → sum_below (suc n) (suc k) ≡ sum_below n (suc k) + sum_below n k
unfolding sum_below
sum-suc n zero = refl
sum-suc n (suc k) = let h : sum_below (suc n) (suc k) ≡ sum_below n (suc k) + sum_below n k = sum-suc n k in omega arith

-- ---- the two are one

-- "k = 0": nothing is excluded
excluded-none : (n : ℕ) → excluded n 0 ≡ 0
unfolding excluded
excluded-none n = none-fewer (assignments n)

one-excluded : (k : ℕ) → excluded 0 (suc k) ≡ 1
unfolding excluded fewer assignments
one-excluded k = rw (empty-makes k)

no-sum : (n : ℕ) → sum_below n 0 ≡ 0
unfolding sum_below
no-sum n = refl

pub excluded-is : (n k : ℕ) → excluded n k ≡ sum_below n k
excluded-is n zero = excluded-none n ∙ sym (no-sum n)
excluded-is zero (suc k) = one-excluded k ∙ sym (first-row k)
excluded-is (suc n) (suc k) = excluded-suc n k ∙ ap₂ ◌+◌ (excluded-is n (suc k)) (excluded-is n k) ∙ sym (sum-suc n k)

-- ---- where the sum ends

choose-beyond : (n k : ℕ) → n < k → choose n k ≡ 0
unfolding choose
choose-beyond n zero h = absurd (omega arith)
choose-beyond zero (suc k) h = refl
choose-beyond (suc n) (suc k) h =
    let a : choose n k ≡ 0 = choose-beyond n k (omega arith) in
    let b : choose n (suc k) ≡ 0 = choose-beyond n (suc k) (omega arith) in
    omega arith

sum-beyond : (n k d : ℕ) → n < k → sum_below n (k + d) ≡ sum_below n k
unfolding sum_below
sum-beyond n k zero h = let e : k + 0 ≡ k = omega arith in rw e
sum-beyond n k (suc d) h =
    let e : k + suc d ≡ suc (k + d) = omega arith in
    let z : choose n (k + d) ≡ 0 = choose-beyond n (k + d) (omega arith) in
    let i : sum_below n (k + d) ≡ sum_below n k = sum-beyond n k d h in
    rw e (omega arith)

-- Binomials of n from 33 on are 0.
pub sum_to : (n k end : ℕ) → n ≤ 32 → end ≡ min k 33 → sum_below n k ≡ sum_below n end
sum_to n k end h e = elim (dec_lt 33 k) [
  | yes q ↦ let z : k ≡ 33 + (k - 33) = omega arith in let w : end ≡ 33 = omega arith in rw (z, w) (sum-beyond n 33 (k - 33) (omega arith))
  | no q ↦ let z : end ≡ k = omega (arith, q) in rw z
]

pub sum-none : (n : ℕ) → sum_below n 0 ≡ 0
sum-none = no-sum

pub sum_more : (n k : ℕ) → sum_below n (k + 1) ≡ sum_below n k + choose n k
unfolding sum_below
sum_more n k = let e : k + 1 ≡ suc k = omega arith in rw e
