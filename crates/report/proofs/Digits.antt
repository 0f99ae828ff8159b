-- Decimal digits: a number below 10 is one digit, any other is the digits of its tenth and one more; a 64-bit number has at most 20.
-- The definition's steps do not matter once they are enough (`decimal-steps`). Assumes nothing.
use mathlib.Core.Path.{◌≡◌, sym, ap, ◌∙◌}
use mathlib.Core.List.{List, [], ◌∷◌, ◌++◌}
use Prim.Native.Nat.{ℕ, zero, suc, ◌+◌, ◌*◌, ◌/◌, ◌%◌, ◌^◌, ◌≤◌, ◌<◌}
use native.Mathlib.Omega.{arith}
use lib.ListN.{length, length-append}
use lib.Dec.{ltb}
use borrow.Author.Tests.{ltb-true, ltb-false, lt-ltb, le-ltb}
use Rattle.dimacs.proofs.Cases.{by}
use Rattle.report.specs.Line.{decimal_by, decimal}

one-digit : (steps n : ℕ) → n < 10 → decimal_by (suc steps) n ≡ (48 + n) ∷ []
unfolding decimal_by
one-digit steps n h = rw (lt-ltb n 10 h)

more-digits : (steps n : ℕ) → 10 ≤ n → decimal_by (suc steps) n ≡ decimal_by steps (n / 10) ++ (48 + n % 10) ∷ []
unfolding decimal_by
more-digits steps n h = rw (le-ltb n 10 h)

decimal-steps : (m k n : ℕ) → n < m → n < k → decimal_by m n ≡ decimal_by k n
decimal-steps zero k n h i = absurd (omega arith)
decimal-steps (suc m) zero n h i = absurd (omega arith)
decimal-steps (suc m) (suc k) n h i =
    by (ltb n 10)
    (λ t. let q : n < 10 = ltb-true n 10 t in one-digit m n q ∙ sym (one-digit k n q))
    (λ f.
    let q : 10 ≤ n = ltb-false n 10 f in
    more-digits m n q
    ∙ ap (λ (ds : List ℕ). ds ++ (48 + n % 10) ∷ []) (decimal-steps m k (n / 10) (omega arith) (omega arith))
    ∙ sym (more-digits k n q))

pub decimal-small : (n : ℕ) → n < 10 → decimal n ≡ (48 + n) ∷ []
decimal-small n h = one-digit n n h

pub decimal-more : (n : ℕ) → 10 ≤ n → decimal n ≡ decimal (n / 10) ++ (48 + n % 10) ∷ []
decimal-more n h =
    more-digits n n h ∙ ap (λ (ds : List ℕ). ds ++ (48 + n % 10) ∷ []) (decimal-steps n (suc (n / 10)) (n / 10) (omega arith) (omega arith))

pub length-small : (n : ℕ) → n < 10 → length (decimal n) ≡ 1
length-small n h = ap {A = List ℕ} length (decimal-small n h)

pub length_more : (n : ℕ) → 10 ≤ n → length (decimal n) ≡ length (decimal (n / 10)) + 1
length_more n h = ap {A = List ℕ} length (decimal-more n h) ∙ length-append (decimal (n / 10)) ((48 + n % 10) ∷ [])

-- ---- how many there are

abbrev tens : ℕ → ℕ
tens zero = 10
tens (suc k) = 10 * tens k

tenth : (n p : ℕ) → n < 10 * p → n / 10 < p
tenth n p h = omega arith

few : (k n : ℕ) → n < tens k → length (decimal n) ≤ suc k
few zero n h = let e : length (decimal n) ≡ 1 = length-small n h in omega arith
few (suc k) n h =
    by (ltb n 10)
    (λ t. let e : length (decimal n) ≡ 1 = length-small n (ltb-true n 10 t) in omega arith)
    (λ f.
    let e : length (decimal n) ≡ length (decimal (n / 10)) + 1 = length_more n (ltb-false n 10 f) in
    let q : length (decimal (n / 10)) ≤ suc k = few k (n / 10) (tenth n (tens k) h) in
    omega arith)

pub at-most-20 : (n : ℕ) → n < 2 ^ 64 → length (decimal n) ≤ 20
at-most-20 n h = few 19 n (omega arith)
