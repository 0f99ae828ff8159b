-- Lists of zeros: a part of one is all zeros and as long as was asked, and a list cleared place by place is one in the end. Assumes
-- nothing.
use Rattle.std.proofs.Common.{◌≡◌, ℕ, zero, suc, ◌+◌, ◌<◌, ◌≤◌, List, ◌∷◌, length, get_or, take, set, replicate, sym, refl, ap, ◌∙◌, arith}
use Rattle.std.proofs.Common.{get_or-set_other, get_or-set_same, ext_get_or}
use native.Mathlib.Decide.{ℕ_discrete}
use lib.ListN.{length-replicate}

pub part-zeros : (k n : ℕ) → k ≤ n → take {A = ℕ} k (replicate n 0) ≡ replicate k 0
part-zeros zero n h = refl
part-zeros (suc k) zero h = absurd (omega arith)
part-zeros (suc k) (suc n) h = ap {B = List ℕ} (λ r. 0 ∷ r) (part-zeros k n (omega arith))

pub length_part : (k n : ℕ) → k ≤ n → k ≡ length (take {A = ℕ} k (replicate n 0))
length_part k n h = sym (ap {A = List ℕ} length (part-zeros k n h) ∙ length-replicate {A = ℕ} k 0)

-- A whole array of zeros.
module _ (n : ℕ) where
  pub length_whole : n ≡ length {A = ℕ} (replicate n 0)
  length_whole = sym (length-replicate {A = ℕ} n 0)

  pub whole-zeros : ◌≡◌ {A = List ℕ} (replicate n 0) (replicate (length {A = ℕ} (replicate n 0)) 0)
  whole-zeros = ap {A = ℕ} {B = List ℕ} (λ k. replicate k 0) length_whole

pub zeros-at : (n i : ℕ) → ◌≡◌ {A = ℕ} (get_or (replicate n 0) i 0) 0
zeros-at zero i = refl
zeros-at (suc n) zero = refl
zeros-at (suc n) (suc i) = zeros-at n i

-- ---- clearing a list

-- the first i places hold zeros
abbrev pub ZerosBelow : List ℕ → ℕ → Type 0
ZerosBelow list i = (k : ℕ) → k < i → ◌≡◌ {A = ℕ} (get_or list k 0) 0

pub cleared-one : (list : List ℕ) (i : ℕ) → i < length list → ZerosBelow list i → ZerosBelow (set list i 0) (i + 1)
cleared-one list i inside before k p = go (ℕ_discrete k i)
  where
    go : Dec (k ≡ i) → ◌≡◌ {A = ℕ} (get_or (set list i 0) k 0) 0
    go (yes e) = rw e (get_or-set_same list i 0 0 inside)
    go (no n) = get_or-set_other list i k 0 0 n ∙ before k (omega arith)

pub cleared-all : (list : List ℕ) (n : ℕ) → length list ≡ n → ZerosBelow list n → list ≡ replicate n 0
cleared-all list n len all =
    ext_get_or 0 list (replicate n 0) (len ∙ sym (length-replicate n 0)) (λ k p. all k (omega arith) ∙ sym (zeros-at n k))
