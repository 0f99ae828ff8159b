-- The first n places of an array of 65,536 places. Assumes nothing.
use mathlib.Core.Path.{◌≡◌, sym, ◌∙◌}
use Prim.Native.Nat.{ℕ, ◌≤◌, ◌<◌}
use native.Mathlib.Omega.{arith}
use mathlib.Core.List.{List, ◌++◌}
use lib.ListN.{length, take, drop}
use lib.Seq.{length-take-le, take_all, take_at}

pub first-length : (n : ℕ) (xs : List ℕ) → n ≤ 65536 → length xs ≡ 65536 → n ≡ length (take n xs)
first-length n xs h e = sym (length-take-le n xs (omega (arith, h, e)))

-- what is written to the first n places is what they then hold
pub first-written : (n : ℕ) (xs a : List ℕ) → n ≤ 65536 → length xs ≡ 65536 → length a ≡ length (take n xs) → take n (a ++ drop n xs) ≡ a
first-written n xs a h e l = take_at a (drop n xs) n (l ∙ sym (first-length n xs h e))

-- more than 65,536 places stay
pub first-all : (n : ℕ) (xs : List ℕ) → 65536 < n → length xs ≡ 65536 → take n xs ≡ xs
first-all n xs h e = take_all n xs (omega (arith, h, e))
