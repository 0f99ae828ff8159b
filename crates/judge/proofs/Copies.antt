-- A list filled place by place with another: what is passed is alike, and in the end both are one. Assumes nothing.
use mathlib.Core.Path.{◌≡◌, ◌∙◌}
use mathlib.Core.List.{List}
use Prim.Native.Nat.{ℕ, ◌+◌, ◌<◌}
use native.Mathlib.Omega.{arith}
use native.Mathlib.Decide.{ℕ_discrete}
use lib.ListN.{length, get_or, set}
use lib.Seq.{get_or-set_same, get_or-set_other, ext_get_or}

-- The first i places of the two lists are alike.
abbrev pub Alike : List ℕ → List ℕ → ℕ → Type 0
Alike from to i = (k : ℕ) → k < i → get_or to k 0 ≡ get_or from k 0

pub alike-one : (from to : List ℕ) (i : ℕ) → i < length to → Alike from to i → Alike from (set to i (get_or from i 0)) (i + 1)
alike-one from to i inside before k p = go (ℕ_discrete k i)
  where
    go : Dec (k ≡ i) → get_or (set to i (get_or from i 0)) k 0 ≡ get_or from k 0
    go (yes e) = rw e (get_or-set_same to i (get_or from i 0) 0 inside)
    go (no n) = get_or-set_other to i k (get_or from i 0) 0 n ∙ before k (omega arith)

pub alike_all : (from to : List ℕ) (i : ℕ) → length to ≡ length from → length from < i + 1 → Alike from to i → to ≡ from
alike_all from to i len end all = ext_get_or 0 to from len (λ k p. all k (omega arith))
