-- The two ways to say how much an at-least diagram excludes: no count, and the count by binomials, which is that of the diagram's own
-- values.
-- Assumes nothing.
use mathlib.Core.Path.{◌≡◌, sym, ap, ◌∙◌, subst}
use mathlib.Core.Bool.{true, false}
use Prim.Native.Nat.{ℕ, ◌≤◌, ◌<◌}
use borrow.Author.Tests.{le-leb, lt-leb}
use Rattle.meaning.specs.Words.{in_word}
use Rattle.meaning.specs.Sets.{size_of}
use Rattle.binomial.specs.Binomials.{excluded}
use Rattle.binomial.proofs.Values.{excluded-counts}
use Rattle.sets.specs.Counts.{count_of}

module _ (set m : ℕ) (many : m ≡ size_of 64 (in_word set)) where
  pub not-counted : (k : ℕ) → 32 < m → record { counted = false; excluded = 0 } ≡ count_of set k
  unfolding count_of
  not-counted k lt = rw (lt-leb (size_of 64 (in_word set)) 32 (subst (λ (n : ℕ). 32 < n) many lt))

  pub counted : (k r : ℕ) → m ≤ 32 → r ≡ excluded m k → record { counted = true; excluded = r } ≡ count_of set k
  unfolding count_of
  counted k r le q =
      rw (le-leb (size_of 64 (in_word set)) 32 (subst (λ (n : ℕ). n ≤ 32) many le))
      (ap (λ (n : ℕ). record { counted = true; excluded = n })
      (q ∙ ap (λ (n : ℕ). excluded n k) many ∙ sym (excluded-counts (in_word set) 64 k)))
