-- The members' words rewritten one by one as the members are. The idea: those ahead are as they were. Assumes nothing.
use mathlib.Core.Path.{◌≡◌, refl, ◌∙◌}
use mathlib.Core.List.{List}
use Prim.Native.Nat.{ℕ, ◌+◌, ◌≤◌}
use native.Mathlib.Omega.{arith}
use lib.ListN.{length, get_or, set, length-set}
use lib.Seq.{get_or-set_other}

-- Of the words, which were words₀, at most the first i are rewritten.
pub record Rewording (words₀ words : List ℕ) (i : ℕ) : Type 0 where
  pub lengths : length words ≡ length words₀
  pub ahead : (k : ℕ) → i ≤ k → get_or words k 0 ≡ get_or words₀ k 0

pub rewording-none : (words : List ℕ) → Rewording words words 0
rewording-none words = record { lengths = refl; ahead = λ k p. refl }

pub rewording-next : (words₀ words : List ℕ) (i word : ℕ) → Rewording words₀ words i → Rewording words₀ (set words i word) (i + 1)
rewording-next words₀ words i word W =
    record {
      lengths = length-set words i word ∙ W.lengths;
      ahead = λ j q. get_or-set_other words i j word 0 (λ z. absurd (omega arith)) ∙ W.ahead j (omega arith);
    }
