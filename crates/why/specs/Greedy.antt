-- Variables decided one after another. No call open to others cites this file.
use Rattle.std.specs.Prelude.{◌≡◌, Bool, true, false, ◌||◌, cond, List, ℕ, suc, ◌≤◌, ◌<◌, eqb}
use Rattle.meaning.specs.Diagram.{Diagram}
use Rattle.meaning.specs.Reduced.{Reduced}
use Rattle.meaning.specs.Rules.{witnessed}
use Rattle.meaning.specs.Words.{in_word}
use Rattle.words.specs.declared.Literals.{Literals}
use Rattle.words.specs.Sets.{with_variable}
use Rattle.table.specs.Nodes.{Node}
use Rattle.walks.specs.Constant.{one_at}

-- Every variable below v is in one of the sets.
abbrev pub Decided : (ℕ → Bool) → (ℕ → Bool) → ℕ → Type 0
Decided P N v = (w : ℕ) → 1 ≤ w → w < v → (P w || N w) ≡ true

-- The set with the variable v.
abbrev pub with_it : (ℕ → Bool) → ℕ → ℕ → Bool
with_it P v w = P w || eqb v w

-- The literals with v decided, where it is not: false where node g is still 0 somewhere, else true.
unfoldable pub decided_in : List Node → ℕ → Literals → ℕ → Literals
unfolding in_word one_at
decided_in t g u v =
    let low : Literals = record { positive = u.positive; negative = with_variable u.negative v } in
    let high : Literals = record { positive = with_variable u.positive v; negative = u.negative } in
    cond (in_word u.positive v) u (cond (in_word u.negative v) u (cond (one_at t low.positive low.negative g) high low))

-- A line of n variables that the witness, of these variables, does not make 1.
pub record Shut (n : ℕ) (g : Diagram) (u : Literals) : Type 0 where
  pub reduced : Reduced 1 (suc n) g
  pub open-there : witnessed n (in_word u.positive) (in_word u.negative) g ≡ false
  pub within : (v : ℕ) → n < v → in_word u.positive v ≡ false
