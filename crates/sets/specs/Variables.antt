-- The variables of a word's set, from the least up and from the greatest down. No call open to others cites this file.
use Rattle.std.specs.Prelude.{◌≡◌, true, false, ◌&&◌, cond, ℕ, zero, suc, ◌≤◌, ◌<◌, ltb}
use Rattle.meaning.specs.Words.{in_word}
use Rattle.meaning.specs.Sets.{size_of}

-- No variable of the set is from v on below w, and w, up to 64, is one.
pub record NextIn (set v w : ℕ) : Type 0 where
  pub least : v ≤ w
  pub most : w ≤ 65
  pub none : (u : ℕ) → v ≤ u → u < w → in_word set u ≡ false
  pub here : w ≤ 64 → in_word set w ≡ true

-- The set's greatest variable below v; 0 where there is none.
unfoldable pub lower : ℕ → ℕ → ℕ
lower set zero = 0
lower set (suc v) = let before = lower set v in cond (ltb 0 v && in_word set v) v before

-- The set's variables from the greatest down: nth 1, nth 2, ..; then 0.
unfoldable pub nth : ℕ → ℕ → ℕ
unfolding lower
nth set zero = 65
nth set (suc i) = lower set (nth set i)

-- The set has at least n variables.
abbrev pub Deep : ℕ → ℕ → Type 0
Deep set n = (i : ℕ) → i ≤ n → 1 ≤ nth set i

-- The set has m variables.
pub record Members (set m : ℕ) : Type 0 where
  pub most : m ≤ 64
  pub there : Deep set m
  pub end : nth set (suc m) ≡ 0
  pub many : m ≡ size_of 64 (in_word set)
