-- Rising places of a list, and what holds of all others. No call open to others cites this file.
use Rattle.std.specs.Prelude.{◌≡◌, List, ℕ, zero, suc, ◌≤◌, ◌<◌, length, get_or}
use Rattle.std.specs.Int.Bits.{bit_and}
use Rattle.table.specs.Lists.{Inside}

-- The first number behind the first k places.
abbrev pub behind : List ℕ → ℕ → ℕ
behind places zero = 0
behind places (suc k) = suc (get_or places k 0)

-- Each place is behind those before it.
abbrev pub Rising : List ℕ → Type 0
Rising places = (k : ℕ) → k < length places → behind places k ≤ get_or places k 0

-- The places rise and are below n, and P holds of every other number below n: of those from behind a place up to the next, or up to n.
pub record AllBut (n : ℕ) (places : List ℕ) (P : ℕ → Type 0) : Type 0 where
  pub inside : Inside n places
  pub rising : Rising places
  pub others : (k j : ℕ) → k ≤ length places → behind places k ≤ j → j < get_or places k n → P j

-- The word at the place has no variable in `touching`.
abbrev pub Untouched : List ℕ → ℕ → ℕ → Type 0
Untouched words touching j = bit_and (get_or words j 0) touching ≡ 0
