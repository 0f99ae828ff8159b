-- What the cells of a memo hold: the result's node for two nodes. No call open to others cites this file.
use Rattle.std.specs.Prelude.{◌≡◌, ℕ, ◌+◌, ◌*◌, ◌/◌, ◌%◌, ◌<◌, ◌≤◌, cond, ◌⊎◌, List, length, ◌==◌, slice_index, slice_index_or}
use Rattle.table.specs.declared.Found.{Found}
use Rattle.table.specs.declared.Found.TheVariants.{At, Nothing}

-- ---- the memo: three cells that say how many of the cells behind them are live, how many results were stored in those, and at each how
-- many-th variable results are held; then packed entries, 0 where there is none

abbrev pub pack : ℕ → ℕ → ℕ → ℕ
pack f g r = f * 4294967296 + g * 65536 + r

-- How many cells are live; what the others hold is never read.
abbrev pub live : List ℕ → ℕ
live memo = slice_index memo 0

-- The live cells are there, and so few that a product of their number with one of 32 bits fits 64.
pub record Shaped (memo : List ℕ) : Type 0 where
  pub room : 3 + live memo ≤ length memo
  pub few : live memo ≤ 1048576

-- A live cell has r for f and g. No constant is f, so that an empty cell holds nothing.
pub record Holds (memo : List ℕ) (f g r : ℕ) : Type 0 where
  pub cell : ℕ
  pub inside : cell < live memo
  pub has : slice_index_or memo (3 + cell) 0 ≡ pack f g r
  pub no-constant : 2 ≤ f
  pub g-fits : g < 65536
  pub r-fits : r < 65536

-- A memo that holds nothing.
pub record EmptyMemo (memo : List ℕ) : Type 0 where
  pub shaped : Shaped memo
  pub none : (f g r : ℕ) → Holds memo f g r → ⊥

-- What a cell tells of f and g: the result packed with their key.
unfoldable pub told_by : ℕ → ℕ → ℕ → Found
told_by e f g = cond (e / 65536 == f * 65536 + g) (At (record { 0 = e % 65536 })) Nothing

-- What is found for f and g is held.
abbrev pub Tells : List ℕ → ℕ → ℕ → Found → Type 0
Tells memo f g (At r) = Holds memo f g r.0
Tells memo f g Nothing = Unit {0}

-- The places from `from` on that are before `to` are empty, and those before them as they were.
pub record Cleared (memo : List ℕ) (from to : ℕ) (memo' : List ℕ) : Type 0 where
  pub length-kept : length memo' ≡ length memo
  pub empty : (k : ℕ) → from ≤ k → k < to → ◌≡◌ {A = ℕ} (slice_index memo' k) 0
  pub others : (k : ℕ) → k < from → ◌≡◌ {A = ℕ} (slice_index memo' k) (slice_index memo k)

-- One of the first n cells has e.
pub record InCells (memo : List ℕ) (n e : ℕ) : Type 0 where
  pub cell : ℕ
  pub inside : cell < n
  pub has : slice_index_or memo (3 + cell) 0 ≡ e

-- Each of the first n cells is empty or has what one of them had before.
pub record Moved (memo : List ℕ) (n : ℕ) (memo' : List ℕ) : Type 0 where
  pub length-kept : length memo' ≡ length memo
  pub cells : (i : ℕ) → i < n → (slice_index memo' (3 + i) ≡ 0) ⊎ InCells memo n (slice_index memo' (3 + i))

-- A memo that holds nothing but what the one before it does.
pub record Follows (memo memo' : List ℕ) : Type 0 where
  pub shaped : Shaped memo'
  pub held : (f g r : ℕ) → Holds memo' f g r → Holds memo f g r

-- A memo that holds nothing but what the one before it does, and r for f and g.
pub record Stores (memo : List ℕ) (f g r : ℕ) (memo' : List ℕ) : Type 0 where
  pub shaped : Shaped memo'
  pub held : (f' g' r' : ℕ) → Holds memo' f' g' r' → ((f ≡ f') × (g ≡ g') × (r ≡ r')) ⊎ Holds memo f' g' r'
