-- What the read-only test of a lent table asks, place by place. No call open to others cites this file.
use Rattle.std.specs.Prelude.{◌≡◌, ◌≢◌, Bool, true, false, cond, List, ℕ, zero, suc, ◌*◌, ◌≤◌, ◌<◌, length, get_or, eqb}
use Rattle.table.specs.Nodes.{Node, at, fits}
use Rattle.table.specs.Columns.{rows}
use Rattle.table.specs.Index.{bucket_at}
use Rattle.table.specs.Indexed.{Table, size}
use Rattle.good_order.specs.declared.Way.{Way}
use Rattle.good_order.specs.declared.Way.TheVariants.{Head, Behind, Lost}

-- r says whether P holds.
pub record Decides (r : Bool) (P : Type 0) : Type 0 where
  pub yes : r ≡ true → P
  pub no : r ≡ false → P → ⊥

-- The lengths that a lent table must have, and a count within them.
pub record LentSizes (T : Table) : Type 0 where
  pub least : 2 ≤ T.count
  pub within : T.count ≤ size T
  pub most : size T ≤ 65536
  pub lows : length T.lows ≡ size T
  pub highs : length T.highs ≡ size T
  pub links : length T.links ≡ size T
  pub heads : length T.heads ≡ 2 * size T

-- All places, those past the count too.
abbrev pub places_of : Table → List Node
places_of T = rows T.vars T.lows T.highs

abbrev pub chain_at : Table → ℕ → ℕ
chain_at T k = bucket_at (length T.heads) (places_of T) k

-- j is 0, or a node of chain b below `top`.
abbrev pub OfChain : Table → ℕ → ℕ → ℕ → Type 0
OfChain T top b j = (j ≡ 0 → ⊥) → (2 ≤ j) × (j < top) × (chain_at T j ≡ b)

abbrev pub NodeFits : Table → ℕ → Type 0
NodeFits T k = (fits (places_of T) k (at (places_of T) k) ≡ true) × OfChain T k (chain_at T k) (get_or T.links k 0)

-- The walk by the links l from place j comes to place k, over places above k at which `passes` holds.
pub data Reaches (l : ℕ → ℕ) (passes : ℕ → Type 0) (k : ℕ) : ℕ → Type 0 where
  here : Reaches l passes k k
  next : {j : ℕ} → k < j → passes j → Reaches l passes k (l j) → Reaches l passes k j

-- The walk from place j comes to place k, and meets no node like that of place k before.
abbrev pub Comes : Table → ℕ → ℕ → Type 0
Comes T k j = Reaches (λ i. get_or T.links i 0) (λ i. at (places_of T) i ≡ at (places_of T) k → ⊥) k j

abbrev pub InChain : Table → ℕ → Type 0
InChain T k = Comes T k (get_or T.heads (chain_at T k) 0)

-- ---- of all places

abbrev pub Empty : List ℕ → ℕ → ℕ → Type 0
Empty xs from to = (k : ℕ) → from ≤ k → k < to → get_or xs k 0 ≡ 0

abbrev pub NodesFit : Table → ℕ → Type 0
NodesFit T m = (k : ℕ) → 2 ≤ k → k < m → NodeFits T k

-- Each head is 0 or a node of its chain.
abbrev pub HeadsFit : Table → Type 0
HeadsFit T = (b : ℕ) → b < length T.heads → OfChain T T.count b (get_or T.heads b 0)

abbrev pub AllInChain : Table → ℕ → Type 0
AllInChain T m = (k : ℕ) → 2 ≤ k → k < m → InChain T k

-- Where the walk down the chain of place k comes to it: one that begins past the count comes nowhere if the heads are as they must be.
abbrev pub ComesBy : Table → ℕ → Way → Type 0
ComesBy T k Head = InChain T k × (get_or T.heads (chain_at T k) 0 ≡ k)
ComesBy T k Behind = InChain T k × (get_or T.heads (chain_at T k) 0 ≢ k)
ComesBy T k Lost = InChain T k → HeadsFit T → ⊥

-- ---- counted

-- How many numbers below n pass the test p.
unfoldable pub many : (ℕ → Bool) → ℕ → ℕ
many p zero = 0
many p (suc n) = cond (p n) (suc (many p n)) (many p n)

-- How many of the first n numbers are 0.
abbrev pub zeros_in : List ℕ → ℕ → ℕ
zeros_in xs n = many (λ k. eqb (get_or xs k 0) 0) n
