-- What the walks that place no node ask and answer. No call open to others cites `Readable`.
use Rattle.std.specs.Prelude.{◌≡◌, Bool, true, List, ℕ, ◌+◌, ◌≤◌, ◌<◌, length, get_or, take}
use Rattle.meaning.specs.Diagram.{value}
use Rattle.meaning.specs.Words.{assignment_of}
use Rattle.table.specs.Nodes.{Node, nodes_in_order, diagram_at}
use Rattle.table.specs.Columns.{rows}
use Rattle.table.specs.Indexed.{Table, Good}
use Rattle.table.specs.Lists.{Inside}

-- The first `count` places of three columns.
abbrev pub nodes_in : List ℕ → List ℕ → List ℕ → ℕ → List Node
nodes_in vs ls hs count = take count (rows vs ls hs)

-- Columns of one length whose first `count` places are nodes in good order.
pub record Readable (vs ls hs : List ℕ) (count : ℕ) : Type 0 where
  pub least : 2 ≤ count
  pub within : count ≤ length vs
  pub most : length vs ≤ 65536
  pub lows : length ls ≡ length vs
  pub highs : length hs ≡ length vs
  pub ordered : nodes_in_order (nodes_in vs ls hs count) ≡ true

-- A memo has a cell for each place of the table, so that a node's cell is its own, and 64 more.
abbrev pub Roomy : List ℕ → List ℕ → Type 0
Roomy vs memo = 64 + length vs ≤ length memo

-- What the functions over a list ask: a good table that has the listed nodes, and a memo with room.
pub record ListReady (t : Table) (list memo : List ℕ) : Type 0 where
  pub good : Good t
  pub inside : Inside t.count list
  pub room : Roomy t.vars memo

-- The first `count` cells of a memo hold 0.
abbrev pub Cleared : ℕ → List ℕ → Type 0
Cleared count memo = (i : ℕ) → i < count → get_or memo i 0 ≡ 0

-- "Evaluation [..] says yes exactly when the node's value under the word's assignment is 1." (01, Values)
unfoldable pub value_under : List Node → ℕ → ℕ → Bool
value_under t k w = value (diagram_at t k) (assignment_of 64 w)
