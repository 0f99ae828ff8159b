-- Lists of node numbers, and a table that was extended. No call open to others cites this file.
use Rattle.std.specs.Prelude.{◌≡◌, ℕ, ◌<◌, ◌≤◌, Bool, true, false, List, map, length, take, slice_index}
use Rattle.meaning.specs.Diagram.{Diagram}
use Rattle.table.specs.Nodes.{Node, diagram_at}
use Rattle.table.specs.Indexed.{Table, size, nodes_of, Good}
use Rattle.table.specs.Making.{Room, short, all}

-- The diagrams of listed node numbers.
abbrev pub diagrams_of : List Node → List ℕ → List Diagram
diagrams_of t list = map (diagram_at t) list

-- Every listed number is below m.
abbrev pub Inside : ℕ → List ℕ → Type 0
Inside m list = (i : ℕ) → i < length list → slice_index list i < m

-- t' is t, maybe with more nodes.
pub record Extended (t t' : Table) : Type 0 where
  pub good : Good t'
  pub same_size : size t' ≡ size t
  pub more : t.count ≤ t'.count
  pub first : take t.count (nodes_of t') ≡ nodes_of t

-- The nodes once a list was placed, with whether one of its diagrams found no room.
abbrev pub room : Bool → List Node → Room
room true t = short t
room false t = all t
