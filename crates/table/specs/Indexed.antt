-- Three columns with their lookup index, as the inner functions are lent them. No call open to others cites this file.
use Rattle.std.specs.Prelude.{◌≡◌, ℕ, zero, suc, ◌-◌, ◌*◌, ◌≤◌, Bool, true, false, List, length, take, replicate, nat_lt, slice_index}
use Rattle.std.specs.Prelude.{slice_set}
use Rattle.std.proofs.Math.Option.{Option, none, some}
use Rattle.table.specs.declared.Placed.{Placed}
use Rattle.table.specs.declared.NodePlaced.{NodePlaced}
use Rattle.table.specs.declared.Found.{Found}
use Rattle.table.specs.declared.Found.TheVariants.{At, Nothing}
use Rattle.table.specs.Nodes.{Node, nodes_in_order, Placing, full, placed}
use Rattle.table.specs.Index.{bucket_at}
use Rattle.table.specs.Columns.{rows, padded, columns_of, Columns, columns_made}

-- ---- the index, made by insertion: a head for each chain, and for each place the next lower one of its chain

pub record Index : Type 0 where
  pub heads : List ℕ
  pub links : List ℕ

abbrev pub index_made : List ℕ → List ℕ → Index
index_made ds ks = record { heads = ds; links = ks }

-- Place k goes to the front of chain b.
abbrev pub insert : Index → ℕ → ℕ → Index
insert x b k = record { heads = slice_set x.heads b k; links = slice_set x.links k (slice_index x.heads b) }

-- The index of the first j nodes (places 2 to j + 1) with n heads and m links.
unfoldable pub index_from : List Node → ℕ → ℕ → ℕ → Index
index_from t n m zero = record { heads = replicate n 0; links = replicate m 0 }
index_from t n m (suc j) = insert (index_from t n m j) (bucket_at n t (suc (suc j))) (suc (suc j))

-- The index of all nodes in a table of s places: "twice as many heads as table places, and a next link for each place". (02, 7/14)
abbrev pub index_of : ℕ → List Node → Index
index_of s t = index_from t (2 * s) s (length t - 2)

-- ---- the table as it is lent

pub record Table : Type 0 where
  pub vars : List ℕ
  pub lows : List ℕ
  pub highs : List ℕ
  pub heads : List ℕ
  pub links : List ℕ
  pub count : ℕ

abbrev pub table_of : List ℕ → List ℕ → List ℕ → List ℕ → List ℕ → ℕ → Table
table_of vs ls hs ds ks n = record { vars = vs; lows = ls; highs = hs; heads = ds; links = ks; count = n }

-- The five lists of a table.
abbrev pub lists_of : Table → Columns
lists_of t = columns_made t.vars t.lows t.highs t.heads t.links

abbrev pub size : Table → ℕ
size t = length t.vars

-- The nodes of a table, places 0 and 1 included.
unfoldable pub nodes_of : Table → List Node
nodes_of t = take t.count (rows t.vars t.lows t.highs)

-- The table of s places that holds the nodes t, with its index.
unfoldable pub indexed : ℕ → List Node → Table
indexed s t =
    let c = columns_of (padded s t) in table_of c.vars c.lows c.highs (index_of s t).heads (index_of s t).links (length t)

-- A table that the inner functions can work on: of proper size, its nodes in good order, zeros past them, its index that of its nodes.
pub record Good (t : Table) : Type 0 where
  pub least : 2 ≤ t.count
  pub within : t.count ≤ size t
  pub most : size t ≤ 65536
  pub lows : length t.lows ≡ size t
  pub highs : length t.highs ≡ size t
  pub links : length t.links ≡ size t
  pub heads : length t.heads ≡ 2 * size t
  pub ordered : nodes_in_order (nodes_of t) ≡ true
  pub written : t ≡ indexed (size t) (nodes_of t)

-- ---- what an inner function leaves

abbrev pub found_of : Option ℕ → Found
found_of none = Nothing
found_of (some k) = At (record { 0 = k })

pub record Outcome : Type 0 where
  pub table : Table
  pub full : Bool
  pub node : ℕ

abbrev pub outcome_of : List ℕ → List ℕ → List ℕ → List ℕ → List ℕ → Placed → Outcome
outcome_of vs ls hs ds ks p = record { table = table_of vs ls hs ds ks p.count; full = p.full; node = p.node.0 }

abbrev pub node_outcome_of : List ℕ → List ℕ → List ℕ → List ℕ → List ℕ → NodePlaced → Outcome
node_outcome_of vs ls hs ds ks p = record { table = table_of vs ls hs ds ks p.count; full = p.full; node = p.node.0 }

-- A placing written into a table of s places.
unfoldable pub written : ℕ → Placing → Outcome
unfolding indexed
written s (full t) = record { table = indexed s t; full = true; node = 0 }
written s (placed t k) = record { table = indexed s t; full = false; node = k }

-- "Placing a node shall tell, besides its number, whether it took a new place": the nodes t have become one more. (02, 2/14)
unfoldable pub took_place : List Node → Placing → Bool
took_place t (full t₁) = false
took_place t (placed t₁ k) = nat_lt (length t) (length t₁)
