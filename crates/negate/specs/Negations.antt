-- What the walk for a node's negation asks and answers. No call open to others cites this file.
use Rattle.std.specs.Prelude.{◌≡◌, ◌≢◌, cond, List, ℕ, ◌+◌, ◌*◌, ◌/◌, ◌%◌, ◌≤◌, ◌<◌, get_or, eqb}
use Rattle.meaning.specs.Operations.{negation}
use Rattle.table.specs.declared.Found.{Found}
use Rattle.table.specs.declared.Found.TheVariants.{At, Nothing}
use Rattle.table.specs.Nodes.{diagram_at}
use Rattle.table.specs.Indexed.{Table, nodes_of, Good}
use Rattle.walks.specs.Readable.{Roomy}

-- The answer r is the node that is f's negation, or says that no node is. (01, The table: "Comparing a diagram with another's negation")
abbrev pub Negates : Table → ℕ → Found → Type 0
Negates t f (At k) = (k.0 < t.count) × (diagram_at (nodes_of t) k.0 ≡ negation 64 (diagram_at (nodes_of t) f))
Negates t f Nothing = (k : ℕ) → k < t.count → diagram_at (nodes_of t) k ≢ negation 64 (diagram_at (nodes_of t) f)

-- A memo entry: the node, one bit whether its negation is there, and where.
abbrev pub entry_of : ℕ → Found → ℕ
entry_of f (At k) = f * 131072 + 65536 + k.0
entry_of f Nothing = f * 131072

unfoldable pub found_in : ℕ → Found
found_in e = cond (eqb (e / 65536 % 2) 1) (At (record { 0 = e % 65536 })) Nothing

-- Each entry that has a node is right.
unfoldable pub NegationMemo : List ℕ → Table → Type 0
NegationMemo memo t = (i : ℕ) → i < t.count → 2 ≤ get_or memo i 0 / 131072 →
    Negates t (get_or memo i 0 / 131072) (found_in (get_or memo i 0))

-- What the recursion asks.
pub record NegationReady (memo : List ℕ) (t : Table) (f : ℕ) : Type 0 where
  pub good : Good t
  pub inside : f < t.count
  pub room : Roomy t.vars memo
  pub right : NegationMemo memo t
