-- The slice that three columns give. No call open to others cites this file.
use Rattle.std.specs.Prelude.{List, [], ◌∷◌, ℕ}
use Rattle.columns.specs.declared.Node.{Node}

-- The nodes of three columns.
unfoldable pub as_nodes : List ℕ → List ℕ → List ℕ → List Node
as_nodes [] ls hs = []
as_nodes (v ∷ vs) [] hs = []
as_nodes (v ∷ vs) (l ∷ ls) [] = []
as_nodes (v ∷ vs) (l ∷ ls) (h ∷ hs) = record { var = v; low = l; high = h } ∷ as_nodes vs ls hs
