-- What is left once all members of a list are replaced. No call open to others cites this file.
use Rattle.std.specs.Prelude.{◌≡◌, Bool, false, cond, List, [], ◌∷◌, map, ℕ, suc}
use Rattle.meaning.specs.Diagram.{Diagram, same}
use Rattle.table.specs.Nodes.{diagram_at}
use Rattle.table.specs.Indexed.{Table, size, nodes_of}
use Rattle.operate.specs.declared.Operation.{Operation}
use Rattle.operate.specs.Operate.{result}
use Rattle.table.specs.Making.{placed_all}
use Rattle.table.specs.Lists.{diagrams_of, Inside, Extended, room}

-- The operation's results on the listed nodes and g.
abbrev pub results : Operation → Table → List ℕ → ℕ → List Diagram
results op t list g = map (λ f. result op f (diagram_at (nodes_of t) g)) (diagrams_of (nodes_of t) list)

-- How many of the first diagrams differ from those of the same place: "live members that differ from their cofactor by the round's U".
-- (02, 6/14)
unfoldable pub differing : List Diagram → List Diagram → ℕ
differing [] gs = 0
differing (f ∷ fs) [] = 0
differing (f ∷ fs) (g ∷ gs) = let rest = differing fs gs in cond (same f g) rest (suc rest)

-- In the table t the diagrams `made` were placed in their order, up to the one that found no room; the table is then t', and where all
-- found room they are the diagrams of the list.
pub record AllMade (t : Table) (made : List Diagram) (full : Bool) (t' : Table) (list : List ℕ) : Type 0 where
  pub extended : Extended t t'
  pub places : placed_all (size t) (nodes_of t) made ≡ room full (nodes_of t')
  pub inside : full ≡ false → Inside t'.count list
  pub are : full ≡ false → diagrams_of (nodes_of t') list ≡ made
