-- A path line over a table does not depend on the number of variables, as long as none in use exceeds it. Assumes nothing.
use mathlib.Core.Path.{◌≡◌}
use mathlib.Core.List.{List, [], ◌∷◌}
use Prim.Native.Nat.{ℕ, suc, ◌≤◌}
use native.Mathlib.Omega.{arith}
use Rattle.meaning.proofs.Ends.{AllReduced}
use Rattle.paths.specs.Paths.{path_line}
use Rattle.paths.proofs.Widths.{path-width}
use Rattle.table.specs.Nodes.{diagram_at}
use Rattle.table.specs.Indexed.{Table, nodes_of, Good}
use Rattle.table.specs.Lists.{diagrams_of, Inside}
use Rattle.table.proofs.Written.{length-nodes, good-ordered}
use Rattle.table.proofs.Numbers.{UsesTo, reduced-to}

module _ (n : ℕ) (most : n ≤ 64) (T : Table) (G : Good T) (uses : UsesTo n (nodes_of T)) where
  members-reduced : (members : List ℕ) → Inside T.count members → AllReduced n (diagrams_of (nodes_of T) members)
  members-reduced [] inside = tt
  members-reduced (k ∷ ks) inside = (
    reduced-to n (nodes_of T) (good-ordered T G) uses k (omega (arith, length-nodes T G, inside 0 (omega arith))),
    members-reduced ks (λ i p. inside (suc i) (omega arith)),
  )

  pub path-at : (members : List ℕ) → Inside T.count members → (g : ℕ)
      → path_line 64 (diagrams_of (nodes_of T) members) (diagram_at (nodes_of T) g)
      ≡ path_line n (diagrams_of (nodes_of T) members) (diagram_at (nodes_of T) g)
  path-at members inside g = path-width n 64 most (diagrams_of (nodes_of T) members) (members-reduced members inside)
      (diagram_at (nodes_of T) g)
