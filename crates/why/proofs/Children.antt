-- The child that is told for 14: what the columns say of it is what its node is. Assumes nothing.
use mathlib.Core.Path.{◌≡◌, sym, ap, ◌∙◌}
use mathlib.Core.Bool.{Bool, true, false, cond}
use mathlib.Core.List.{List}
use Prim.Native.Nat.{ℕ, ◌<◌}
use lib.ListN.{get_or, take}
use lib.Seq.{get_or-take}
use Rattle.table.specs.Nodes.{Node, blank, at, above}
use Rattle.table.specs.Columns.{rows}
use Rattle.walks.specs.Readable.{nodes_in, Readable}
use Rattle.walks.proofs.Here.{node_in}

above-first : (count : ℕ) (t : List Node) (v child : ℕ) → child < count → above (take count t) v child ≡ above t v child
unfolding above
above-first count t v child p = rw (get_or-take count t child blank p)

module _ (vs ls hs : List ℕ) (count : ℕ) (R : Readable vs ls hs count) (v low high : ℕ) (l : low < count) (h : high < count) (r : Bool)
    (is : r ≡ above (rows vs ls hs) v low) where
  pub high-child : r ≡ true → get_or vs high 0 ≡ (at (nodes_in vs ls hs count) (cond (above (nodes_in vs ls hs count) v low) high low)).var
  high-child e = sym (rw (above-first count (rows vs ls hs) v low l ∙ sym is ∙ e)
      (ap (λ (x : Node). x.var) (node_in vs ls hs count R high h)))

  pub low-child : r ≡ false → get_or vs low 0 ≡ (at (nodes_in vs ls hs count) (cond (above (nodes_in vs ls hs count) v low) high low)).var
  low-child e = sym (rw (above-first count (rows vs ls hs) v low l ∙ sym is ∙ e)
      (ap (λ (x : Node). x.var) (node_in vs ls hs count R low l)))
