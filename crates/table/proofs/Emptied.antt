-- The emptied table: columns and index of zeros are the table that holds the two constants alone. The idea: a place that holds no node
-- holds zeros, and an index of no nodes is zeros. Assumes nothing.
use Rattle.std.proofs.Common.{◌≡◌, ℕ, zero, suc, ◌-◌, ◌*◌, ◌≤◌, List, [], ◌∷◌, map, replicate, sym, refl, ap, ◌∙◌, ap₂, arith}
use Rattle.table.specs.Nodes.{Node, blank}
use Rattle.table.specs.Columns.{padded, NodeColumns, columns_of, columns_made, stored_as}
use Rattle.table.specs.Indexed.{table_of, lists_of, indexed, index_from}
use Rattle.table.proofs.InOrder.{left-stored}

-- Places 0 and 1 alone.
abbrev constants : List Node
constants = blank ∷ blank ∷ []

map-blanks : (part : Node → ℕ) → part blank ≡ 0 → (k : ℕ) → map part (replicate k blank) ≡ replicate k 0
map-blanks part e zero = refl
map-blanks part e (suc k) = ap₂ {B = List ℕ} (λ (x : ℕ) (xs : List ℕ). x ∷ xs) e (map-blanks part e k)

columns-emptied : (s : ℕ) → 2 ≤ s → columns_of (padded s constants) ≡ record
    { vars = replicate s 0; lows = replicate s 0; highs = replicate s 0 }
unfolding columns_of padded
columns-emptied zero h = absurd (omega arith)
columns-emptied (suc zero) h = absurd (omega arith)
columns-emptied (suc (suc k)) h =
    let e : suc (suc k) - 2 ≡ k = omega arith in
    rw (e, map-blanks (λ x. x.var) refl k, map-blanks (λ x. x.low) refl k, map-blanks (λ x. x.high) refl k)

module _ (s : ℕ) (two : 2 ≤ s) where
  pub table-emptied : table_of (replicate s 0) (replicate s 0) (replicate s 0) (replicate (2 * s) 0) (replicate s 0) 2 ≡ indexed s constants
  unfolding indexed index_from
  table-emptied = ap (λ (c : NodeColumns). table_of c.vars c.lows c.highs (replicate (2 * s) 0) (replicate s 0) 2)
      (sym (columns-emptied s two))

  pub stored-emptied : stored_as s constants ≡ columns_made (replicate s 0) (replicate s 0) (replicate s 0) (replicate (2 * s) 0)
      (replicate s 0)
  stored-emptied = sym (ap lists_of table-emptied ∙ left-stored s constants (omega arith) two)
