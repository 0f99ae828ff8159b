-- A line over a table whose nodes use no variable above n is the line at n variables: what is judged at 64 is what 01 asks at the
-- header's n. Assumes nothing.
use mathlib.Core.Path.{◌≡◌, refl}
use mathlib.Core.Bool.{Bool}
use mathlib.Core.List.{List, [], ◌∷◌}
use Prim.Native.Nat.{ℕ, suc, ◌≤◌, ◌<◌}
use native.Mathlib.Omega.{arith}
use Rattle.meaning.specs.Reduced.{Reduced}
use Rattle.meaning.specs.Rules.{rup, pr, witnessed}
use Rattle.meaning.specs.Words.{in_word}
use Rattle.meaning.proofs.Ends.{AllReduced}
use Rattle.meaning.proofs.LineWidths.{rup-width, pr-width, witnessed-width}
use Rattle.table.specs.Nodes.{Node, diagram_at}
use Rattle.table.specs.Indexed.{Table, nodes_of, Good}
use Rattle.table.proofs.Written.{length-nodes, good-ordered}
use Rattle.table.proofs.Numbers.{UsesTo, reduced-to}
use Rattle.walks.specs.Constant.{one_at}
use Rattle.table.specs.Lists.{diagrams_of, Inside}
use Rattle.judge.proofs.Negations.{not-one}

-- The walk that asks whether a cofactor by literals is 1 tells whether a line is witnessed.
pub witnessed-walk : (t : List Node) (p n k : ℕ) → one_at t p n k ≡ witnessed 64 (in_word p) (in_word n) (diagram_at t k)
unfolding one_at witnessed
witnessed-walk t p n k = refl

module _ (n : ℕ) (most : n ≤ 64) (T : Table) (G : Good T) (uses : UsesTo n (nodes_of T)) where
  reduced : (k : ℕ) → k < T.count → Reduced 1 (suc n) (diagram_at (nodes_of T) k)
  reduced k p = reduced-to n (nodes_of T) (good-ordered T G) uses k (omega (arith, length-nodes T G))

  members-reduced : (members : List ℕ) → Inside T.count members → AllReduced n (diagrams_of (nodes_of T) members)
  members-reduced [] inside = tt
  members-reduced (k ∷ ks) inside = (reduced k (inside 0 (omega arith)), members-reduced ks (λ i p. inside (suc i) (omega arith)))

  module _ (members : List ℕ) (inside : Inside T.count members) (g : ℕ) (g_inside : g < T.count) where
    pub witnessed-at : (P N : ℕ → Bool) → witnessed 64 P N (diagram_at (nodes_of T) g) ≡ witnessed n P N (diagram_at (nodes_of T) g)
    witnessed-at P N = witnessed-width n 64 most P N (diagram_at (nodes_of T) g) (reduced g g_inside)

    module _ (ne : g ≡ 1 → ⊥) where
      pub rup-at : rup 64 (diagrams_of (nodes_of T) members) (diagram_at (nodes_of T) g)
          ≡ rup n (diagrams_of (nodes_of T) members) (diagram_at (nodes_of T) g)
      rup-at =
          rup-width n 64 most (diagram_at (nodes_of T) g) (reduced g g_inside) (not-one T G g g_inside ne)
          (diagrams_of (nodes_of T) members)
          (members-reduced members inside)

      pub pr-at : (P N : ℕ → Bool) → pr 64 P N (diagrams_of (nodes_of T) members) (diagram_at (nodes_of T) g)
          ≡ pr n P N (diagrams_of (nodes_of T) members) (diagram_at (nodes_of T) g)
      pr-at P N =
          pr-width n 64 most P N (diagrams_of (nodes_of T) members) (members-reduced members inside) (diagram_at (nodes_of T) g)
          (reduced g g_inside) (not-one T G g g_inside ne)
