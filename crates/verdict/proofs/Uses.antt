-- A table whose nodes have no variable beyond n, and a diagram that has none: placing it adds none. The idea: a predicate on the
-- outcome, by induction on the diagram. Assumes nothing.
use mathlib.Core.Bool.{Bool, true, false, cond}
use mathlib.Core.List.{List, [], ◌∷◌, ◌++◌}
use mathlib.Core.Option.{Option, none, some}
use Prim.Native.Nat.{ℕ, suc, ◌≤◌}
use mathlib.Core.Path.{◌≡◌, sym, subst}
use native.Mathlib.Omega.{arith}
use native.Mathlib.Decide.{dec_lt}
use lib.ListN.{length, get_or-append}
use lib.Dec.{eqb, ltb}
use Rattle.meaning.specs.Diagram.{Diagram, leaf, node}
use Rattle.meaning.specs.Reduced.{Reduced}
use Rattle.meaning.proofs.Canonical.{reduced-from}
use Rattle.table.specs.Nodes.{Node, node_of, blank, Placing, full, placed, find, or_append, put, and_then, place}
use Rattle.table.specs.Indexed.{nodes_of, written}
use Rattle.table.proofs.Numbers.{UsesTo}
use Rattle.table.proofs.Written.{nodes-indexed}
use Rattle.table.proofs.Growth.{at_new, length-new}

module _ (n : ℕ) where
  -- The nodes that a placing leaves use no variable beyond n.
  abbrev pub UsesAfter : Placing → Type 0
  UsesAfter (full t) = UsesTo n t
  UsesAfter (placed t k) = UsesTo n t

  uses-more : (t : List Node) (x : Node) → UsesTo n t → x.var ≤ n → UsesTo n (t ++ x ∷ [])
  uses-more t x u p k two lt = elim (dec_lt k (length t)) [
    | yes q ↦ rw (get_or-append t (x ∷ []) blank k q) (u k two q)
    | no q ↦ let e : k ≡ length t = omega (arith, length-new t x) in rw (e, at_new t x) p
  ]

  put-uses : (s : ℕ) (t : List Node) (v l h : ℕ) → UsesTo n t → v ≤ n → UsesAfter (put s t v l h)
  unfolding put
  put-uses s t v l h u p = go (eqb l h) (find t (node_of v l h))
    where
      appended : (c : Bool) → UsesAfter (cond c (placed (t ++ node_of v l h ∷ []) (length t)) (full t))
      appended true = uses-more t (node_of v l h) u p
      appended false = u

      go : (c : Bool) (o : Option ℕ) → UsesAfter (cond c (placed t l) (or_append s t (node_of v l h) o))
      go true o = u
      go false none = appended (ltb (length t) s)
      go false (some k) = u

  then-uses : (p : Placing) (next : List Node → ℕ → Placing) → UsesAfter p → ((t : List Node) (k : ℕ) → UsesTo n t → UsesAfter (next t k)) →
      UsesAfter (and_then p next)
  unfolding and_then
  then-uses (full t) next u h = u
  then-uses (placed t k) next u h = h t k u

  pub place-uses : (s : ℕ) (t : List Node) (D : Diagram) → UsesTo n t → Reduced 1 (suc n) D → UsesAfter (place s t D)
  unfolding place
  place-uses s t (leaf false) u o = u
  place-uses s t (leaf true) u o = u
  place-uses s t (node v l h) u o =
      then-uses (place s t l) (λ t₁ a. and_then (place s t₁ h) (λ t₂ b. put s t₂ v a b))
      (place-uses s t l u (reduced-from 1 (suc v) (suc n) l (omega arith) o.3))
      (λ t₁ a u₁. then-uses (place s t₁ h) (λ t₂ b. put s t₂ v a b)
      (place-uses s t₁ h u₁ (reduced-from 1 (suc v) (suc n) h (omega arith) o.4))
      (λ t₂ b u₂. put-uses s t₂ v a b u₂ (omega arith)))

-- as the columns have it
pub uses-written : (n s : ℕ) (p : Placing) → UsesAfter n p → UsesTo n (nodes_of (written s p).table)
unfolding written
uses-written n s (full t) u = subst (UsesTo n) (sym (nodes-indexed s t)) u
uses-written n s (placed t k) u = subst (UsesTo n) (sym (nodes-indexed s t)) u
