-- 8 and 23 are given only where a node that is not in the table is to be placed and the count equals the size. The idea: a placing that
-- ends without room has just looked for a node and not found it; so by induction on the diagram, and along the lists that a line makes.
-- Assumes nothing.
use mathlib.Core.Path.{◌≡◌, sym, ◌∙◌, subst}
use mathlib.Core.Logic.{◌≢◌}
use mathlib.Core.Bool.{Bool, true, false, cond}
use mathlib.Core.List.{List, [], ◌∷◌, ◌++◌}
use mathlib.Core.Option.{Option, none, some}
use Prim.Native.Nat.{ℕ, suc, ◌+◌, ◌≤◌, ◌<◌}
use native.Mathlib.Omega.{arith}
use lib.ListN.{length}
use lib.Dec.{eqb, ltb}
use Rattle.meaning.specs.Diagram.{Diagram, leaf, node}
use Rattle.meaning.specs.Reduced.{Reduced}
use Rattle.meaning.proofs.Canonical.{reduced-from}
use Rattle.table.specs.Nodes.{Node, node_of, at, diagram_at, Placing, full, placed, find, or_append, put, and_then, place}
use Rattle.table.proofs.Order.{same-node, Ordered}
use Rattle.table.proofs.Numbers.{Kind, is_zero, is_one, from-two, kind, diagram_at-zero, diagram_at-one, diagram_at-node}
use Rattle.table.proofs.Numbers.{diagram_at-injective}
use Rattle.table.proofs.Growth.{extends-length, diagram_at-grown}
use Rattle.table.proofs.Placing.{Found, found, After, place_after}
use Rattle.demands.specs.Full.{Part, whole, in-low, in-high, Wants}

-- ---- one diagram

-- placing that ends without room
record Missing (D : Diagram) (t' : List Node) : Type 0 where
  part : Diagram
  of-it : Part part D
  missing : (k : ℕ) → k < length t' → diagram_at t' k ≢ part

full-same : (t t' : List Node) → full t ≡ full t' → t ≡ t'
full-same t t' e = cc

placed-not-full : {A : Type 0} (t t' : List Node) (k : ℕ) → placed t k ≡ full t' → A
placed-not-full t t' k e = let z : ◌≡◌ {A = ℕ} 0 1 = cc in absurd (omega arith)

-- a node that is looked for and not found: no number has its diagram
module _ (s : ℕ) (t : List Node) (O : Ordered t) (v a b : ℕ) (pa : a < length t) (pb : b < length t) where
  none_has : ((k : ℕ) → 2 ≤ k → k < length t → at t k ≢ node_of v a b) → (k : ℕ) → k < length t →
      diagram_at t k ≢ node v (diagram_at t a) (diagram_at t b)
  none_has new k p e = go k (kind k) p e
    where
      go : (k : ℕ) → Kind k → k < length t → diagram_at t k ≡ node v (diagram_at t a) (diagram_at t b) → ⊥
      go _ is_zero p e =
          let z : leaf false ≡ node v (diagram_at t a) (diagram_at t b) = sym (diagram_at-zero t) ∙ e in
          let q : ◌≡◌ {A = ℕ} 0 1 = cc in absurd (omega arith)
      go _ is_one p e =
          let z : leaf true ≡ node v (diagram_at t a) (diagram_at t b) = sym (diagram_at-one t) ∙ e in
          let q : ◌≡◌ {A = ℕ} 0 1 = cc in absurd (omega arith)
      go k (from-two two) p e =
          let z : node (at t k).var (diagram_at t (at t k).low) (diagram_at t (at t k).high) ≡ node v (diagram_at t a) (diagram_at t b) =
          sym (diagram_at-node t O k two p) ∙ e in
          let F = O.fits k two p in
          let low : diagram_at t (at t k).low ≡ diagram_at t a = cc in
          let high : diagram_at t (at t k).high ≡ diagram_at t b = cc in
          let var : (at t k).var ≡ v = cc in
          new k two p
          (same-node (at t k) (node_of v a b) var (diagram_at-injective t O (at t k).low a (omega (arith, F.low-less)) pa low)
          (diagram_at-injective t O (at t k).high b (omega (arith, F.high-less)) pb high))

  put-missing : (t' : List Node) → put s t v a b ≡ full t' → Missing (node v (diagram_at t a) (diagram_at t b)) t'
  unfolding put or_append
  put-missing t' e = go (eqb a b) (find t (node_of v a b)) (found t (node_of v a b)) e
    where
      room? : (c : Bool) → cond c (placed (t ++ node_of v a b ∷ []) (length t)) (full t) ≡ full t' → t ≡ t'
      room? true e = placed-not-full _ t' _ e
      room? false e = full-same t t' e

      go : (c : Bool) (o : Option ℕ) → Found t (node_of v a b) o → cond c (placed t a) (or_append s t (node_of v a b) o) ≡ full t' →
          Missing (node v (diagram_at t a) (diagram_at t b)) t'
      go true o f e = placed-not-full t t' a e
      go false none new e =
          subst (Missing (node v (diagram_at t a) (diagram_at t b))) (room? (ltb (length t) s) e)
          (record { part = _; of-it = whole; missing = none_has new })
      go false (some m) f e = placed-not-full t t' m e

-- after the low side, the high side, then the node itself
module _ (s v : ℕ) (l h : Diagram) (t' : List Node) where
  high-missing : (t₁ : List Node) (a : ℕ) → Ordered t₁ → a < length t₁ → diagram_at t₁ a ≡ l → (q : Placing) → After s t₁ h q →
      (q ≡ full t' → Missing h t')
      → and_then q (λ t₂ b. put s t₂ v a b) ≡ full t' → Missing (node v l h) t'
  unfolding and_then
  high-missing t₁ a O pa ea (full t₂) A high e = let M = high e in record
      { part = M.part; of-it = in-high M.of-it; missing = M.missing }
  high-missing t₁ a O pa ea (placed t₂ b) A high e =
      let longer : length t₁ ≤ length t₂ = extends-length t₁ t₂ A.kept.extends in
      let low : diagram_at t₂ a ≡ l = diagram_at-grown t₁ t₂ O A.kept.extends a pa ∙ ea in
      rw (low, A.is) at (put-missing s t₂ A.kept.ordered v a b (omega arith) A.inside t' e)

  low-missing : (t : List Node) (p : Placing) → After s t l p → (p ≡ full t' → Missing l t')
      → ((t₁ : List Node) → Ordered t₁ → After s t₁ h (place s t₁ h) × (place s t₁ h ≡ full t' → Missing h t'))
      → and_then p (λ t₁ a. and_then (place s t₁ h) (λ t₂ b. put s t₂ v a b)) ≡ full t' → Missing (node v l h) t'
  unfolding and_then
  low-missing t (full t₁) A low high e = let M = low e in record { part = M.part; of-it = in-low M.of-it; missing = M.missing }
  low-missing t (placed t₁ a) A low high e =
      let O : Ordered t₁ = A.kept.ordered in
      high-missing t₁ a O A.inside A.is (place s t₁ h) (high t₁ O).0 (high t₁ O).1 e

place-missing : (s : ℕ) (t : List Node) → Ordered t → (D : Diagram) → Reduced 1 65 D → (t' : List Node) → place s t D ≡ full t' →
    Missing D t'
unfolding place
place-missing s t O (leaf false) o t' e = placed-not-full t t' 0 e
place-missing s t O (leaf true) o t' e = placed-not-full t t' 1 e
place-missing s t O (node v l h) o t' e =
    let ol : Reduced 1 65 l = reduced-from 1 (suc v) 65 l (omega arith) o.3 in
    let oh : Reduced 1 65 h = reduced-from 1 (suc v) 65 h (omega arith) o.4 in
    low-missing s v l h t' t (place s t l) (place_after s t O l ol) (place-missing s t O l ol t')
    (λ t₁ O₁. (place_after s t₁ O₁ h oh, place-missing s t₁ O₁ h oh t')) e

-- A placing that ends without room: every place is taken, and a node of the diagram is not there.
pub place-wants : (s : ℕ) (t : List Node) → Ordered t → length t ≤ s → (D : Diagram) → Reduced 1 65 D → (t' : List Node) → place s t D
    ≡ full t' → Wants s t D
place-wants s t O room D o t' e =
    let M : Missing D t' = place-missing s t O D o t' e in
    let A : After s t D (full t') = subst (After s t D) e (place_after s t O D o) in
    record { nodes = t'; came = e; taken = A.no_room room; part = M.part; of-it = M.of-it; missing = M.missing }
