-- A node's negation in a table, from its sides' negations. The idea: a negation has the node's variable over the sides' negations, and two
-- places with one diagram are one. Assumes nothing.
use mathlib.Core.Path.{◌≡◌, sym, ap, ap₂, ◌∙◌, subst}
use mathlib.Core.Bool.{true, false}
use mathlib.Core.List.{List}
use mathlib.Core.Option.{Option, none, some}
use Prim.Native.Nat.{ℕ, ◌≤◌, ◌<◌}
use native.Mathlib.Omega.{arith}
use lib.ListN.{length, get_or}
use Rattle.meaning.specs.Diagram.{Diagram, node}
use Rattle.meaning.specs.Reduced.{Reduced}
use Rattle.meaning.specs.Operations.{negation}
use Rattle.meaning.proofs.PointwiseSteps.{negation-leaf, negation-node}
use Rattle.table.specs.declared.NodeNo.{NodeNo}
use Rattle.table.specs.declared.Found.{Found}
use Rattle.table.specs.declared.Found.TheVariants.{At, Nothing}
use Rattle.table.specs.Nodes.{Node, node_of, at, diagram_at, find}
use Rattle.table.specs.Indexed.{Table, nodes_of, Good, found_of}
use Rattle.table.proofs.Order.{same-node, Ordered, Fits}
use Rattle.table.proofs.Numbers.{Kind, is_zero, is_one, from-two, kind, diagram_at-zero, diagram_at-one, diagram_at-node}
use Rattle.table.proofs.Numbers.{diagram_at-injective}
use Rattle.table.proofs.Numbers.{diagram_at-reduced}
use Rattle.table.proofs.Placing as placing
use Rattle.walks.proofs.Here.{length-in, ordered-in, node_in, good-readable}
use Rattle.negate.specs.Negations.{Negates}

module _ (T : Table) where
  pub negates-zero : Good T → Negates T 0 (At (record { 0 = 1 }))
  negates-zero G = (
    omega (arith, G.least),
    diagram_at-one (nodes_of T) ∙ sym
        (ap (negation 64) (diagram_at-zero (nodes_of T)) ∙ negation-leaf 64 false),
  )

  pub negates-one : Good T → Negates T 1 (At (record { 0 = 0 }))
  negates-one G = (
    omega (arith, G.least),
    diagram_at-zero (nodes_of T) ∙ sym
        (ap (negation 64) (diagram_at-one (nodes_of T)) ∙ negation-leaf 64 true),
  )

module _ (T : Table) (G : Good T) where
  abbrev t : List Node
  t = nodes_of T

  O : Ordered t
  unfolding nodes_of
  O = ordered-in T.vars T.lows T.highs T.count (good-readable T G)

  count-is : length t ≡ T.count
  unfolding nodes_of
  count-is = length-in T.vars T.lows T.highs T.count (good-readable T G)

  node_at : (k : ℕ) → k < T.count → at t k ≡ node_of (get_or T.vars k 0) (get_or T.lows k 0) (get_or T.highs k 0)
  unfolding nodes_of
  node_at = node_in T.vars T.lows T.highs T.count (good-readable T G)

  -- where a number's diagram is a node, and what stands there
  record Over (j v : ℕ) (a b : Diagram) : Type 0 where
    two : 2 ≤ j
    var : (at t j).var ≡ v
    low : diagram_at t (at t j).low ≡ a
    high : diagram_at t (at t j).high ≡ b
    low-less : (at t j).low < j
    high-less : (at t j).high < j

  over : (j v : ℕ) (a b : Diagram) → j < T.count → diagram_at t j ≡ node v a b → Over j v a b
  over j v a b p e = go (kind j) p e
    where
      go : {j : ℕ} → Kind j → j < T.count → diagram_at t j ≡ node v a b → Over j v a b
      go is_zero p e = let z : ◌≡◌ {A = ℕ} 0 1 = cc (diagram_at-zero t) in absurd (omega arith)
      go is_one p e = let z : ◌≡◌ {A = ℕ} 0 1 = cc (diagram_at-one t) in absurd (omega arith)
      go {j} (from-two two) p e =
          let F : Fits t j (at t j) = O.fits j two (omega (arith, count-is)) in
          let same : node (at t j).var (diagram_at t (at t j).low) (diagram_at t (at t j).high) ≡ node v a b =
          sym (diagram_at-node t O j two (omega (arith, count-is))) ∙ e in
          record { two = two; var = cc; low = cc; high = cc; low-less = F.low-less; high-less = F.high-less }

  module _ (k : ℕ) (two : 2 ≤ k) (inside : k < T.count) where
    abbrev v : ℕ
    v = get_or T.vars k 0

    abbrev l : ℕ
    l = get_or T.lows k 0

    abbrev h : ℕ
    h = get_or T.highs k 0

    is-node : diagram_at t k ≡ node v (diagram_at t l) (diagram_at t h)
    is-node = rw (node_at k inside) at (diagram_at-node t O k two (omega (arith, count-is)))

    negation-is : negation 64 (diagram_at t k) ≡ node v (negation 64 (diagram_at t l)) (negation 64 (diagram_at t h))
    negation-is =
        let r : Reduced 1 65 (node v (diagram_at t l) (diagram_at t h)) =
        rw is-node at (diagram_at-reduced t O k (omega (arith, count-is))) in
        ap (negation 64) is-node ∙ negation-node 64 v (diagram_at t l) (diagram_at t h) r

    over-negation : (j : ℕ) → j < T.count → diagram_at t j ≡ negation 64 (diagram_at t k) →
        Over j v (negation 64 (diagram_at t l)) (negation 64 (diagram_at t h))
    over-negation j p e = over j v (negation 64 (diagram_at t l)) (negation 64 (diagram_at t h)) p (e ∙ negation-is)

    -- a side's negation is not there
    pub negates-low : Negates T l Nothing → Negates T k Nothing
    negates-low absent j p e = let o = over-negation j p e in absent (at t j).low (omega (arith, o.low-less)) o.low

    pub negates-high : Negates T h Nothing → Negates T k Nothing
    negates-high absent j p e = let o = over-negation j p e in absent (at t j).high (omega (arith, o.high-less)) o.high

    -- both are, and the node over them is looked up
    pub negates-lookup : (a b : NodeNo) (r : Found) → Negates T l (At a) → Negates T h (At b) → r
        ≡ found_of (find t (node_of v a.0 b.0)) → Negates T k r
    negates-lookup a b r A B e = subst (Negates T k) (sym e)
        (go (find t (node_of v a.0 b.0)) (placing.found t (node_of v a.0 b.0)))
      where
        equal : (i j : ℕ) (d : Diagram) → i < T.count → j < T.count → diagram_at t i ≡ d → diagram_at t j ≡ d → i ≡ j
        equal i j d p q e f = diagram_at-injective t O i j (omega (arith, count-is)) (omega (arith, count-is)) (e ∙ sym f)

        go : (o : Option ℕ) → placing.Found t (node_of v a.0 b.0) o → Negates T k (found_of o)
        go none f = λ j p e.
            let o = over-negation j p e in
            f j o.two (omega (arith, count-is)) (same-node (at t j) (node_of v a.0 b.0) o.var
            (equal (at t j).low a.0 (negation 64 (diagram_at t l)) (omega (arith, o.low-less)) A.0 o.low A.1)
            (equal (at t j).high b.0 (negation 64 (diagram_at t h)) (omega (arith, o.high-less)) B.0 o.high B.1))
        go (some m) f = (
          omega (arith, f.1, count-is),
          rw f.2 at (diagram_at-node t O m f.0 f.1) ∙ ap₂ (node v) A.1 B.1 ∙ sym negation-is,
        )
