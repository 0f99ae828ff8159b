-- `negation_along` looks up one node for each of the path, the last first: the negation of the node below gives that of the next. Assumes
-- nothing.
use mathlib.Core.Path.{◌≡◌, sym, ap, ◌∙◌, subst}
use mathlib.Core.List.{List}
use Prim.Native.Nat.{ℕ, suc, ◌-◌, ◌<◌}
use native.Mathlib.Omega.{arith}
use lib.ListN.{get_or}
use Rattle.table.specs.declared.Found.TheVariants.{At}
use Rattle.table.specs.Nodes.{node_of, find}
use Rattle.table.specs.Indexed.{Table, table_of, nodes_of, Good, found_of}
use Rattle.negate.specs.declared.NegatedSides.{NegatedSides}
use Rattle.negate.specs.Negations.{Negates}
use Rattle.negate.specs.Thin.{PathTo}
use Rattle.negate.proofs.Paths.{negates-constant, Risen, risen-last, next-inside, next-constant, risen-absent}
use Rattle.negate.proofs.Paths.{risen-next}
use Rattle.negate.proofs.negation_along.Goals as goal

-- a node is next
step : (T : Table) (path : List ℕ) (f left r : ℕ) → 0 < left → Risen T path f left r → Risen T path f (suc (left - 1)) r
step T path f left r p W =
    let e : left ≡ suc (left - 1) = omega arith in
    subst (λ (m : ℕ). Risen T path f m r) e W

risen : (T : Table) (path : List ℕ) (f depth end left r : ℕ) → Good T → 0 < left
    → ((g k : ℕ) → PathTo T.lows T.highs T.count path g depth k → Negates T k (At (record { 0 = 1 - end })) → Risen T path g left r)
    → PathTo T.lows T.highs T.count path f depth end → end < 2 → Risen T path f (suc (left - 1)) r
risen T path f depth end left r G p I P small = step T path f left r p (I f end P (negates-constant T G end small))

pub bounds-vars-i : goal.bounds-vars-i
bounds-vars-i c =
    let T = table_of c.args.vars.now c.args.lows.now c.args.highs.now c.args.heads.now c.args.links.now c.args.count in
    let W = risen T c.args.path.now c.args.f.0 c.args.depth c.args.end.0 c.loop-left.left c.loop-left.r c.requires.0 c.loop-left-test.true
    c.loop-left.invariant.1 c.requires.1 c.requires.2 in
    omega (arith, next-inside T c.requires.0 c.args.path.now c.args.f.0 (c.loop-left.left - 1) c.loop-left.r W, c.requires.0.within)

pub bounds-lows-i : goal.bounds-lows-i
bounds-lows-i c =
    let T = table_of c.args.vars.now c.args.lows.now c.args.highs.now c.args.heads.now c.args.links.now c.args.count in
    let W = risen T c.args.path.now c.args.f.0 c.args.depth c.args.end.0 c.loop-left.left c.loop-left.r c.requires.0 c.loop-left-test.true
    c.loop-left.invariant.1 c.requires.1 c.requires.2 in
    omega (
      arith,
      next-inside T c.requires.0 c.args.path.now c.args.f.0 (c.loop-left.left - 1) c.loop-left.r W,
      c.requires.0.within,
      c.requires.0.lows,
    )

pub bounds-highs-i : goal.bounds-highs-i
bounds-highs-i c =
    let T = table_of c.args.vars.now c.args.lows.now c.args.highs.now c.args.heads.now c.args.links.now c.args.count in
    let W = risen T c.args.path.now c.args.f.0 c.args.depth c.args.end.0 c.loop-left.left c.loop-left.r c.requires.0 c.loop-left-test.true
    c.loop-left.invariant.1 c.requires.1 c.requires.2 in
    omega (
      arith,
      next-inside T c.requires.0 c.args.path.now c.args.f.0 (c.loop-left.left - 1) c.loop-left.r W,
      c.requires.0.within,
      c.requires.0.highs,
    )

pub negated_sides-s-requires : goal.negated_sides-s-requires
negated_sides-s-requires c =
    let T = table_of c.args.vars.now c.args.lows.now c.args.highs.now c.args.heads.now c.args.links.now c.args.count in
    let W = risen T c.args.path.now c.args.f.0 c.args.depth c.args.end.0 c.loop-left.left c.loop-left.r c.requires.0 c.loop-left-test.true
    c.loop-left.invariant.1 c.requires.1 c.requires.2 in
    next-constant T c.requires.0 c.args.path.now c.args.f.0 (c.loop-left.left - 1) c.loop-left.r W

pub loop-left-preserved : goal.loop-left-preserved
loop-left-preserved c =
    let T = table_of c.args.vars.now c.args.lows.now c.args.highs.now c.args.heads.now c.args.links.now c.args.count in (
      omega (arith, c.loop-left.invariant.0),
      λ f end P N. risen-next T c.requires.0 c.args.path.now f (c.loop-left.left - 1) c.loop-left.r
          (step T c.args.path.now f c.loop-left.left c.loop-left.r c.loop-left-test.true (c.loop-left.invariant.1 f end P N)) c.in-At.n
          (sym c.in-At.is ∙ c.lookup.ensures ∙ ap (λ (x : NegatedSides). found_of (find (nodes_of T)
          (node_of (get_or c.args.vars.now (get_or c.args.path.now (c.loop-left.left - 1) 0) 0) x.low.0 x.high.0)))
          c.negated_sides-s.ensures),
    )

pub returns-in-Nothing : goal.returns-in-Nothing
returns-in-Nothing c =
    let T = table_of c.args.vars.now c.args.lows.now c.args.highs.now c.args.heads.now c.args.links.now c.args.count in
    let W = risen T c.args.path.now c.args.f.0 c.args.depth c.args.end.0 c.loop-left.left c.loop-left.r c.requires.0 c.loop-left-test.true
    c.loop-left.invariant.1 c.requires.1 c.requires.2 in
    risen-absent T c.requires.0 c.args.path.now c.args.f.0 (c.loop-left.left - 1) c.loop-left.r W
    (sym c.in-Nothing.is ∙ c.lookup.ensures ∙ ap (λ (x : NegatedSides). found_of (find (nodes_of T)
    (node_of (get_or c.args.vars.now (get_or c.args.path.now (c.loop-left.left - 1) 0) 0) x.low.0 x.high.0)))
    c.negated_sides-s.ensures)

pub returns : goal.returns
returns c =
    let T = table_of c.args.vars.now c.args.lows.now c.args.highs.now c.args.heads.now c.args.links.now c.args.count in
    let e : c.loop-left.left ≡ 0 = omega (arith, c.loop-left-test.false) in
    risen-last T c.requires.0 c.args.path.now c.args.f.0 c.loop-left.r
    (subst (λ (m : ℕ). Risen T c.args.path.now c.args.f.0 m c.loop-left.r) e
    (c.loop-left.invariant.1 c.args.f.0 c.args.end.0 c.requires.1 (negates-constant T c.requires.0 c.args.end.0 c.requires.2)))
