-- The literals found and those of the node that the walk is at are the diagram's, and a child has a smaller number. Assumes nothing.
use mathlib.Core.Path.{sym, subst}
use Prim.Native.Nat.{ℕ, ◌<◌}
use native.Mathlib.Omega.{arith}
use lib.ListN.{length, get_or}
use borrow.Author.Tests.{eqb-true}
use Rattle.meaning.specs.Diagram.{Diagram}
use Rattle.meaning.proofs.Booleans.{t≢f}
use Rattle.table.specs.Nodes.{diagram_at}
use Rattle.walks.specs.Readable.{nodes_in}
use Rattle.walks.proofs.Here.{Here}
use Rattle.judge.proofs.CubeWalks.{Walking, walking-first, walking-last, at-node, walking-high, walking-low}
use Rattle.judge.proofs.cube.literals_of.Goals as goal

pub loop-k-init : goal.loop-k-init
loop-k-init c =
    walking-first c.args.vars.now c.args.lows.now c.args.highs.now c.args.count c.requires.0 c.args.f.0 c.requires.1

pub bounds-vars-k : goal.bounds-vars-k
bounds-vars-k c =
    let k : ℕ =
    c.loop-k.k in
    let columns : (k < length c.args.vars.now) × (k < length c.args.lows.now) × (k < length c.args.highs.now) × (k < 65536) =
    let r = c.requires.0 in (
      omega (arith, c.loop-k.invariant.inside, r.within),
      omega (arith, c.loop-k.invariant.inside, r.within, r.lows),
      omega (arith, c.loop-k.invariant.inside, r.within, r.highs),
      omega (arith, c.loop-k.invariant.inside, r.within, r.most),
    ) in
    columns.0

pub bounds-lows-k : goal.bounds-lows-k
bounds-lows-k c =
    let k : ℕ =
    c.loop-k.k in
    let columns : (k < length c.args.vars.now) × (k < length c.args.lows.now) × (k < length c.args.highs.now) × (k < 65536) =
    let r = c.requires.0 in (
      omega (arith, c.loop-k.invariant.inside, r.within),
      omega (arith, c.loop-k.invariant.inside, r.within, r.lows),
      omega (arith, c.loop-k.invariant.inside, r.within, r.highs),
      omega (arith, c.loop-k.invariant.inside, r.within, r.most),
    ) in
    columns.1

pub overflow_cast-low : goal.overflow_cast-low
overflow_cast-low c =
    let k : ℕ =
    c.loop-k.k in
    let here : Here c.args.vars.now c.args.lows.now c.args.highs.now c.args.count k =
    at-node c.args.vars.now c.args.lows.now c.args.highs.now c.args.count c.requires.0 _ c.loop-k.positive
    c.loop-k.negative k c.loop-k.invariant c.loop-k-test.true in
    let columns : (k < length c.args.vars.now) × (k < length c.args.lows.now) × (k < length c.args.highs.now) × (k < 65536) =
    let r = c.requires.0 in (
      omega (arith, c.loop-k.invariant.inside, r.within),
      omega (arith, c.loop-k.invariant.inside, r.within, r.lows),
      omega (arith, c.loop-k.invariant.inside, r.within, r.highs),
      omega (arith, c.loop-k.invariant.inside, r.within, r.most),
    ) in
    omega (arith, here.low-less, columns.3)

pub bounds-highs-k : goal.bounds-highs-k
bounds-highs-k c =
    let k : ℕ =
    c.loop-k.k in
    let columns : (k < length c.args.vars.now) × (k < length c.args.lows.now) × (k < length c.args.highs.now) × (k < 65536) =
    let r = c.requires.0 in (
      omega (arith, c.loop-k.invariant.inside, r.within),
      omega (arith, c.loop-k.invariant.inside, r.within, r.lows),
      omega (arith, c.loop-k.invariant.inside, r.within, r.highs),
      omega (arith, c.loop-k.invariant.inside, r.within, r.most),
    ) in
    columns.2

pub overflow_cast-high : goal.overflow_cast-high
overflow_cast-high c =
    let k : ℕ =
    c.loop-k.k in
    let here : Here c.args.vars.now c.args.lows.now c.args.highs.now c.args.count k =
    at-node c.args.vars.now c.args.lows.now c.args.highs.now c.args.count c.requires.0 _ c.loop-k.positive
    c.loop-k.negative k c.loop-k.invariant c.loop-k-test.true in
    let columns : (k < length c.args.vars.now) × (k < length c.args.lows.now) × (k < length c.args.highs.now) × (k < 65536) =
    let r = c.requires.0 in (
      omega (arith, c.loop-k.invariant.inside, r.within),
      omega (arith, c.loop-k.invariant.inside, r.within, r.lows),
      omega (arith, c.loop-k.invariant.inside, r.within, r.highs),
      omega (arith, c.loop-k.invariant.inside, r.within, r.most),
    ) in
    omega (arith, here.high-less, columns.3)

pub with_variable-positive-requires : goal.with_variable-positive-requires
with_variable-positive-requires c =
    let k : ℕ =
    c.loop-k.k in
    let here : Here c.args.vars.now c.args.lows.now c.args.highs.now c.args.count k =
    at-node c.args.vars.now c.args.lows.now c.args.highs.now c.args.count c.requires.0 _ c.loop-k.positive
    c.loop-k.negative k c.loop-k.invariant c.loop-k-test.true in
    (here.least, here.most)

pub loop-k-smaller-then-low-eq0 : goal.loop-k-smaller-then-low-eq0
loop-k-smaller-then-low-eq0 c =
    let k : ℕ =
    c.loop-k.k in
    let here : Here c.args.vars.now c.args.lows.now c.args.highs.now c.args.count k =
    at-node c.args.vars.now c.args.lows.now c.args.highs.now c.args.count c.requires.0 _ c.loop-k.positive
    c.loop-k.negative k c.loop-k.invariant c.loop-k-test.true in
    here.high-less

pub loop-k-preserved-then-low-eq0 : goal.loop-k-preserved-then-low-eq0
loop-k-preserved-then-low-eq0 c =
    let k : ℕ =
    c.loop-k.k in
    let D : Diagram =
    diagram_at (nodes_in c.args.vars.now c.args.lows.now c.args.highs.now c.args.count) c.args.f.0 in
    let a = c.args in
    subst (λ (p : ℕ). Walking (nodes_in a.vars.now a.lows.now a.highs.now a.count) a.count D p c.loop-k.negative
    (get_or a.highs.now k 0)) (sym c.with_variable-positive.ensures)
    (walking-high a.vars.now a.lows.now a.highs.now a.count c.requires.0 D c.loop-k.positive c.loop-k.negative
    k c.loop-k.invariant c.loop-k-test.true c.if-low-eq0.true)

pub returns-then-high-ne0 : goal.returns-then-high-ne0
returns-then-high-ne0 c = λ e. t≢f (sym e)

pub with_variable-negative-requires : goal.with_variable-negative-requires
with_variable-negative-requires c =
    let k : ℕ =
    c.loop-k.k in
    let here : Here c.args.vars.now c.args.lows.now c.args.highs.now c.args.count k =
    at-node c.args.vars.now c.args.lows.now c.args.highs.now c.args.count c.requires.0 _ c.loop-k.positive
    c.loop-k.negative k c.loop-k.invariant c.loop-k-test.true in
    (here.least, here.most)

pub loop-k-smaller : goal.loop-k-smaller
loop-k-smaller c =
    let k : ℕ =
    c.loop-k.k in
    let here : Here c.args.vars.now c.args.lows.now c.args.highs.now c.args.count k =
    at-node c.args.vars.now c.args.lows.now c.args.highs.now c.args.count c.requires.0 _ c.loop-k.positive
    c.loop-k.negative k c.loop-k.invariant c.loop-k-test.true in
    here.low-less

pub loop-k-preserved : goal.loop-k-preserved
loop-k-preserved c =
    let k : ℕ =
    c.loop-k.k in
    let D : Diagram =
    diagram_at (nodes_in c.args.vars.now c.args.lows.now c.args.highs.now c.args.count) c.args.f.0 in
    let a = c.args in
    subst (λ (n : ℕ). Walking (nodes_in a.vars.now a.lows.now a.highs.now a.count) a.count D c.loop-k.positive n
    (get_or a.lows.now k 0)) (sym c.with_variable-negative.ensures)
    (walking-low a.vars.now a.lows.now a.highs.now a.count c.requires.0 D c.loop-k.positive c.loop-k.negative
    k c.loop-k.invariant c.loop-k-test.true c.if-low-eq0.false c.if-high-ne0.false)

pub returns : goal.returns
returns c =
    λ e.
    walking-last c.args.vars.now c.args.lows.now c.args.highs.now c.args.count c.requires.0 _ c.loop-k.positive
    c.loop-k.negative c.loop-k.k c.loop-k.invariant (eqb-true _ _ e)
