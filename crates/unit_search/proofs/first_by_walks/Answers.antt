-- The walk over the list: none of the members passed has a unit, while the memo stays right. Assumes nothing.
use mathlib.Core.Logic.{⊎_elim}
use mathlib.Core.Path.{refl, ◌∙◌}
use Prim.Native.Nat.{◌+◌, ◌-◌}
use native.Mathlib.Omega.{arith}
use lib.ListN.{length-map}
use Rattle.table.specs.Nodes.{diagram_at}
use Rattle.table.specs.Lists.{diagrams_of}
use Rattle.walks.specs.Readable.{nodes_in}
use Rattle.unit_search.proofs.Taking.{first-none, first-passed, behind-next, unitless-skip, taken_here, unitless-here}
use Rattle.unit_search.proofs.first_by_walks.Goals as goal

pub loop-place-init : goal.loop-place-init
loop-place-init c =
    (refl, λ i p. omega (arith, c.clear_cells.ensures i p), c.requires.fact.1)

pub units_from-u-requires : goal.units_from-u-requires
units_from-u-requires c =
    let r = c.requires.readable in
    let w = c.loop-place in (
      r.0,
      r.1 w.place c.loop-place-test.true,
      omega (arith, w.invariant.0, c.clear_cells.auto.memo, r.2),
      w.invariant.1,
    )

pub returns-then-u-ne0 : goal.returns-then-u-ne0
returns-then-u-ne0 c =
    let a = c.args in
    let nodes = nodes_in a.vars.now a.lows.now a.highs.now a.count in
    let w = c.loop-place in
    let y = c.units_from-u in
    taken_here nodes a.list.now w.place c.loop-place-test.true w.invariant.2.none y.result y.ensures.fact (omega arith) (omega arith)
    (λ z. ⊎_elim (λ s. s z.0) (λ s. s.1 z.1) c.then-u-ne0.either)

pub overflow_add-k : goal.overflow_add-k
overflow_add-k c =
    omega (arith, c.loop-place.invariant.2.fewer)

pub overflow_add-place : goal.overflow_add-place
overflow_add-place c =
    omega arith

pub next_asked-place-requires : goal.next_asked-place-requires
next_asked-place-requires c =
    let w = c.loop-place in
    (c.requires.fact.0.1.rising, behind-next c.args.places.now c.args.asked w.k w.place w.invariant.2.next)

pub loop-place-smaller : goal.loop-place-smaller
loop-place-smaller c =
    omega (arith, c.next_asked-place.ensures.from_on, c.loop-place-test.true)

pub loop-place-preserved : goal.loop-place-preserved
loop-place-preserved c =
    let a = c.args in
    let nodes = nodes_in a.vars.now a.lows.now a.highs.now a.count in
    let w = c.loop-place in
    let less = c.loop-place-test.true in
    let y = c.units_from-u in (
      y.auto.memo ∙ w.invariant.0,
      λ i p. omega (arith, y.ensures.marks_below i p, c.next_asked-place.ensures.from_on),
      unitless-skip (diagrams_of nodes a.list.now) a.places.now a.asked (w.k + 1) (w.place + 1) c.next_asked-place.result c.requires.fact.0
          (omega (arith, w.invariant.2.fewer)) (omega (arith, less, length-map a.list.now (diagram_at nodes)))
          (unitless-here nodes a.list.now w.place less w.invariant.2.none y.result y.ensures.fact
          c.if-u-ne0.false c.if-u-ne0-2.false)
          c.next_asked-place.ensures,
    )

pub returns : goal.returns
returns c =
    let a = c.args in
    let nodes = nodes_in a.vars.now a.lows.now a.highs.now a.count in
    let w = c.loop-place in
    let list = c.args.list.now in
    first-passed nodes list w.place (omega (arith, w.invariant.2.most, length-map list (diagram_at nodes))) w.invariant.2.none
    ∙ first-none 64 nodes list w.place (omega (arith, c.loop-place-test.false))
