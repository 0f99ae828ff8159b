-- The walk over the list: none of the members passed has a unit, as their top nodes tell. Assumes nothing.
use mathlib.Core.Path.{refl}
use mathlib.Core.Logic.{inl, ⊎_elim}
use Prim.Native.Nat.{◌+◌, ◌-◌}
use native.Mathlib.Omega.{arith}
use lib.ListN.{length-map}
use Rattle.table.specs.Nodes.{diagram_at}
use Rattle.table.specs.Lists.{diagrams_of}
use Rattle.walks.specs.Readable.{nodes_in}
use Rattle.unit_search.proofs.Taking.{behind-next, unitless-skip, taken_here, unitless-here}
use Rattle.unit_search.proofs.first_at_top.Goals as goal

pub next_asked-place-requires : goal.next_asked-place-requires
next_asked-place-requires c =
    (c.requires.fact.1.rising, inl (omega arith, refl))

pub loop-place-init : goal.loop-place-init
loop-place-init c =
    let a = c.args in
    let members = diagrams_of (nodes_in a.vars.now a.lows.now a.highs.now a.count) a.list.now in
    unitless-skip members a.places.now a.asked 0 0 c.next_asked-place.result c.requires.fact (omega arith) (omega arith)
    (λ k p. absurd (omega arith)) c.next_asked-place.ensures

pub units_at_top-requires : goal.units_at_top-requires
units_at_top-requires c =
    let r = c.requires.readable in
    (r.0, r.1 c.loop-place.place c.loop-place-test.true)

pub returns-in-Unknown : goal.returns-in-Unknown
returns-in-Unknown c =
    c.loop-place.invariant

pub returns-then-u-ne0 : goal.returns-then-u-ne0
returns-then-u-ne0 c =
    let a = c.args in
    let nodes = nodes_in a.vars.now a.lows.now a.highs.now a.count in
    let w = c.loop-place in
    taken_here nodes a.list.now w.place c.loop-place-test.true w.invariant.none c.in-Known.u c.in-Known.ensures (omega arith) (omega arith)
    (λ z. ⊎_elim (λ s. s z.0) (λ s. s.1 z.1) c.then-u-ne0.either)

pub overflow_add-k : goal.overflow_add-k
overflow_add-k c = omega (arith, c.loop-place.invariant.fewer)

pub overflow_add-place : goal.overflow_add-place
overflow_add-place c = omega arith

pub next_asked-place-requires-in-loop-place : goal.next_asked-place-requires-in-loop-place
next_asked-place-requires-in-loop-place c =
    let w = c.loop-place in
    (c.requires.fact.1.rising, behind-next c.args.places.now c.args.asked w.k w.place w.invariant.next)

pub loop-place-smaller : goal.loop-place-smaller
loop-place-smaller c = omega (arith, c.next_asked-place-in-loop-place.ensures.from_on, c.loop-place-test.true)

pub loop-place-preserved : goal.loop-place-preserved
loop-place-preserved c =
    let a = c.args in
    let nodes = nodes_in a.vars.now a.lows.now a.highs.now a.count in
    let w = c.loop-place in
    let less = c.loop-place-test.true in
    unitless-skip (diagrams_of nodes a.list.now) a.places.now a.asked (w.k + 1) (w.place + 1) c.next_asked-place-in-loop-place.result
    c.requires.fact
    (omega (arith, w.invariant.fewer)) (omega (arith, less, length-map a.list.now (diagram_at nodes)))
    (unitless-here nodes a.list.now w.place less w.invariant.none c.in-Known.u c.in-Known.ensures
    c.if-u-ne0.false c.if-u-ne0-2.false)
    c.next_asked-place-in-loop-place.ensures

pub returns : goal.returns
returns c =
    c.loop-place.invariant
