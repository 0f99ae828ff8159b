-- What top nodes tell is first; where they do not, the walks go on from there. Assumes nothing.
use mathlib.Core.Path.{◌∙◌}
use native.Mathlib.Omega.{arith}
use lib.ListN.{length-map}
use Rattle.table.specs.Nodes.{diagram_at}
use Rattle.walks.specs.Readable.{nodes_in}
use Rattle.unit_search.proofs.Taking.{first-none, first-passed}
use Rattle.unit_search.proofs.first_units.Goals as goal

pub returns-then-list-place : goal.returns-then-list-place
returns-then-list-place c =
    let a = c.args in
    let nodes = nodes_in a.vars.now a.lows.now a.highs.now a.count in
    let list = a.list.now in
    let t = c.in-UpTo.ensures in
    let place = c.in-UpTo.place in
    first-passed nodes list place (omega (arith, t.most, length-map list (diagram_at nodes))) t.none
    ∙ first-none 64 nodes list place (omega (arith, c.if-list-place.true))

pub first_by_walks-requires : goal.first_by_walks-requires
first_by_walks-requires c =
    record { readable = c.requires.readable; fact = (c.requires.fact, c.in-UpTo.ensures) }

pub returns-in-Told : goal.returns-in-Told
returns-in-Told c =
    c.in-Told.ensures
