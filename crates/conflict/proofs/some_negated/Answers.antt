-- The asked are asked without a memo as far as that goes, and from there with one. Assumes nothing.
use mathlib.Core.Path.{sym, subst}
use Rattle.table.specs.Indexed.{Table, table_of, nodes_of}
use Rattle.conflict.specs.Members.{AskedThin}
use Rattle.conflict.proofs.Marked.{StillAsked, still-none}
use Rattle.conflict.proofs.some_negated.Goals as goal

pub returns-then-asked-place : goal.returns-then-asked-place
returns-then-asked-place c =
    let table : Table =
    let a = c.args in table_of a.vars.now a.lows.now a.highs.now a.heads.now a.links.now a.count in
    let asked-to : let a = c.args in StillAsked table a.asked.now a.marks.now a.all a.from c.in-UpTo.place =
    λ list M N. subst (AskedThin (nodes_of table) list c.args.asked.now c.args.all) c.in-UpTo.is
    (c.thin_negated.ensures list M N) in
    let a = c.args in
    λ list M N. sym (still-none table c.requires.0.good a.asked.now a.marks.now a.all a.from _ c.if-asked-place.true
    asked-to list M N)

pub returns-in-Conflict : goal.returns-in-Conflict
returns-in-Conflict c =
    let table : Table =
    let a = c.args in table_of a.vars.now a.lows.now a.highs.now a.heads.now a.links.now a.count in
    λ list M N. sym (subst (AskedThin (nodes_of table) list c.args.asked.now c.args.all) c.in-Conflict.is
    (c.thin_negated.ensures list M N))

pub returns-else-asked-place : goal.returns-else-asked-place
returns-else-asked-place c =
    let table : Table =
    let a = c.args in table_of a.vars.now a.lows.now a.highs.now a.heads.now a.links.now a.count in
    let asked-to : let a = c.args in StillAsked table a.asked.now a.marks.now a.all a.from c.in-UpTo.place =
    λ list M N. subst (AskedThin (nodes_of table) list c.args.asked.now c.args.all) c.in-UpTo.is
    (c.thin_negated.ensures list M N) in
    λ list M N. c.rest_negated.ensures list M (asked-to list M N)
