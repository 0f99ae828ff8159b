-- `place_node` gives the child, the place found, a new place, or `full`, as the definition does, and tells which. Assumes nothing.
use Rattle.std.proofs.Common.{sym, ◌∙◌, arith}
use Rattle.table.proofs.IndexStores.{found_some, found_none, put-equal, put-found, put-new, put_full, took-equal, took-found}
use Rattle.table.proofs.IndexStores.{took-new, took-full}
use Rattle.table.proofs.place_node.Goals as goal

pub returns-then-l-h : goal.returns-then-l-h
returns-then-l-h c =
    let G = c.requires in (put-equal _ G _ _ _ c.if-l-h.true, took-equal _ G _ _ _ c.if-l-h.true)

pub lookup-requires : goal.lookup-requires
lookup-requires c =
    c.requires

pub overflow_cast-result : goal.overflow_cast-result
overflow_cast-result c =
    omega (arith, c.requires.most, c.if-count-vars.true)

pub returns-in-At : goal.returns-in-At
returns-in-At c =
    let G = c.requires in
    let ne = c.if-l-h.false in
    let e = found_some _ _ (sym c.lookup.ensures ∙ c.in-At.is) in
    (put-found _ G _ _ _ ne _ e, took-found _ G _ _ _ ne _ e)

pub returns-then-count-vars : goal.returns-then-count-vars
returns-then-count-vars c =
    let G = c.requires in
    let ne = c.if-l-h.false in
    let e = found_none _ (sym c.lookup.ensures ∙ c.in-Nothing.is) in
    let lt = c.if-count-vars.true in
    (put-new _ G _ _ _ ne _ e lt c.append.ensures, took-new _ G _ _ _ ne e lt)

pub returns-else-count-vars : goal.returns-else-count-vars
returns-else-count-vars c =
    let G = c.requires in
    let ne = c.if-l-h.false in
    let e = found_none _ (sym c.lookup.ensures ∙ c.in-Nothing.is) in
    (put_full _ G _ _ _ ne e c.if-count-vars.false, took-full _ G _ _ _ ne e c.if-count-vars.false)
