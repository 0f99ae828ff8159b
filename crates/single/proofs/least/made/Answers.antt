-- `made` leaves the at_least-p diagram placed and counts what it excludes, or leaves the table as lent and says 23. Assumes nothing.
use Rattle.table.specs.Indexed.{Table, table_of, lists_of, Outcome, outcome_of}
use Rattle.single.proofs.Calls.{done-is, full_is}
use Rattle.single.proofs.Counts.{least-grown, least-longer, least-23, least-done}
use Rattle.single.proofs.least.made.Goals as goal

pub drop_to-requires : goal.drop_to-requires
drop_to-requires c =
    let a = c.args in
    let t : Table = table_of a.vars.now a.lows.now a.highs.now a.heads.now a.links.now a.count in
    let y = c.at_least-p in
    let o : Outcome = outcome_of y.new.vars y.new.lows y.new.highs y.new.heads y.new.links y.result in
    let W = least-grown t c.requires a.set a.k o y.ensures in (W.good, c.requires.least, W.more)

pub returns-then-p : goal.returns-then-p
returns-then-p c =
    let a = c.args in
    let t : Table = table_of a.vars.now a.lows.now a.highs.now a.heads.now a.links.now a.count in
    let y = c.at_least-p in
    let o : Outcome = outcome_of y.new.vars y.new.lows y.new.highs y.new.heads y.new.links y.result in
    let z = c.drop_to.new in
    least-23 t o.table (table_of z.vars z.lows z.highs z.heads z.links a.count) c.requires (least-longer t c.requires a.set a.k o y.ensures)
    c.drop_to.ensures a.set a.k _ (full_is (lists_of t) a.count o _ y.ensures c.if-p.true) _ c.refused.ensures

pub returns : goal.returns
returns c =
    let a = c.args in
    let t : Table = table_of a.vars.now a.lows.now a.highs.now a.heads.now a.links.now a.count in
    let y = c.at_least-p in
    let o : Outcome = outcome_of y.new.vars y.new.lows y.new.highs y.new.heads y.new.links y.result in
    least-done a.set a.k _ _ _ _
    (done-is (lists_of t) a.count o _ y.ensures (least-longer t c.requires a.set a.k o y.ensures) c.if-p.false) _ c.excluded_by-e.ensures
