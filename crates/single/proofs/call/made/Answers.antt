-- `made` leaves the operation's result placed, or the table as lent and 23. Assumes nothing.
use mathlib.Core.Path.{◌∙◌}
use Rattle.table.specs.Indexed.{Table, table_of, lists_of, Outcome, outcome_of}
use Rattle.operate.proofs.Results.{applied-grown, applied-longer}
use Rattle.single.proofs.Calls.{done-is, full_is, dropped-is}
use Rattle.single.proofs.call.made.Goals as goal

pub apply-p-requires : goal.apply-p-requires
apply-p-requires c =
    c.requires

pub drop_to-requires : goal.drop_to-requires
drop_to-requires c =
    let y = c.apply-p in
    let o : Outcome = outcome_of y.new.vars y.new.lows y.new.highs y.new.heads y.new.links y.result in
    let W = applied-grown _ _ _ _ c.requires.operands o y.ensures.result_after in (W.good, c.requires.operands.good.least, W.more)

pub returns-then-p : goal.returns-then-p
returns-then-p c =
    let a = c.args in
    let t : Table = table_of a.vars.now a.lows.now a.highs.now a.heads.now a.links.now a.count in
    let y = c.apply-p in
    let o : Outcome = outcome_of y.new.vars y.new.lows y.new.highs y.new.heads y.new.links y.result in
    let L = applied-longer _ _ _ _ c.requires.operands o y.ensures.result_after in
    let z = c.drop_to.new in
    dropped-is t o.table (table_of z.vars z.lows z.highs z.heads z.links a.count) c.requires.operands.good L c.drop_to.ensures
    ∙ full_is (lists_of t) a.count o _ y.ensures.result_after c.if-p.true

pub returns : goal.returns
returns c =
    let a = c.args in
    let t : Table = table_of a.vars.now a.lows.now a.highs.now a.heads.now a.links.now a.count in
    let y = c.apply-p in
    let o : Outcome = outcome_of y.new.vars y.new.lows y.new.highs y.new.heads y.new.links y.result in
    done-is (lists_of t) a.count o _ y.ensures.result_after (applied-longer _ _ _ _ c.requires.operands o y.ensures.result_after)
    c.if-p.false
