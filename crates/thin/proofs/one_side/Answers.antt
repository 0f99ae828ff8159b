-- A side that is told stands beside the other side's pair, and the variable is over both. Assumes nothing.
use mathlib.Core.Path.{sym, ◌∙◌}
use Rattle.table.specs.Indexed.{Table, table_of}
use Rattle.operate.specs.declared.Operation.{Operation}
use Rattle.operate.specs.Inner.{operation_of}
use Rattle.thin.proofs.Stepping.{given-leveled, low-given, high-given, low_told, high-told}
use Rattle.thin.proofs.one_side.Goals as goal

pub settled-requires : goal.settled-requires
settled-requires c =
    let a = c.args in
    let r = c.requires in
    let op : Operation = operation_of a.kind a.by in
    let T : Table = table_of a.vars.now r.lows r.highs r.heads r.links r.count in
    given-leveled op a.by.positive T a.s.f0.0 a.s.g0.0 (low-given op a.by.positive T a.s r.given)

pub settled-requires-in-Nothing : goal.settled-requires-in-Nothing
settled-requires-in-Nothing c =
    let a = c.args in
    let r = c.requires in
    let op : Operation = operation_of a.kind a.by in
    let T : Table = table_of a.vars.now r.lows r.highs r.heads r.links r.count in
    given-leveled op a.by.positive T a.s.f1.0 a.s.g1.0 (high-given op a.by.positive T a.s r.given)

pub returns-in-At : goal.returns-in-At
returns-in-At c =
    let a = c.args in
    λ lows highs heads links count H.
    low_told a.kind a.by (table_of a.vars.now lows highs heads links count) a.s H c.in-At.told (sym c.settled.ensures ∙ c.in-At.is)

pub returns-in-At-settled : goal.returns-in-At-settled
returns-in-At-settled c =
    let a = c.args in
    λ lows highs heads links count H.
    high-told a.kind a.by (table_of a.vars.now lows highs heads links count) a.s H c.in-At-settled.told
    (sym c.settled-in-Nothing.ensures ∙ c.in-At-settled.is)
