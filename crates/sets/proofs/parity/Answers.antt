-- `parity` places the parity diagram of the set: the builder that is named makes it from variable 1 on. Assumes nothing.
use mathlib.Core.Bool.{true, false}
use Rattle.table.specs.Indexed.{table_of}
use Rattle.sets.proofs.Level.{whole-made}
use Rattle.sets.proofs.parity.Goals as goal

pub returns-then-odd : goal.returns-then-odd
returns-then-odd c =
    whole-made c.args.set
    (table_of c.args.vars.now c.args.lows.now c.args.highs.now c.args.heads.now c.args.links.now c.args.count) _ true c.if-odd.true _
    c.odd.ensures

pub returns : goal.returns
returns c =
    whole-made c.args.set
    (table_of c.args.vars.now c.args.lows.now c.args.highs.now c.args.heads.now c.args.links.now c.args.count) _ false c.if-odd.false _
    c.even.ensures
