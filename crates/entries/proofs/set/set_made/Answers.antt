-- `set_made`: the builder of the record's kind makes its diagram. Assumes nothing.
use Rattle.table.specs.Indexed.{Table, table_of}
use Rattle.entries.proofs.SetEntries.{kind-made}
use Rattle.entries.proofs.set.set_made.Reads as reads
use Rattle.entries.proofs.set.set_made.Lts as lts
use Rattle.entries.proofs.set.set_made.Tie as tie
use Rattle.entries.proofs.set.set_made.Goals as goal

module _ (s : lts.Start tie.the-claims reads.Pre reads.Post) where
  abbrev before : Table
  before = table_of s.args.vars.now s.args.lows.now s.args.highs.now s.args.heads.now s.args.links.now
      s.args.count

pub returns-in-Parity : goal.returns-in-Parity
returns-in-Parity c =
    let c12 = c.before.before.before.before.before.before.before.before.before.before.before.before in
    let c24 = c12.before.before.before.before.before.before.before.before.before.before.before.before in
    kind-made
    (before c24) _ _ _ c.in-Parity.is _
    c.parity.ensures

pub returns-in-AtLeast : goal.returns-in-AtLeast
returns-in-AtLeast c =
    let c12 = c.before.before.before.before.before.before.before.before.before.before.before.before in
    kind-made
    (before c12.before.before.before.before.before.before.before.before.before.before.before) _ _ _ c.in-AtLeast.is _
    c.at_least.ensures
