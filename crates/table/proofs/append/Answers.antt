-- `append` leaves the table with one node more. Assumes nothing.
use Rattle.table.specs.Indexed.{table_of}
use Rattle.table.proofs.IndexStores.{appended}
use Rattle.table.proofs.append.Goals as goal

pub returns : goal.returns
returns c =
    let a = c.args in
    appended (table_of a.vars.now a.lows.now a.highs.now a.heads.now a.links.now a.count)
    c.requires.0 a.v a.l a.h _ _ c.requires.1 c.link.ensures
