-- All members are asked, for conflicts and for units. Assumes nothing.
use native.Mathlib.Omega.{arith}
use Rattle.table.specs.Indexed.{table_of, nodes_of}
use Rattle.table.specs.Lists.{diagrams_of}
use Rattle.propagate.proofs.Quieting.{asked-all, units-all}
use Rattle.propagate.proofs.first_round.Goals as goal

pub next_round-requires : goal.next_round-requires
next_round-requires c =
    let a = c.args in
    let nodes = nodes_of (table_of a.vars.now a.lows.now a.highs.now a.heads.now a.links.now a.count) in
    record {
      fact = (c.requires.0, c.requires.1, omega arith);
      fact_2 =
          (asked-all nodes a.list.now, units-all (diagrams_of nodes a.list.now));
    }
