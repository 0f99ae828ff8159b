-- `first_of`: all members are asked. Assumes nothing.
use Rattle.table.specs.Lists.{diagrams_of}
use Rattle.walks.specs.Readable.{nodes_in}
use Rattle.propagate.proofs.Quieting.{units-all}
use Rattle.traces.proofs.first_of.Goals as goal

-- src/lib.rt:88:5
pub first_units-requires : goal.first_units-requires
first_units-requires c = let a = c.args in record {
  readable = c.requires;
  fact = units-all
      (diagrams_of (nodes_in a.vars.now a.lows.now a.highs.now a.count) a.list.now);
}
