-- `find` finds where the clause's diagram stands: at the start of each turn the clause of the later variables does (Making). Assumes
-- nothing.
use Prim.Native.Nat.{◌-◌}
use Rattle.table.specs.Indexed.{table_of}
use Rattle.clause.proofs.Making.{stay, Making}
use Rattle.clause.proofs.search.find.Given as goal

abbrev pub invariant-loop-v : goal.invariant-loop-v
invariant-loop-v l =
    Making (table_of l.vars l.lows l.highs l.heads l.links l.count) (record { positive = l.positive; negative = l.negative }) l.v
    (stay (table_of l.vars l.lows l.highs l.heads l.links l.count) l.node.0)

abbrev pub decreases-loop-v : goal.decreases-loop-v
decreases-loop-v l = l.v
