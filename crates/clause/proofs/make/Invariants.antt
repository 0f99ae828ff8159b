-- `make` places the clause's diagram: at the start of each turn the clause of the later variables is placed (Making). Assumes nothing.
use Rattle.table.specs.Indexed.{table_of, outcome_of}
use Rattle.clause.proofs.Making.{Making}
use Rattle.clause.proofs.make.Given as goal

abbrev pub invariant-loop-v : goal.invariant-loop-v
invariant-loop-v l =
    Making (table_of l.initial.vars l.initial.lows l.initial.highs l.initial.heads l.initial.links l.count)
    (record { positive = l.positive; negative = l.negative }) l.v
    (outcome_of l.vars l.lows l.highs l.heads l.links l.made)

abbrev pub decreases-loop-v : goal.decreases-loop-v
decreases-loop-v l =
    l.v
