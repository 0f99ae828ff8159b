-- `share`: at the start of each turn what is to be shared is what is left to be shared (Giving). Assumes nothing.
use Rattle.table.specs.Indexed.{table_of}
use Rattle.alone.proofs.Giving.{Giving}
use Rattle.alone.proofs.share.Given as goal

abbrev pub invariant-loop-j : goal.invariant-loop-j
invariant-loop-j l =
    Giving (table_of l.initial.vars l.initial.lows l.initial.highs l.initial.heads l.initial.links l.count) l.ownvars l.ownlows l.ownhighs
    l.owncount l.initial.own l.j
    (table_of l.vars l.lows l.highs l.heads l.links l.made) l.own
