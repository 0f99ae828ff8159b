-- `adopt`: at the start of each turn what is to be placed is what is left to be placed (Adopting). Assumes nothing.
use Rattle.table.specs.Indexed.{table_of}
use Rattle.alone.proofs.Adopting.{Adopting}
use Rattle.alone.proofs.adopt.Given as goal

abbrev pub invariant-loop-i : goal.invariant-loop-i
invariant-loop-i l =
    Adopting l.vars l.lows l.highs l.count (table_of l.initial.ownvars l.initial.ownlows l.initial.ownhighs l.initial.ownheads
    l.initial.ownlinks l.owncount) l.initial.known l.numbers l.i
    (table_of l.ownvars l.ownlows l.ownhighs l.ownheads l.ownlinks l.made) l.known
