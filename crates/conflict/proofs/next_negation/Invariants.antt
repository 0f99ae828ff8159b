-- The walk over the asked: those passed over have no negation but 0. Assumes nothing.
use Prim.Native.Nat.{◌-◌}
use lib.ListN.{length}
use Rattle.table.specs.Indexed.{table_of}
use Rattle.conflict.specs.Members.{Passed}
use Rattle.conflict.proofs.next_negation.Given as goal

abbrev pub invariant-loop-i : goal.invariant-loop-i
invariant-loop-i l = Passed (table_of l.vars l.lows l.highs l.heads l.links l.count) l.asked l.all l.from l.i

abbrev pub decreases-loop-i : goal.decreases-loop-i
decreases-loop-i l = length l.asked - l.i
