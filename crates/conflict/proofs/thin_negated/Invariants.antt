-- The walk over the asked whose negations are nodes: none so far is marked. Assumes nothing.
use Prim.Native.Nat.{◌-◌, ◌≤◌}
use lib.ListN.{length}
use Rattle.table.specs.Indexed.{table_of}
use Rattle.conflict.proofs.Marked.{StillAsked}
use Rattle.conflict.proofs.thin_negated.Given as goal

abbrev pub invariant-loop-i : goal.invariant-loop-i
invariant-loop-i l =
    (l.i ≤ length l.asked) × StillAsked (table_of l.vars l.lows l.highs l.heads l.links l.count) l.asked l.marks l.all l.from l.i

abbrev pub decreases-loop-i : goal.decreases-loop-i
decreases-loop-i l = length l.asked - l.i
