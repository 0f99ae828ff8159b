-- The walk over the asked: none of them so far has its negation listed, while the memo stays right. Assumes nothing.
use mathlib.Core.Path.{◌≡◌}
use Prim.Native.Nat.{◌-◌}
use lib.ListN.{length}
use Rattle.table.specs.Indexed.{table_of}
use Rattle.negate.specs.Negations.{NegationMemo}
use Rattle.conflict.proofs.Marked.{StillAsked}
use Rattle.conflict.proofs.rest_negated.Given as goal

abbrev pub invariant-loop-i : goal.invariant-loop-i
invariant-loop-i l =
    (length l.memo ≡ length l.initial.memo)
    × NegationMemo l.memo (table_of l.vars l.lows l.highs l.heads l.links l.count)
    × StillAsked (table_of l.vars l.lows l.highs l.heads l.links l.count) l.asked l.marks l.all l.from l.i

abbrev pub decreases-loop-i : goal.decreases-loop-i
decreases-loop-i l = length l.asked - l.i
