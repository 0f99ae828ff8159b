-- `first_unshown`: member after member, up to the one that does not pass. Assumes nothing.
use mathlib.Core.Path.{◌≡◌}
use Prim.Native.Nat.{◌-◌}
use lib.ListN.{length}
use Rattle.table.specs.Indexed.{table_of, nodes_of}
use Rattle.table.specs.Lists.{diagrams_of}
use Rattle.conflict.specs.Marks.{unmarked}
use Rattle.tell.proofs.Turns.{Searching}
use Rattle.tell.proofs.pr.first_unshown.Given as goal

abbrev pub invariant-loop-i : goal.invariant-loop-i
invariant-loop-i l =
    (table_of l.vars l.lows l.highs l.heads l.links l.count ≡ table_of l.initial.vars l.initial.lows l.initial.highs l.initial.heads
    l.initial.links l.count)
    × Searching (table_of l.initial.vars l.initial.lows l.initial.highs l.initial.heads l.initial.links l.count) l.witness.positive
    l.witness.negative
    (diagrams_of (nodes_of (table_of l.initial.vars l.initial.lows l.initial.highs l.initial.heads l.initial.links l.count)) l.first)
    l.members l.struck l.many l.i
    × (l.marks ≡ unmarked (length l.initial.vars))
    × (length l.memo ≡ length l.initial.memo)
    × (length l.second ≡ length l.initial.second)
    × (length l.secondwords ≡ length l.initial.secondwords)

abbrev pub decreases-loop-i : goal.decreases-loop-i
decreases-loop-i l =
    l.many - l.i
