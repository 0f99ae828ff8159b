-- Round by round: what holds before one holds before the next. Assumes nothing.
use mathlib.Core.Path.{◌≡◌}
use Prim.Native.Nat.{◌-◌}
use lib.ListN.{length}
use Rattle.table.specs.Indexed.{table_of, nodes_of}
use Rattle.table.specs.Lists.{diagrams_of}
use Rattle.propagate.proofs.Rounds.{Due}
use Rattle.propagate.proofs.rounds_by.Given as goal

abbrev pub invariant-loop-places : goal.invariant-loop-places
invariant-loop-places l =
    Due (table_of l.initial.vars l.initial.lows l.initial.highs l.initial.heads l.initial.links l.count)
    (diagrams_of (nodes_of (table_of l.initial.vars l.initial.lows l.initial.highs l.initial.heads l.initial.links l.count))
    l.initial.list)
    (table_of l.vars l.lows l.highs l.heads l.links l.n) l.list l.memo l.marks l.words l.rounds l.u l.asked
    × (length l.vars ≡ length l.initial.vars) × (length l.lows ≡ length l.initial.lows) × (length l.highs ≡ length l.initial.highs)
    × (length l.heads ≡ length l.initial.heads)
    × (length l.links ≡ length l.initial.links) × (length l.memo ≡ length l.initial.memo) × (length l.marks ≡ length l.initial.marks)
    × (length l.list ≡ length l.initial.list)
    × (length l.words ≡ length l.initial.words)
    × (length l.places ≡ 2048) × (length l.nodes ≡ 2048)

abbrev pub decreases-loop-places : goal.decreases-loop-places
decreases-loop-places l =
    64 - l.rounds
