-- `trace`: round by round the words of U are written, and the members are cofactored by it. Assumes nothing.
use mathlib.Core.Path.{◌≡◌}
use Prim.Native.Nat.{◌-◌}
use lib.ListN.{length}
use Rattle.table.specs.Indexed.{table_of, nodes_of}
use Rattle.table.specs.Lists.{diagrams_of}
use Rattle.traces.proofs.Tracing.{Tracing}
use Rattle.traces.proofs.trace.Given as goal

abbrev pub invariant-loop-rounds : goal.invariant-loop-rounds
invariant-loop-rounds l =
    Tracing (table_of l.initial.vars l.initial.lows l.initial.highs l.initial.heads l.initial.links l.count)
    (diagrams_of (nodes_of (table_of l.initial.vars l.initial.lows l.initial.highs l.initial.heads l.initial.links l.count))
    l.initial.list)
    (length l.initial.fixed) (table_of l.vars l.lows l.highs l.heads l.links l.n) l.list l.memo l.words l.fixed l.rounds
    × (length l.vars ≡ length l.initial.vars) × (length l.lows ≡ length l.initial.lows) × (length l.highs ≡ length l.initial.highs)
    × (length l.heads ≡ length l.initial.heads)
    × (length l.links ≡ length l.initial.links) × (length l.memo ≡ length l.initial.memo) × (length l.list ≡ length l.initial.list)
    × (length l.words ≡ length l.initial.words)
    × (length l.fixed ≡ length l.initial.fixed)

abbrev pub decreases-loop-rounds : goal.decreases-loop-rounds
decreases-loop-rounds l =
    64 - l.rounds
