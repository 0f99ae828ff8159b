-- `path_turns` judges the turns of all paths. The invariant: the table is as it was, what is to be shown is what is left to be shown, and
-- the words at hand are the next path's (Turning). Assumes nothing.
use mathlib.Core.Path.{◌≡◌}
use Prim.Native.Nat.{◌-◌}
use lib.ListN.{length}
use Rattle.table.specs.Nodes.{diagram_at}
use Rattle.table.specs.Indexed.{table_of, nodes_of}
use Rattle.conflict.specs.Marks.{unmarked}
use Rattle.paths.specs.Paths.{path_count}
use Rattle.path_lines.proofs.Turning.{Turning, Next}
use Rattle.path_lines.proofs.path_turns.Given as goal

abbrev pub invariant-loop-more : goal.invariant-loop-more
invariant-loop-more l =
    (table_of l.vars l.lows l.highs l.heads l.links l.count ≡ table_of l.initial.vars l.initial.lows l.initial.highs l.initial.heads
    l.initial.links l.count)
    × Turning (table_of l.initial.vars l.initial.lows l.initial.highs l.initial.heads l.initial.links l.count) l.members l.root.0 l.passed
    l.rounds l.peak
    × (l.marks ≡ unmarked (length l.initial.vars))
    × (length l.memo ≡ length l.initial.memo)
    × (length l.list ≡ length l.initial.list)
    × (length l.words ≡ length l.initial.words)
    × Next (table_of l.initial.vars l.initial.lows l.initial.highs l.initial.heads l.initial.links l.count) l.members l.root.0 l.passed
    l.more l.literals

abbrev pub decreases-loop-more : goal.decreases-loop-more
decreases-loop-more l =
    path_count (diagram_at (nodes_of (table_of l.initial.vars l.initial.lows l.initial.highs l.initial.heads l.initial.links l.count))
    l.root.0) - l.passed
