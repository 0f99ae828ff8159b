-- `failing_path`: turn after turn, up to the one that does not conflict. The invariant: the table is as it was, the turns so far
-- conflicted, and the words at hand are the next path's (Passing). Assumes nothing.
use mathlib.Core.Path.{◌≡◌}
use mathlib.Core.Bool.{true}
use Prim.Native.Nat.{◌-◌}
use lib.ListN.{length}
use Rattle.table.specs.Nodes.{diagram_at}
use Rattle.table.specs.Indexed.{table_of, nodes_of}
use Rattle.conflict.specs.Marks.{unmarked}
use Rattle.paths.specs.Paths.{path_count}
use Rattle.path_lines.proofs.Turning.{Next}
use Rattle.path_causes.proofs.Passing.{Passing}
use Rattle.path_causes.proofs.failing_path.Given as goal

abbrev pub invariant-loop-root : goal.invariant-loop-root
invariant-loop-root l =
    (table_of l.vars l.lows l.highs l.heads l.links l.count ≡ table_of l.initial.vars l.initial.lows l.initial.highs l.initial.heads
    l.initial.links l.count)
    × Passing (table_of l.initial.vars l.initial.lows l.initial.highs l.initial.heads l.initial.links l.count) l.members l.root.0 l.passed
    × (l.marks ≡ unmarked (length l.initial.vars))
    × (length l.memo ≡ length l.initial.memo)
    × (length l.list ≡ length l.initial.list)
    × (length l.words ≡ length l.initial.words)
    × Next (table_of l.initial.vars l.initial.lows l.initial.highs l.initial.heads l.initial.links l.count) l.members l.root.0 l.passed true
    l.literals

abbrev pub decreases-loop-root : goal.decreases-loop-root
decreases-loop-root l =
    path_count (diagram_at (nodes_of (table_of l.initial.vars l.initial.lows l.initial.highs l.initial.heads l.initial.links l.count))
    l.root.0) - l.passed
