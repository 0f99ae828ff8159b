-- `turns` judges the turns of all members. The invariant: the table is as it was, and what is to be shown is what is left to be shown
-- (Turning). Assumes nothing.
use mathlib.Core.Path.{◌≡◌}
use Prim.Native.Nat.{◌-◌}
use lib.ListN.{length}
use Rattle.table.specs.Indexed.{table_of}
use Rattle.conflict.specs.Marks.{unmarked}
use Rattle.judge.proofs.Turning.{Turning}
use Rattle.turn_memo.proofs.Known.{Known}
use Rattle.pr_lines.proofs.Equal.{Turned}
use Rattle.pr_lines.proofs.turns.Given as goal

abbrev pub invariant-loop-i : goal.invariant-loop-i
invariant-loop-i l =
    (table_of l.vars l.lows l.highs l.heads l.links l.count ≡ table_of l.initial.vars l.initial.lows l.initial.highs l.initial.heads
    l.initial.links l.count)
    × Turning (table_of l.initial.vars l.initial.lows l.initial.highs l.initial.heads l.initial.links l.count) l.first l.members
    l.witness.positive l.witness.negative l.i l.rounds l.peak
    × (l.marks ≡ unmarked (length l.initial.vars))
    × (length l.memo ≡ length l.initial.memo)
    × (length l.second ≡ length l.initial.second)
    × (length l.secondwords ≡ length l.initial.secondwords)
    × Known l.judged (Turned (table_of l.initial.vars l.initial.lows l.initial.highs l.initial.heads l.initial.links l.count) l.first
    l.witness.positive l.witness.negative l.peak)
    × (length l.judged ≡ 4096)

abbrev pub decreases-loop-i : goal.decreases-loop-i
decreases-loop-i l =
    length l.members - l.i
