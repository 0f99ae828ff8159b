-- `diagonal` places at least k of the last d + k variables, and leaves the row for the next diagonal. Assumes nothing.
use mathlib.Core.Path.{◌≡◌}
use Prim.Native.Nat.{◌-◌, ◌+◌}
use lib.ListN.{length}
use Rattle.table.specs.Indexed.{table_of}
use Rattle.sets.proofs.Rows.{Along}
use Rattle.sets.proofs.diagonals.diagonal.Given as goal

abbrev pub invariant-loop-j : goal.invariant-loop-j
invariant-loop-j l =
    Along (table_of l.initial.vars l.initial.lows l.initial.highs l.initial.heads l.initial.links l.count) l.set l.d l.k l.initial.row
    (table_of l.vars l.lows l.highs l.heads l.links l.n) l.row l.node.0 l.j l.v
    × (length l.vars ≡ length l.initial.vars) × (length l.lows ≡ length l.initial.lows) × (length l.highs ≡ length l.initial.highs)
    × (length l.heads ≡ length l.initial.heads) × (length l.links ≡ length l.initial.links) × (length l.row ≡ length l.initial.row)

abbrev pub decreases-loop-j : goal.decreases-loop-j
decreases-loop-j l = l.k + 1 - l.j
