-- `diagonals` places at least k of the set's variables. Assumes nothing.
use mathlib.Core.Path.{◌≡◌}
use Prim.Native.Nat.{◌-◌, ◌+◌}
use lib.ListN.{length}
use Rattle.table.specs.Indexed.{table_of}
use Rattle.sets.proofs.Rows.{Before}
use Rattle.sets.proofs.diagonals.diagonals.Given as goal

abbrev pub invariant-loop-d : goal.invariant-loop-d
invariant-loop-d l =
    Before (table_of l.initial.vars l.initial.lows l.initial.highs l.initial.heads l.initial.links l.count) l.set l.k l.m
    (table_of l.vars l.lows l.highs l.heads l.links l.n) l.row l.node.0 l.d l.v
    × (length l.vars ≡ length l.initial.vars) × (length l.lows ≡ length l.initial.lows) × (length l.highs ≡ length l.initial.highs)
    × (length l.heads ≡ length l.initial.heads) × (length l.links ≡ length l.initial.links) × (length l.row ≡ length l.initial.row)

abbrev pub decreases-loop-d : goal.decreases-loop-d
decreases-loop-d l = l.m + 1 - l.d
