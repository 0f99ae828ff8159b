-- Where the steps have come the result stays the one asked, in every table with these columns, and each step comes to later variables
-- (Forced). Assumes nothing.
use mathlib.Core.List.{List}
use Prim.Native.Nat.{ℕ, ◌-◌}
use Rattle.table.specs.Indexed.{table_of}
use Rattle.operate.specs.Inner.{operation_of, top, Given}
use Rattle.operate.proofs.Forced.{Forced}
use Rattle.operate.proofs.step.forced_down.Given as goal

abbrev pub invariant-loop-k : goal.invariant-loop-k
invariant-loop-k l = (heads links : List ℕ) (count : ℕ)
    → Given (operation_of l.kind l.by) l.by.positive (table_of l.vars l.lows l.highs heads links count) l.initial.f.0 l.initial.g.0
    → Forced (operation_of l.kind l.by) l.by.positive (table_of l.vars l.lows l.highs heads links count) l.initial.f.0 l.initial.g.0 l.f.0
    l.g.0

abbrev pub decreases-loop-k : goal.decreases-loop-k
decreases-loop-k l = 65 - top l.vars l.f.0 l.g.0
