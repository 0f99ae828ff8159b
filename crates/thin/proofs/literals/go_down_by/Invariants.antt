-- Under the steps written the cofactor stays the one asked, in every table with these columns, and each step comes to later variables: so
-- there are at most 64. Assumes nothing.
use mathlib.Core.Path.{◌≡◌}
use mathlib.Core.List.{List}
use Prim.Native.Nat.{ℕ, ◌-◌}
use lib.ListN.{length}
use Rattle.table.specs.Indexed.{table_of}
use Rattle.operate.specs.Inner.{top}
use Rattle.thin.specs.Thin.{by_literals, Given}
use Rattle.thin.proofs.Descending.{GoingDown}
use Rattle.thin.proofs.literals.go_down_by.Given as goal

abbrev pub invariant-loop-node : goal.invariant-loop-node
invariant-loop-node l =
    (length l.xs ≡ 64)
    × (length l.told ≡ 64)
    × (length l.sides ≡ 64)
    × ((heads links : List ℕ) (count : ℕ)
    → Given (by_literals l.by) l.by.positive (table_of l.vars l.lows l.highs heads links count) l.initial.f.0 1
    → GoingDown (by_literals l.by) l.by.positive (table_of l.vars l.lows l.highs heads links count) l.initial.f.0 1 l.xs l.told l.sides
    l.f.0 1 l.depth)

abbrev pub decreases-loop-node : goal.decreases-loop-node
decreases-loop-node l = 65 - top l.vars l.f.0 1
