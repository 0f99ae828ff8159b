-- `negation_along` looks up one node for each of the path, the last first: the negation of the node below gives that of the next. Assumes
-- nothing.
use Prim.Native.Nat.{ℕ, ◌-◌, ◌≤◌}
use Rattle.table.specs.declared.Found.TheVariants.{At}
use Rattle.table.specs.Indexed.{table_of}
use Rattle.negate.specs.Negations.{Negates}
use Rattle.negate.specs.Thin.{PathTo}
use Rattle.negate.proofs.Paths.{Risen}
use Rattle.negate.proofs.negation_along.Given as goal

abbrev pub invariant-loop-left : goal.invariant-loop-left
invariant-loop-left l =
    (l.left ≤ l.depth)
    × ((f end : ℕ)
    → PathTo l.lows l.highs l.count l.path f l.depth end
    → Negates (table_of l.vars l.lows l.highs l.heads l.links l.count) end (At (record { 0 = l.initial.r }))
    → Risen (table_of l.vars l.lows l.highs l.heads l.links l.count) l.path f l.left l.r)

abbrev pub decreases-loop-left : goal.decreases-loop-left
decreases-loop-left l = l.left
