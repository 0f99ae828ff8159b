-- `read_clauses` says what the definition says of the clauses: at the loop's head what is to be said is what is left to be said
-- (Building). Assumes nothing.
use mathlib.Core.Path.{◌≡◌}
use Prim.Native.Nat.{◌-◌}
use lib.ListN.{length}
use Rattle.table.specs.Indexed.{table_of}
use Rattle.formula.proofs.Building.{Building}
use Rattle.formula.proofs.read_clauses.Given as goal

abbrev pub invariant-loop-c : goal.invariant-loop-c
invariant-loop-c l =
    Building l.variables l.wanted l.from l.formula (length l.initial.vars) (table_of l.vars l.lows l.highs l.heads l.links l.count)
    l.members l.made l.at
    × (length l.vars ≡ length l.initial.vars) × (length l.lows ≡ length l.initial.lows) × (length l.highs ≡ length l.initial.highs)
    × (length l.heads ≡ length l.initial.heads)
    × (length l.links ≡ length l.initial.links) × (length l.members ≡ length l.initial.members)

abbrev pub decreases-loop-c : goal.decreases-loop-c
decreases-loop-c l =
    l.wanted - l.made
