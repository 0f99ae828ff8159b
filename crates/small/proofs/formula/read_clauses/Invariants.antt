-- `read_clauses`: the formula's clauses as words. The idea: what is left of the loop is what is left of the reading. Assumes nothing.
use mathlib.Core.Path.{◌≡◌}
use Prim.Native.Nat.{◌-◌}
use lib.ListN.{length}
use Rattle.small.proofs.RunWays.{Building}
use Rattle.small.proofs.formula.read_clauses.Given as goal

abbrev pub invariant-loop-c : goal.invariant-loop-c
invariant-loop-c l = Building l.variables l.wanted l.from l.formula l.members l.made l.at ×
    (length l.members ≡ length l.initial.members)

abbrev pub decreases-loop-c : goal.decreases-loop-c
decreases-loop-c l = l.wanted - l.made
