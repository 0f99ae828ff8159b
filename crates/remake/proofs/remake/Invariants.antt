-- `remake`: record after record is done again; what is left leads to the same state. Assumes nothing.
use mathlib.Core.Path.{◌≡◌}
use Prim.Native.Nat.{◌-◌}
use lib.ListN.{length}
use Rattle.conflict.specs.Marks.{unmarked}
use Rattle.state.specs.States.{lent_of, state_of}
use Rattle.why.specs.Again.{again}
use Rattle.remake.proofs.Remaking.{Remaking}
use Rattle.remake.proofs.remake.Given as goal

abbrev pub invariant-loop-at : goal.invariant-loop-at
invariant-loop-at l =
    Remaking l.variables (length l.initial.vars) l.proof (again l.to l.variables (length l.initial.vars) l.proof
    (state_of (lent_of l.initial.vars l.initial.lows l.initial.highs l.initial.heads l.initial.links l.initial.members l.initial.scratch
    l.initial.struck) l.initial.state) l.from l.to) l.to
    (lent_of l.vars l.lows l.highs l.heads l.links l.members l.scratch l.struck) l.state l.at
    × (l.marks ≡ unmarked (length l.initial.vars))
    × (length l.vars ≡ length l.initial.vars) × (length l.lows ≡ length l.initial.lows) × (length l.highs ≡ length l.initial.highs)
    × (length l.heads ≡ length l.initial.heads)
    × (length l.links ≡ length l.initial.links) × (length l.memo ≡ length l.initial.memo) × (length l.marks ≡ length l.initial.marks)
    × (length l.members ≡ length l.initial.members) × (length l.scratch ≡ length l.initial.scratch)
    × (length l.struck ≡ length l.initial.struck)

abbrev pub decreases-loop-at : goal.decreases-loop-at
decreases-loop-at l =
    l.to - l.at
