-- `read_commands` says what the definition says of the proof: at the loop's head what is to be said is what is left to be said (Going).
-- Assumes nothing.
use mathlib.Core.Path.{◌≡◌}
use Prim.Native.Nat.{◌-◌}
use lib.ListN.{length}
use Rattle.verdict.specs.Check.{proof_from}
use Rattle.state.specs.States.{lent_of, state_of}
use Rattle.replay.proofs.Going.{Going}
use Rattle.replay.proofs.read_commands.Given as goal

abbrev pub invariant-loop-at : goal.invariant-loop-at
invariant-loop-at l =
    Going l.mode l.variables (length l.initial.vars) l.proof
    (proof_from l.mode l.variables (length l.initial.vars) l.proof
    (state_of (lent_of l.initial.vars l.initial.lows l.initial.highs l.initial.heads l.initial.links l.initial.members l.initial.scratch
    l.initial.struck) l.initial.state))
    (lent_of l.vars l.lows l.highs l.heads l.links l.members l.scratch l.struck) l.marks l.memo l.state l.at
    × (length l.vars ≡ length l.initial.vars) × (length l.lows ≡ length l.initial.lows) × (length l.highs ≡ length l.initial.highs)
    × (length l.heads ≡ length l.initial.heads)
    × (length l.links ≡ length l.initial.links) × (length l.memo ≡ length l.initial.memo) × (length l.marks ≡ length l.initial.marks)
    × (length l.members ≡ length l.initial.members) × (length l.scratch ≡ length l.initial.scratch)
    × (length l.struck ≡ length l.initial.struck)

abbrev pub decreases-loop-at : goal.decreases-loop-at
decreases-loop-at l =
    length l.proof - l.at
