-- `read_line` says what the definition says of the call's records: at the loop's head what is to be said is what is left to be said
-- (Reading). Assumes nothing.
use mathlib.Core.Path.{◌≡◌}
use Prim.Native.Nat.{suc, ◌+◌, ◌-◌}
use lib.ListN.{length}
use Rattle.state.specs.States.{lent_of, state_of}
use Rattle.shares.specs.Alone.{line_call}
use Rattle.book_parts.proofs.Reading.{Reading}
use Rattle.book_parts.proofs.line.read_line.Given as goal

abbrev pub invariant-loop-at : goal.invariant-loop-at
invariant-loop-at l =
    Reading l.variables (length l.initial.vars) l.bytes
    (line_call (suc (length l.bytes)) 64 l.variables (length l.initial.vars) l.bytes
    (state_of (lent_of l.initial.vars l.initial.lows l.initial.highs l.initial.heads l.initial.links l.initial.members l.initial.scratch
    l.initial.struck) l.initial.state) 0)
    l.initial.state.members (lent_of l.vars l.lows l.highs l.heads l.links l.members l.scratch l.struck) l.marks l.memo l.state l.at
    × (length l.vars ≡ length l.initial.vars) × (length l.lows ≡ length l.initial.lows) × (length l.highs ≡ length l.initial.highs)
    × (length l.heads ≡ length l.initial.heads)
    × (length l.links ≡ length l.initial.links) × (length l.memo ≡ length l.initial.memo) × (length l.marks ≡ length l.initial.marks)
    × (length l.members ≡ length l.initial.members) × (length l.scratch ≡ length l.initial.scratch)
    × (length l.struck ≡ length l.initial.struck)

abbrev pub decreases-loop-at : goal.decreases-loop-at
decreases-loop-at l =
    length l.bytes + 1 - l.at
