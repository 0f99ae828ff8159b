-- `line_start`: what is to be found is what is left to be found. The measure is what is left of the records. Assumes nothing.
use mathlib.Core.Path.{◌≡◌}
use Prim.Native.Nat.{◌-◌}
use Rattle.why.specs.Again.{Walk, line_start}
use Rattle.why.proofs.opening.line_start.Given as goal

abbrev pub invariant-loop-at : goal.invariant-loop-at
invariant-loop-at l = Walk l.proof l.at l.to × (line_start (l.to - l.at) l.proof l.start l.at l.to ≡ line_start l.to l.proof 0 0 l.to)

abbrev pub decreases-loop-at : goal.decreases-loop-at
decreases-loop-at l = l.to - l.at
