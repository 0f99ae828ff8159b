-- `skip_between` passes what lies between two tokens. The loop: what is to be passed is what is left to be passed. The measure is what is
-- left of the text. Assumes nothing.
use mathlib.Core.Path.{◌≡◌}
use Prim.Native.Nat.{◌≤◌, ◌-◌}
use lib.ListN.{length}
use Rattle.dimacs.specs.Text.{between}
use Rattle.dimacs.proofs.Between.{left}
use Rattle.dimacs.proofs.text.skip_between.Given as goal

abbrev pub invariant-loop-at : goal.invariant-loop-at
invariant-loop-at l = (l.at ≤ l.place) × (l.place ≤ length l.s) × (between l.s l.at ≡ left l.s l.place)

abbrev pub decreases-loop-at : goal.decreases-loop-at
decreases-loop-at l = length l.s - l.place
