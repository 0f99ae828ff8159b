-- The walk over the two lists: the places found so far are those at which they differ. Assumes nothing.
use Prim.Native.Nat.{◌-◌}
use lib.ListN.{length}
use Rattle.quiet.proofs.Known.{Differing}
use Rattle.quiet.proofs.changed_places.Given as goal

abbrev pub invariant-loop-i : goal.invariant-loop-i
invariant-loop-i l = Differing l.known l.list l.initial.places l.places l.i l.count

abbrev pub decreases-loop-i : goal.decreases-loop-i
decreases-loop-i l = length l.known - l.i
