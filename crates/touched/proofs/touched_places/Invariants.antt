-- The walk over the words: the places found so far are those of the words with a variable in `touching`. Assumes nothing.
use Rattle.touched.proofs.Places.{Finding}
use Rattle.touched.proofs.touched_places.Given as goal

abbrev pub invariant-loop-i : goal.invariant-loop-i
invariant-loop-i l = Finding l.words l.touching l.initial.places l.places l.i l.count
