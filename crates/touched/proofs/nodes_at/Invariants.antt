-- The walk over the places: so many nodes are filled in. Assumes nothing.
use Rattle.touched.proofs.Places.{Filling}
use Rattle.touched.proofs.nodes_at.Given as goal

abbrev pub invariant-loop-k : goal.invariant-loop-k
invariant-loop-k l = Filling l.list l.places l.initial.nodes l.nodes l.k
