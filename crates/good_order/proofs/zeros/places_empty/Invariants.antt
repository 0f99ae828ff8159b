-- The numbers are or-ed one after another. Assumes nothing.
use Rattle.good_order.proofs.Gathered.{Gathered}
use Rattle.good_order.proofs.zeros.places_empty.Given as goal

abbrev pub invariant-loop-i : goal.invariant-loop-i
invariant-loop-i l = Gathered l.column l.from l.to l.i l.all
