-- The node's number falls.
use Rattle.paths.proofs.+first_from.Given as goal

abbrev pub decreases-first_from : goal.decreases-first_from
decreases-first_from l = l.f.0
