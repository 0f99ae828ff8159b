-- The node's number falls.
use Rattle.walks.proofs.+one_from.Given as goal

abbrev pub decreases-one_from : goal.decreases-one_from
decreases-one_from l = l.f.0
