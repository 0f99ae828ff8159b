-- The node's number falls.
use Rattle.supports.proofs.+word_from.Given as goal

abbrev pub decreases-word_from : goal.decreases-word_from
decreases-word_from l = l.f.0
