-- The node's number falls.
use Rattle.paths.proofs.+fork_from.Given as goal

abbrev pub decreases-fork_from : goal.decreases-fork_from
decreases-fork_from l = l.f.0
