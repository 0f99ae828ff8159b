-- The node's number falls.
use Rattle.paths.proofs.+paths_left.Given as goal

abbrev pub decreases-paths_left : goal.decreases-paths_left
decreases-paths_left l = l.f.0
