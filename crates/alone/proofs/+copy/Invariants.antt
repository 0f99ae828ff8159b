-- `copy`: a node's number falls with each call. Assumes nothing.
use Rattle.alone.proofs.+copy.Given as goal

abbrev pub decreases-copy : goal.decreases-copy
decreases-copy l = l.k.0
