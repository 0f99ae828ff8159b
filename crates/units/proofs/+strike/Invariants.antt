-- `strike` goes down: the node's number falls. Assumes nothing.
use Rattle.units.proofs.+strike.Given as goal

abbrev pub decreases-strike : goal.decreases-strike
decreases-strike l = l.f.0
