-- `size_of` counts the set's variables from the greatest down. Assumes nothing.
use Rattle.sets.proofs.Lower.{Counting}
use Rattle.sets.proofs.variables.size_of.Given as goal

abbrev pub invariant-loop-v : goal.invariant-loop-v
invariant-loop-v l = Counting l.set l.m l.v

abbrev pub decreases-loop-v : goal.decreases-loop-v
decreases-loop-v l = l.v
