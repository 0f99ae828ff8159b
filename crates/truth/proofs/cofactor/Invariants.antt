-- `cofactor` goes down the variables: what is left to be done is what is to be done. Assumes nothing.
use mathlib.Core.Path.{◌≡◌}
use Rattle.truth.specs.Tables.{near_from, near}
use Rattle.truth.proofs.cofactor.Given as goal

abbrev pub invariant-loop-v : goal.invariant-loop-v
invariant-loop-v l = near_from l.v l.value l.some ≡ near l.f l.g
