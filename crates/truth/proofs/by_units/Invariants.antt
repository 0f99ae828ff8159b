-- `by_units` goes down the variables: what is left to be done is what is to be done. Assumes nothing.
use mathlib.Core.Path.{◌≡◌}
use mathlib.Core.Bool.{true, false}
use Rattle.truth.specs.Tables.{by_literals, word_unit}
use Rattle.truth.proofs.by_units.Given as goal

abbrev pub invariant-loop-v : goal.invariant-loop-v
invariant-loop-v l = by_literals l.v (λ v. word_unit l.u v true) (λ v. word_unit l.u v false) l.value ≡ by_literals 6
    (λ v. word_unit l.u v true) (λ v. word_unit l.u v false) l.w
