-- `by_literals` goes down the variables: what is left to be done is what is to be done. Assumes nothing.
use mathlib.Core.Path.{◌≡◌}
use Rattle.meaning.specs.Words.{in_word}
use Rattle.truth.specs.Tables.{by_literals}
use Rattle.truth.proofs.by_literals.Given as goal

abbrev pub invariant-loop-v : goal.invariant-loop-v
invariant-loop-v l = by_literals l.v (in_word l.by.positive) (in_word l.by.negative) l.value ≡ by_literals 6
    (in_word l.by.positive) (in_word l.by.negative) l.w
