-- `clause`: the word of a clause. The idea: what is left of the loop is what is left of the definition's recursion. Assumes nothing.
use mathlib.Core.Path.{◌≡◌}
use Rattle.meaning.specs.Words.{in_word}
use Rattle.truth_entries.specs.Made.{clause_down, clause_word}
use Rattle.truth_entries.proofs.clause.Given as goal

abbrev pub invariant-loop-v : goal.invariant-loop-v
invariant-loop-v l = clause_down (in_word l.literals.positive) (in_word l.literals.negative) l.v l.w ≡ clause_word (in_word l.literals.positive)
    (in_word l.literals.negative)
