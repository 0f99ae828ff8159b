-- `all_by_literals` fills a list with the cofactors by literals, place after place. Assumes nothing.
use Rattle.std.proofs.Common.{◌≡◌, ◌<◌, ℕ, get_or}
use Rattle.meaning.specs.Words.{in_word}
use Rattle.truth.specs.Tables.{by_literals}
use Rattle.truth_paths.proofs.all_by_literals.Given as goal

abbrev pub invariant-loop-i : goal.invariant-loop-i
invariant-loop-i l = (j : ℕ) → j < l.i → get_or l.to j 0 ≡ by_literals 6 (in_word l.by.positive) (in_word l.by.negative) (get_or l.list j 0)
