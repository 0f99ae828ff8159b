-- `all_by` fills a list with the cofactors by a word, place after place. Assumes nothing.
use Rattle.std.proofs.Common.{◌≡◌, ◌<◌, ℕ, get_or}
use Rattle.truth.specs.Tables.{near}
use Rattle.truth_rules.proofs.all_by.Given as goal

abbrev pub invariant-loop-i : goal.invariant-loop-i
invariant-loop-i l = (j : ℕ) → j < l.i → get_or l.to j 0 ≡ near (get_or l.list j 0) l.g
