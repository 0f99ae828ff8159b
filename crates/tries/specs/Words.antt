-- The witness of a clause in two words, as the code makes it. No call open to others cites this file.
use Rattle.std.specs.Prelude.{Bool, true, false, ℕ, ◌+◌}
use Rattle.words.specs.declared.Literals.{Literals}
use Rattle.words.specs.Sets.{with_variable, without}

-- The pivot is v's literal of that sign; the others' signs are turned round.
unfoldable pub witness_words : Literals → ℕ → Bool → Literals
unfolding without
witness_words u v true = record { positive = with_variable u.negative v; negative = without 64 u.positive v (v + 1) }
witness_words u v false = record { positive = without 64 u.negative v (v + 1); negative = with_variable u.positive v }
