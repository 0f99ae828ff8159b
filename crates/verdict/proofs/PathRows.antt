-- The rows about path lines and about the consequence profile, by computation from the definitions that the contracts cite. Assumes
-- nothing.
use mathlib.Core.Path.{refl}
use native.Mathlib.Decide.{ℕ_discrete}
use Rattle.meaning.specs.Diagram.{diagram_from, same?, value_from}
use Rattle.meaning.specs.Operations.{clause}
use Rattle.meaning.specs.Rules.{rup, pr, witnessed}
use Rattle.meaning.specs.Sets.{parity}
use Rattle.meaning.specs.Words.{in_word}
use Rattle.paths.specs.Paths.{path_line, path_count}
use Rattle.table.specs.Nodes.{place, above, diagram_at}
use Rattle.dimacs.specs.Clauses.{clauses_from}
use Rattle.records.specs.Records.{record_at}
use Rattle.commands.specs.Commands.{text_read}
use Rattle.verdict.specs.Check.{verdict}
use Rattle.verdict.specs.Cases.{GivesAll}
use Rattle.verdict.specs.PathRows.{path_table, profile_table}

-- 02's 12/14: the number, the place, the counts and the peak.
pub path-lines : GivesAll path_table
unfolding verdict clauses_from place clause diagram_from same? record_at above rup value_from diagram_at ℕ_discrete in_word parity path_line
    path_count
path-lines = (refl, (refl, (refl, (refl, (refl, (refl, (refl, (refl, (refl, (refl, (refl, (refl, (refl, (refl, tt))))))))))))))

-- 02's 11/14
pub profile-lines : GivesAll profile_table
unfolding verdict clauses_from place clause diagram_from same? record_at above rup pr witnessed value_from diagram_at ℕ_discrete in_word
    path_line
    path_count text_read
profile-lines = (refl, (refl, (refl, (refl, (refl, (refl, (refl, (refl, (refl, (refl, (refl, (refl, (refl, (refl, tt))))))))))))))
