-- The rows of the check by truth table, by computation from the definition that the call's contract cites. Assumes nothing.
use mathlib.Core.Path.{refl}
use native.Mathlib.Decide.{ℕ_discrete}
use Rattle.meaning.specs.Diagram.{diagram_from, same?, value_from}
use Rattle.meaning.specs.Operations.{clause}
use Rattle.meaning.specs.Rules.{rup, pr, witnessed}
use Rattle.meaning.specs.Sets.{parity, at_least}
use Rattle.meaning.specs.Words.{in_word}
use Rattle.paths.specs.Paths.{path_line, path_count}
use Rattle.table.specs.Nodes.{place, above, diagram_at}
use Rattle.dimacs.specs.Clauses.{clauses_from}
use Rattle.records.specs.Records.{record_at}
use Rattle.small_verdict.specs.Small.{small}
use Rattle.small_verdict.specs.Rows.{SmallGivesAll, size_table, record_table}

-- "refuses more than six variables with 2"
pub sizes : SmallGivesAll size_table
unfolding small clauses_from
sizes = (refl, (refl, (refl, (refl, (refl, tt)))))

-- "reads records as before"
pub records : SmallGivesAll record_table
unfolding small clauses_from place clause diagram_from same? record_at above rup pr witnessed value_from diagram_at ℕ_discrete in_word
    parity
    at_least path_line path_count
records = (refl, (refl, (refl, (refl, (refl, (refl, (refl, (refl, (refl, (refl, (refl, (refl, tt))))))))))))
