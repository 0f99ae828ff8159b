-- 02's explanations by computation from the definitions: the rows that the checker written apart gives. Assumes nothing.
use mathlib.Core.Path.{◌≡◌, refl}
use native.Mathlib.Decide.{ℕ_discrete}
use Rattle.meaning.specs.Diagram.{diagram_from, same?, value_from}
use Rattle.meaning.specs.Operations.{clause}
use Rattle.meaning.specs.Rules.{rup, pr, witnessed}
use Rattle.paths.specs.Paths.{path_line}
use Rattle.meaning.specs.Words.{in_word}
use Rattle.table.specs.Nodes.{place, diagram_at, above}
use Rattle.dimacs.specs.Clauses.{clauses_from}
use Rattle.records.specs.Records.{record_at}
use Rattle.commands.specs.Commands.{text_read, binary_read}
use Rattle.causes.specs.Explanation.{explanation}
use Rattle.table.specs.Columns.{size_fits}
use Rattle.verdict.specs.Check.{lent_fits}
use Rattle.causes.specs.Answers.{why}
use Rattle.causes.specs.Rows.{ShowsAll, rows, later_rows, number_with}

pub shown : ShowsAll rows
unfolding explanation clauses_from text_read record_at above in_word place clause diagram_from same? rup pr witnessed value_from diagram_at
    ℕ_discrete
shown = (refl, (refl, (refl, (refl, (refl, (refl, (refl, (refl, (refl, (refl, (refl, (refl, (refl, (refl, (refl, (refl, (refl, (refl, (refl, (refl, (refl, (refl, (refl, (refl, (refl, (refl, (refl, (refl, (refl, (refl, (refl, (refl, (refl, (refl, (refl, (refl, (refl, (refl, (refl, (refl, (refl, (refl, (refl, (refl, tt))))))))))))))))))))))))))))))))))))))))))))

pub shown-later : ShowsAll later_rows
unfolding explanation clauses_from text_read binary_read record_at above in_word place clause diagram_from same? rup pr path_line witnessed
    value_from diagram_at ℕ_discrete
shown-later = (refl, (refl, (refl, (refl, (refl, (refl, (refl, (refl, (refl, (refl, (refl, (refl, (refl, (refl, (refl, (refl, (refl, tt)))))))))))))))))

-- 7 before 30: a word or a member too few
pub seven-first : (number_with 127 2048 ≡ 7) × (number_with 128 2047 ≡ 7) × (number_with 128 2048 ≡ 30)
unfolding why lent_fits size_fits explanation clauses_from record_at above in_word place clause diagram_from same? rup value_from diagram_at
    ℕ_discrete
seven-first = (refl, refl, refl)
