-- The orders of the numbers, by computation from the definitions that the contracts cite. Assumes nothing.
use mathlib.Core.Path.{refl}
use native.Mathlib.Decide.{ℕ_discrete}
use Rattle.meaning.specs.Diagram.{diagram_from, same?, value_from}
use Rattle.meaning.specs.Operations.{clause}
use Rattle.meaning.specs.Rules.{rup, pr, witnessed}
use Rattle.meaning.specs.Sets.{parity, at_least}
use Rattle.meaning.specs.Words.{in_word}
use Rattle.paths.specs.Paths.{path_line, path_count}
use Rattle.table.specs.Nodes.{place, above, diagram_at}
use Rattle.dimacs.specs.Clauses.{clauses_from}
use Rattle.records.specs.Records.{record_at}
use Rattle.commands.specs.Commands.{text_read, binary_read}
use Rattle.verdict.specs.Check.{verdict}
use Rattle.verdict.specs.Cases.{GivesAll}
use Rattle.exactness.specs.Orders.{formula_order, entry_order, line_order, other_order, text_order, path_order, profile_order}
use Rattle.exactness.specs.Orders.{binary_order}

pub formula-order : GivesAll formula_order
unfolding verdict clauses_from place clause diagram_from same? value_from diagram_at ℕ_discrete
formula-order = (refl, (refl, (refl, (refl, (refl, (refl, tt))))))

pub entry-order : GivesAll entry_order
unfolding verdict clauses_from place clause diagram_from same? record_at above rup pr witnessed value_from diagram_at ℕ_discrete in_word
entry-order = (refl, (refl, (refl, (refl, (refl, tt)))))

pub line-order : GivesAll line_order
unfolding verdict clauses_from place clause diagram_from same? record_at above rup pr witnessed value_from diagram_at ℕ_discrete in_word
line-order = (refl, (refl, (refl, (refl, (refl, (refl, (refl, tt)))))))

pub other-order : GivesAll other_order
unfolding verdict clauses_from place clause diagram_from same? record_at above rup pr witnessed value_from diagram_at ℕ_discrete in_word
    parity
    at_least
other-order = (refl, (refl, (refl, (refl, (refl, (refl, (refl, tt)))))))

pub text-order : GivesAll text_order
unfolding verdict clauses_from text_read place clause diagram_from same? rup pr value_from diagram_at ℕ_discrete
text-order = ((refl, refl), ((refl, refl), ((refl, refl), ((refl, refl), tt))))

pub path-order : GivesAll path_order
unfolding verdict clauses_from place clause diagram_from same? record_at above rup value_from diagram_at ℕ_discrete in_word parity path_line
    path_count
path-order = (refl, (refl, (refl, (refl, (refl, (refl, (refl, (refl, tt))))))))

pub profile-order : GivesAll profile_order
unfolding verdict clauses_from place clause diagram_from same? record_at above rup pr witnessed value_from diagram_at ℕ_discrete in_word
profile-order = (refl, (refl, (refl, (refl, tt))))

pub binary-order : GivesAll binary_order
unfolding verdict clauses_from binary_read place clause diagram_from same? rup pr value_from diagram_at ℕ_discrete
binary-order = (
  (refl, refl),
  (
    (refl, refl),
    (
      (refl, refl),
      ((refl, refl), ((refl, refl), ((refl, refl), ((refl, refl), ((refl, refl), tt))))),
    ),
  ),
)
