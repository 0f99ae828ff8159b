-- 02's binary proofs by computation from the definitions that the contracts cite: the rows that the checker written apart gives. Assumes
-- nothing.
use mathlib.Core.Path.{refl}
use native.Mathlib.Decide.{ℕ_discrete}
use Rattle.meaning.specs.Diagram.{diagram_from, same?, value_from}
use Rattle.meaning.specs.Operations.{clause}
use Rattle.meaning.specs.Rules.{rup, pr}
use Rattle.table.specs.Nodes.{place, diagram_at}
use Rattle.dimacs.specs.Clauses.{clauses_from}
use Rattle.commands.specs.Commands.{binary_read}
use Rattle.verdict.specs.Check.{verdict}
use Rattle.verdict.specs.Cases.{GivesAll}
use Rattle.verdict.specs.BinaryRows.{binary_table}

pub binaries : GivesAll binary_table
unfolding verdict clauses_from binary_read place clause diagram_from same? rup pr value_from diagram_at ℕ_discrete
binaries = ((refl, refl), ((refl, refl), ((refl, refl), ((refl, refl), ((refl, refl), ((refl, refl), ((refl, refl), ((refl, refl), ((refl, refl), ((refl, refl), ((refl, refl), ((refl, refl), ((refl, refl), ((refl, refl), ((refl, refl), ((refl, refl), ((refl, refl), ((refl, refl), ((refl, refl), ((refl, refl), ((refl, refl), ((refl, refl), ((refl, refl), ((refl, refl), ((refl, refl), ((refl, refl), ((refl, refl), ((refl, refl), ((refl, refl), ((refl, refl), ((refl, refl), ((refl, refl), ((refl, refl), ((refl, refl), ((refl, refl), ((refl, refl), tt))))))))))))))))))))))))))))))))))))
