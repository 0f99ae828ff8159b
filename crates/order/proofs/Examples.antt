-- The examples, by computation. Assumes nothing.
use mathlib.Core.Path.{◌≡◌, refl, sym, ◌∙◌}
use mathlib.Core.Logic.{inl, inr}
use mathlib.Core.Bool.{true, false}
use mathlib.Core.List.{List, [], ◌∷◌}
use native.Mathlib.Decide.{ℕ_discrete}
use Rattle.meaning.specs.Diagram.{Diagram, leaf, diagram_from, same?, value_from}
use Rattle.meaning.specs.Operations.{clause}
use Rattle.meaning.specs.Rules.{conflicts, has_unit, by_units, unit_prop, rup, pr, witnessed}
use Rattle.meaning.specs.Words.{in_word}
use Rattle.meaning.proofs.Booleans.{t≢f}
use Rattle.table.specs.Nodes.{place, above, diagram_at}
use Rattle.dimacs.specs.Clauses.{clauses_from}
use Rattle.records.specs.Records.{record_at}
use Rattle.verdict.specs.Check.{verdict}
use Rattle.verdict.specs.Cases.{GivesAll}
use Rattle.order.specs.Choices.{Contained, Propagates}
use Rattle.order.specs.Choices as way
use Rattle.order.specs.Examples.{x1, not-x1, all_three, three, three_otherwise, order_table}

pub lowest-first : ((rup 3 three (leaf false)).shown ≡ true) × ((rup 3 three (leaf false)).rounds ≡ 2)
unfolding rup same? ℕ_discrete diagram_from value_from
lowest-first = (refl, refl)

pub other-order : ((rup 3 three_otherwise (leaf false)).shown ≡ true) × ((rup 3 three_otherwise (leaf false)).rounds ≡ 1)
unfolding rup same? ℕ_discrete diagram_from value_from
other-order = (refl, refl)

pub other-choice : ((unit_prop 3 three).rounds ≡ 2) × Propagates 3 three 1 true
unfolding unit_prop conflicts has_unit by_units same? ℕ_discrete diagram_from value_from
other-choice = (refl, way.round all_three refl (inr (inl refl)) refl (way.conflict refl))

alone : (pr 1 (in_word 1) (in_word 0) [] x1).shown ≡ true
unfolding pr
alone = refl

with-member : (pr 1 (in_word 1) (in_word 0) (not-x1 ∷ []) x1).shown ≡ false
unfolding pr in_word same? ℕ_discrete diagram_from value_from
with-member = refl

pub pr-not-kept : ((ms ms' : List Diagram) → Contained ms ms' → (pr 1 (in_word 1) (in_word 0) ms x1).shown ≡ true →
    (pr 1 (in_word 1) (in_word 0) ms' x1).shown ≡ true) → ⊥
pr-not-kept h = t≢f (sym (h [] (not-x1 ∷ []) (λ f i. absurd i) alone) ∙ with-member)

pub rows : GivesAll order_table
unfolding verdict clauses_from place clause diagram_from same? record_at above rup pr witnessed value_from diagram_at ℕ_discrete in_word
rows = (refl, (refl, (refl, (refl, (refl, (refl, tt))))))
