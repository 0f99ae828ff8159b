-- 01's cases A to J, the examples of its table of numbers, and 02's strikings and sets, by computation from the definitions that the
-- contracts cite. Assumes nothing.
use mathlib.Core.Path.{◌≡◌, refl}
use mathlib.Core.Bool.{true}
use mathlib.Core.List.{[], ◌∷◌}
use native.Mathlib.Decide.{ℕ_discrete}
use Prim.Native.Nat.{ℕ}
use lib.ListN.{replicate}
use Rattle.meaning.specs.Diagram.{diagram_from, same?, value_from}
use Rattle.meaning.specs.Operations.{clause, conjunction, cofactor}
use Rattle.meaning.specs.Rules.{rup, pr, witnessed}
use Rattle.meaning.specs.Sets.{parity, at_least}
use Rattle.meaning.specs.Words.{in_word}
use Rattle.table.specs.Nodes.{place, above, diagram_at}
use Rattle.table.specs.Index.{bucket, good_order}
use Rattle.table.specs.Columns.{rows, size_fits, Columns, columns_made, stored_as}
use Rattle.dimacs.specs.Clauses.{clauses_from}
use Rattle.records.specs.Records.{record_at}
use Rattle.commands.specs.Commands.{in_records}
use Rattle.verdict.specs.Check.{verdict, CheckOutcome, outcome, check}
use Rattle.dimacs.specs.Texts.{bytes}
use Rattle.meaning.specs.Rules.{units_to}
use Rattle.verdict.specs.Cases.{GivesAll, case_table, number_table, waiting_table, strike_table, set_table, over, A-formula}
use Rattle.verdict.specs.Cases.{A-proof}

-- "A to J form one table, and one theorem says that the rules give each row." (01, Conditions of acceptance)
pub cases : GivesAll case_table
unfolding verdict clauses_from place clause diagram_from same? record_at above rup value_from diagram_at ℕ_discrete conjunction cofactor
    units_to
    pr witnessed in_word
cases = (refl, (refl, (refl, (refl, (refl, (refl, (refl, (refl, (refl, (refl, (refl, tt)))))))))))

pub numbers : GivesAll number_table
unfolding verdict clauses_from place clause diagram_from same? record_at above rup pr witnessed value_from diagram_at ℕ_discrete in_word
numbers = (refl, (refl, (refl, (refl, (refl, (refl, (refl, (refl, (refl, (refl, (refl, (refl, (refl, (refl, (refl, (refl, (refl, (refl, (refl, tt)))))))))))))))))))

-- A witness of false variables waits as one of true variables does.
pub witnesses-wait : GivesAll waiting_table
unfolding verdict clauses_from place clause diagram_from same? record_at above rup value_from diagram_at ℕ_discrete in_word
witnesses-wait = (refl, (refl, (refl, (refl, tt))))

-- 02's 3/14: the number, the place, the counts, and the marks that are left.
pub strikings : GivesAll strike_table
unfolding verdict clauses_from place clause diagram_from same? record_at above rup pr witnessed value_from diagram_at ℕ_discrete in_word
strikings = ((refl, refl), ((refl, refl), ((refl, refl), ((refl, refl), ((refl, refl), ((refl, refl), ((refl, refl), ((refl, refl), ((refl, refl), ((refl, refl), ((refl, refl), tt)))))))))))

-- 02's 5/14: the number, the place, the counts and the peak.
pub set-entries : GivesAll set_table
unfolding verdict clauses_from place clause diagram_from same? record_at above rup pr witnessed value_from diagram_at ℕ_discrete in_word
    parity
    at_least
set-entries = (refl, (refl, (refl, (refl, (refl, (refl, (refl, (refl, (refl, (refl, (refl, (refl, (refl, (refl, (refl, (refl, (refl, (refl, tt))))))))))))))))))

-- "7: a lent part of wrong size: table of 1 place"; "It refuses an index of the wrong size with 7": one head too few, one link too many
-- (02, 7/14)
abbrev sized : Columns → ℕ
sized c = (check in_records c 2 (replicate 2048 0) (replicate 2048 0) (replicate 4096 0) (bytes A-formula) A-proof).number

pub seven : (sized (columns_made (0 ∷ []) (0 ∷ []) (0 ∷ []) (0 ∷ 0 ∷ []) (0 ∷ [])) ≡ 7)
    × (sized (columns_made (0 ∷ 0 ∷ []) (0 ∷ 0 ∷ []) (0 ∷ 0 ∷ []) (0 ∷ 0 ∷ 0 ∷ []) (0 ∷ 0 ∷ [])) ≡ 7)
    × (sized (columns_made (0 ∷ 0 ∷ []) (0 ∷ 0 ∷ []) (0 ∷ 0 ∷ []) (0 ∷ 0 ∷ 0 ∷ 0 ∷ []) (0 ∷ 0 ∷ 0 ∷ [])) ≡ 7)
unfolding check size_fits
seven = (refl, refl, refl)

-- What case A leaves in a table of 16 places.
abbrev left-A : CheckOutcome
left-A = outcome 16 2048 4096 (verdict in_records 16 (bytes A-formula) A-proof)

-- "nodes of entries after the last accepted line are dropped"; "the greatest count reached, dropped nodes included" (02, 2/14): the count
-- and the peak that case A leaves in a table of 16 places, and a proof that ends after one entry.
abbrev left_open : CheckOutcome
left_open = outcome 16 2048 4096 (verdict in_records 16 (bytes A-formula) (over 1 0 1 []))

pub counts-left : (left-A.count ≡ 8) × (left-A.peak ≡ 10) × (left_open.count ≡ 8) × (left_open.peak ≡ 9)
unfolding verdict clauses_from place clause diagram_from same? record_at above rup value_from diagram_at ℕ_discrete outcome
counts-left = (refl, refl, refl, refl)

-- "each call leaves them so": what case A leaves in a table of 16 places is in good order, its index too. (02, 7/14)
pub index-left : (left-A.count ≡ 8)
    × (good_order (rows left-A.columns.vars left-A.columns.lows left-A.columns.highs) left-A.count left-A.columns.heads
    left-A.columns.links ≡ true)
unfolding verdict clauses_from place clause diagram_from same? record_at above rup value_from diagram_at ℕ_discrete conjunction cofactor
    units_to
    pr witnessed in_word
    outcome stored_as rows good_order bucket
index-left = (refl, refl)
