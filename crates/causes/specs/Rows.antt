-- Rows of explanations: each number with its piece, and the causes of 14, 18 and 19, among them those of path lines (02, 12/14), of the
-- consequence profile (02, 11/14) and of binary DRAT (02, 9/14). (02, 8/14)
use Rattle.std.specs.Prelude.{◌≡◌, Bool, true, false, List, [] as []ᴸ, ◌∷◌ as ◌∷ᴸ◌, ℕ}
use Rattle.std.proofs.Math.Option.{none, some}
use Prim.Native.String.{String}
use Rattle.table.specs.Columns.{columns_made}
use Rattle.dimacs.specs.Texts.{bytes, plus, minus}
use Rattle.commands.specs.declared.Form.{Form}
use Rattle.commands.specs.declared.Form.TheVariants.{Records, Text, Binary}
use Rattle.commands.specs.Commands.{in_form, in_records, in_text}
use Rattle.verdict.specs.Check.{zeros}
use Rattle.causes.specs.Parts.{Part}
use Rattle.causes.specs.Causes.{plain, variables, assignment, fixed}
use Rattle.causes.specs.Explanation.{Explanation, explained, explanation}
use Rattle.causes.specs.Answers.{why}

-- What is shown of a formula and a proof with a table of s places; the same of a DRAT text; the same of any form, within the consequence
-- profile or not, with a table of 4,096 places.
pub data Row : Type 0 where
  recorded : (s : ℕ) (formula : String) (proof : List ℕ) (shown : Explanation) → Row
  texted : (s : ℕ) (formula text : String) (shown : Explanation) → Row
  moded : (form : Form) (profile : Bool) (formula : String) (proof : List ℕ) (shown : Explanation) → Row

abbrev pub of_formula : ℕ → ℕ → Part
of_formula start end = record { in_proof = false; start = start; end = end }

abbrev pub of_proof : ℕ → ℕ → Part
of_proof start end = record { in_proof = true; start = start; end = end }

abbrev pub Shows : Row → Type 0
Shows (recorded s formula proof shown) = explanation in_records s (bytes formula) proof ≡ shown
Shows (texted s formula text shown) = explanation in_text s (bytes formula) (bytes text) ≡ shown
Shows (moded form profile formula proof shown) = explanation (in_form form profile) 4096 (bytes formula) proof ≡ shown

abbrev pub ShowsAll : List Row → Type 0
ShowsAll []ᴸ = Unit {0}
ShowsAll (row ∷ᴸ rows) = Shows row × ShowsAll rows

abbrev pub rows : List Row
rows =
    recorded 4096 "p cnf 2" []ᴸ (explained 1 (of_formula 0 7) plain) ∷ᴸ
    recorded 4096 "c a\np cnf 65 1\r\n" []ᴸ (explained 2 (of_formula 4 15) plain) ∷ᴸ
    recorded 4096 "" []ᴸ (explained 1 (of_formula 0 0) plain) ∷ᴸ
    recorded 4096 "p cnf 1 1\n-0 0" []ᴸ (explained 3 (of_formula 10 12) plain) ∷ᴸ
    recorded 4096 "p cnf 2 1\n1 3 0\n" []ᴸ (explained 4 (of_formula 12 13) plain) ∷ᴸ
    recorded 4096 "p cnf 1 2\n1 0\n" []ᴸ (explained 5 (of_formula 14 14) plain) ∷ᴸ
    recorded 4096 "p cnf 1 1\n1 0 1" []ᴸ (explained 5 (of_formula 14 15) plain) ∷ᴸ
    recorded 4096 "p cnf 1 1\nc x\n-1\n" []ᴸ (explained 6 (of_formula 14 16) plain) ∷ᴸ
    recorded 2 "p cnf 1 1\n1 0" []ᴸ (explained 8 (of_formula 10 11) plain) ∷ᴸ
    recorded 4096 "p cnf 2 1\n1 2 0\n" (0x00 ∷ᴸ []ᴸ) (explained 9 (of_proof 0 1) plain) ∷ᴸ
    recorded 4096 "p cnf 2 1\n1 2 0\n" []ᴸ (explained 10 (of_proof 0 0) plain) ∷ᴸ
    recorded 4096 "p cnf 2 1\n1 2 0\n" (0x4E ∷ᴸ 0x01 ∷ᴸ []ᴸ) (explained 10 (of_proof 0 2) plain) ∷ᴸ
    recorded 4096 "p cnf 2 1\n1 2 0\n" (0x45 ∷ᴸ 0x45 ∷ᴸ []ᴸ) (explained 11 (of_proof 1 2) plain) ∷ᴸ
    recorded 4096 "p cnf 2 1\n1 2 0\n" (0x54 ∷ᴸ 0x00 ∷ᴸ []ᴸ) (explained 12 (of_proof 0 2) plain) ∷ᴸ
    recorded 4096 "p cnf 2 1\n1 2 0\n" (0x52 ∷ᴸ 0x02 ∷ᴸ 0x00 ∷ᴸ []ᴸ) (explained 13 (of_proof 0 3) plain) ∷ᴸ
    recorded 4096 "p cnf 2 1\n1 2 0\n" (0x4E ∷ᴸ 0x02 ∷ᴸ 0x00 ∷ᴸ 0x00 ∷ᴸ 0x01 ∷ᴸ 0x00 ∷ᴸ 0x4E ∷ᴸ 0x02 ∷ᴸ 0x02 ∷ᴸ 0x00 ∷ᴸ 0x00 ∷ᴸ 0x00 ∷ᴸ []ᴸ)
    (explained 14 (of_proof 6 12) (variables 2 2)) ∷ᴸ
    recorded 4096 "p cnf 2 1\n1 2 0\n" (0x4E ∷ᴸ 0x02 ∷ᴸ 0x00 ∷ᴸ 0x00 ∷ᴸ 0x01 ∷ᴸ 0x00 ∷ᴸ 0x4E ∷ᴸ 0x01 ∷ᴸ 0x00 ∷ᴸ 0x00 ∷ᴸ 0x01 ∷ᴸ 0x00 ∷ᴸ 0x4E
    ∷ᴸ 0x02 ∷ᴸ 0x02 ∷ᴸ 0x00 ∷ᴸ 0x03 ∷ᴸ 0x00 ∷ᴸ []ᴸ) (explained 14 (of_proof 12 18) (variables 2 2)) ∷ᴸ
    recorded 4096 "p cnf 2 1\n1 2 0\n" (0x4E ∷ᴸ 0x01 ∷ᴸ 0x00 ∷ᴸ 0x00 ∷ᴸ 0x01 ∷ᴸ 0x00 ∷ᴸ 0x4E ∷ᴸ 0x01 ∷ᴸ 0x01 ∷ᴸ 0x00 ∷ᴸ 0x02 ∷ᴸ 0x00 ∷ᴸ 0x45
    ∷ᴸ []ᴸ) (explained 14 (of_proof 6 12) (variables 1 1)) ∷ᴸ
    recorded 4096 "p cnf 2 1\n1 2 0\n" (0x54 ∷ᴸ 0x01 ∷ᴸ 0x46 ∷ᴸ 0x01 ∷ᴸ []ᴸ) (explained 15 (of_proof 2 4) plain) ∷ᴸ
    recorded 4096 "p cnf 2 1\n1 2 0\n" (0x54 ∷ᴸ 0x01 ∷ᴸ 0x45 ∷ᴸ []ᴸ) (explained 16 (of_proof 2 3) plain) ∷ᴸ
    recorded 4096 "p cnf 2 1\n1 2 0\n" (0x52 ∷ᴸ 0x01 ∷ᴸ 0x00 ∷ᴸ []ᴸ) (explained 17 (of_proof 0 3) plain) ∷ᴸ
    recorded 4096 "p cnf 2 1\n1 2 0\n" (0x4E ∷ᴸ 0x01 ∷ᴸ 0x00 ∷ᴸ 0x00 ∷ᴸ 0x01 ∷ᴸ 0x00 ∷ᴸ 0x46 ∷ᴸ 0x01 ∷ᴸ 0x50 ∷ᴸ 0x02 ∷ᴸ 0x00 ∷ᴸ 0x45 ∷ᴸ []ᴸ)
    (explained 18 (of_proof 8 11) (assignment (false ∷ᴸ false ∷ᴸ []ᴸ))) ∷ᴸ
    recorded 4096 "p cnf 3 1\n1 2 0\n" (0x4E ∷ᴸ 0x02 ∷ᴸ 0x00 ∷ᴸ 0x00 ∷ᴸ 0x01 ∷ᴸ 0x00 ∷ᴸ 0x4E ∷ᴸ 0x01 ∷ᴸ 0x02 ∷ᴸ 0x00 ∷ᴸ 0x01 ∷ᴸ 0x00 ∷ᴸ 0x46
    ∷ᴸ 0x03 ∷ᴸ 0x50 ∷ᴸ 0x03 ∷ᴸ 0x00 ∷ᴸ []ᴸ) (explained 18 (of_proof 14 17) (assignment (false ∷ᴸ false ∷ᴸ false ∷ᴸ []ᴸ))) ∷ᴸ
    recorded 4096 "p cnf 2 1\n1 2 0\n" (0x54 ∷ᴸ 0x02 ∷ᴸ 0x50 ∷ᴸ 0x00 ∷ᴸ 0x00 ∷ᴸ []ᴸ)
    (explained 18 (of_proof 2 5) (assignment (false ∷ᴸ true ∷ᴸ []ᴸ))) ∷ᴸ
    recorded 4096 "p cnf 3 0\n" (0x4E ∷ᴸ 0x03 ∷ᴸ 0x00 ∷ᴸ 0x00 ∷ᴸ 0x01 ∷ᴸ 0x00 ∷ᴸ 0x4E ∷ᴸ 0x02 ∷ᴸ 0x02 ∷ᴸ 0x00 ∷ᴸ 0x01 ∷ᴸ 0x00 ∷ᴸ 0x4E ∷ᴸ
    0x01 ∷ᴸ 0x01 ∷ᴸ 0x00 ∷ᴸ 0x03 ∷ᴸ 0x00 ∷ᴸ 0x54 ∷ᴸ 0x01 ∷ᴸ 0x50 ∷ᴸ 0x04 ∷ᴸ 0x00 ∷ᴸ []ᴸ)
    (explained 18 (of_proof 20 23) (assignment (true ∷ᴸ false ∷ᴸ false ∷ᴸ []ᴸ))) ∷ᴸ
    recorded 4096 "p cnf 2 4\n1 2 0\n-1 2 0\n1 -2 0\n-1 -2 0\n" (0x52 ∷ᴸ 0x00 ∷ᴸ 0x00 ∷ᴸ 0x45 ∷ᴸ []ᴸ)
    (explained 19 (of_proof 0 3) (fixed ([]ᴸ) none)) ∷ᴸ
    recorded 4096 "p cnf 3 3\n1 2 0\n-2 3 0\n-1 0\n" (0x4E ∷ᴸ 0x03 ∷ᴸ 0x01 ∷ᴸ 0x00 ∷ᴸ 0x00 ∷ᴸ 0x00 ∷ᴸ 0x52 ∷ᴸ 0x02 ∷ᴸ 0x00 ∷ᴸ []ᴸ)
    (explained 19 (of_proof 6 9) (fixed ((minus 1 ∷ᴸ []ᴸ) ∷ᴸ (plus 2 ∷ᴸ []ᴸ) ∷ᴸ []ᴸ) none)) ∷ᴸ
    recorded 4096 "p cnf 2 1\n-1 2 0\n" (0x4E ∷ᴸ 0x01 ∷ᴸ 0x00 ∷ᴸ 0x00 ∷ᴸ 0x01 ∷ᴸ 0x00 ∷ᴸ 0x54 ∷ᴸ 0x01 ∷ᴸ 0x50 ∷ᴸ 0x02 ∷ᴸ 0x00 ∷ᴸ []ᴸ)
    (explained 19 (of_proof 8 11) (fixed ([]ᴸ) (some 0))) ∷ᴸ
    recorded 4096 "p cnf 3 3\n1 3 0\n-1 2 0\n-1 -3 0\n"
    (0x44 ∷ᴸ 0x01 ∷ᴸ 0x00 ∷ᴸ 0x4E ∷ᴸ 0x01 ∷ᴸ 0x00 ∷ᴸ 0x00 ∷ᴸ 0x01 ∷ᴸ 0x00 ∷ᴸ 0x54 ∷ᴸ 0x01 ∷ᴸ 0x50 ∷ᴸ 0x02 ∷ᴸ 0x00 ∷ᴸ []ᴸ)
    (explained 19 (of_proof 11 14) (fixed ([]ᴸ) (some 2))) ∷ᴸ
    recorded 4096 "p cnf 2 4\n1 2 0\n-1 2 0\n1 -2 0\n-1 -2 0\n" (0x45 ∷ᴸ []ᴸ) (explained 20 (of_proof 0 1) plain) ∷ᴸ
    recorded 3 "p cnf 2 1\n1 0\n" (0x4E ∷ᴸ 0x02 ∷ᴸ 0x00 ∷ᴸ 0x00 ∷ᴸ 0x01 ∷ᴸ 0x00 ∷ᴸ []ᴸ) (explained 23 (of_proof 0 6) plain) ∷ᴸ
    recorded 4096 "p cnf 2 1\n1 2 0\n" (0x44 ∷ᴸ 0x01 ∷ᴸ 0x00 ∷ᴸ []ᴸ) (explained 28 (of_proof 0 3) plain) ∷ᴸ
    recorded 4096 "p cnf 2 4\n1 2 0\n-1 2 0\n1 -2 0\n-1 -2 0\n"
    (0x4E ∷ᴸ 0x02 ∷ᴸ 0x00 ∷ᴸ 0x00 ∷ᴸ 0x01 ∷ᴸ 0x00 ∷ᴸ 0x52 ∷ᴸ 0x02 ∷ᴸ 0x00 ∷ᴸ 0x52 ∷ᴸ 0x00 ∷ᴸ 0x00 ∷ᴸ 0x45 ∷ᴸ []ᴸ)
    (explained 30 (of_formula 0 0) plain) ∷ᴸ
    texted 4096 "p cnf 2 1\n1 2 0\n" "1 x 0\n" (explained 3 (of_proof 2 3) plain) ∷ᴸ
    texted 4096 "p cnf 2 1\n1 2 0\n" "3 0\n" (explained 4 (of_proof 0 1) plain) ∷ᴸ
    texted 4096 "p cnf 2 1\n1 2 0\n" "d 1\nc x\n 2" (explained 6 (of_proof 0 10) plain) ∷ᴸ
    texted 4096 "p cnf 2 1\n1 2 0\n" "1 -1 0 0" (explained 17 (of_proof 0 6) plain) ∷ᴸ
    texted 4096 "p cnf 2 4\n1 2 0\n-1 2 0\n1 -2 0\n-1 -2 0\n" "c a\n0\n" (explained 19 (of_proof 4 5) (fixed ([]ᴸ) none)) ∷ᴸ
    texted 4096 "p cnf 2 1\n-1 2 0\n" "1 0 " (explained 19 (of_proof 0 3) (fixed ([]ᴸ) (some 0))) ∷ᴸ
    texted 4096 "p cnf 3 3\n1 2 0\n-2 3 0\n-3 1 0\n" "-3\nc b\n0 0" (explained 19 (of_proof 0 8) (fixed ((plus 1 ∷ᴸ []ᴸ) ∷ᴸ []ᴸ) (some 1)))
    ∷ᴸ
    texted 4096 "p cnf 2 1\n1 2 0\n" "d\nc a\n1 0 2 0" (explained 28 (of_proof 0 9) plain) ∷ᴸ
    texted 4 "p cnf 2 1\n1 2 0\n" "1 0" (explained 23 (of_proof 0 3) plain) ∷ᴸ
    texted 4096 "p cnf 2 1\n1 2 0\n" "" (explained 20 (of_proof 0 0) plain) ∷ᴸ
    texted 4096 "p cnf 2 4\n1 2 0\n-1 2 0\n1 -2 0\n-1 -2 0\n" "2 0 0\n" (explained 30 (of_formula 0 0) plain) ∷ᴸ []ᴸ

-- Path lines, the consequence profile and binary DRAT.
abbrev pub later_rows : List Row
later_rows =
    moded Records false "p cnf 3 2\n1 2 0\n-2 3 0\n" (0x4E ∷ᴸ 0x01 ∷ᴸ 0x00 ∷ᴸ 0x00 ∷ᴸ 0x01 ∷ᴸ 0x00 ∷ᴸ 0x51 ∷ᴸ 0x02 ∷ᴸ 0x00 ∷ᴸ []ᴸ)
    (explained 19 (of_proof 6 9) (fixed ((plus 2 ∷ᴸ []ᴸ) ∷ᴸ (plus 3 ∷ᴸ []ᴸ) ∷ᴸ []ᴸ) none)) ∷ᴸ
    moded Records false "p cnf 3 2\n1 2 0\n-2 3 0\n" (0x51 ∷ᴸ 0x00 ∷ᴸ 0x00 ∷ᴸ []ᴸ) (explained 19 (of_proof 0 3) (fixed []ᴸ none)) ∷ᴸ
    moded Records false "p cnf 3 2\n1 2 0\n-1 3 0\n"
    (0x4E ∷ᴸ 0x03 ∷ᴸ 0x00 ∷ᴸ 0x00 ∷ᴸ 0x01 ∷ᴸ 0x00 ∷ᴸ 0x4E ∷ᴸ 0x02 ∷ᴸ 0x00 ∷ᴸ 0x00 ∷ᴸ 0x01 ∷ᴸ 0x00 ∷ᴸ 0x4E ∷ᴸ 0x01 ∷ᴸ 0x02 ∷ᴸ 0x00 ∷ᴸ
    0x03 ∷ᴸ 0x00 ∷ᴸ 0x51 ∷ᴸ 0x04 ∷ᴸ 0x00 ∷ᴸ []ᴸ) (explained 19 (of_proof 18 21) (fixed ((plus 2 ∷ᴸ []ᴸ) ∷ᴸ []ᴸ) none)) ∷ᴸ
    moded Records true "p cnf 3 2\n1 2 0\n-2 3 0\n" (0x4E ∷ᴸ 0x01 ∷ᴸ 0x00 ∷ᴸ 0x00 ∷ᴸ 0x01 ∷ᴸ 0x00 ∷ᴸ 0x51 ∷ᴸ 0x02 ∷ᴸ 0x00 ∷ᴸ []ᴸ)
    (explained 19 (of_proof 6 9) (fixed ((plus 2 ∷ᴸ []ᴸ) ∷ᴸ (plus 3 ∷ᴸ []ᴸ) ∷ᴸ []ᴸ) none)) ∷ᴸ
    moded Records true "p cnf 2 2\n1 2 0\n-1 -2 0\n"
    (0x4E ∷ᴸ 0x01 ∷ᴸ 0x00 ∷ᴸ 0x00 ∷ᴸ 0x01 ∷ᴸ 0x00 ∷ᴸ 0x54 ∷ᴸ 0x01 ∷ᴸ 0x50 ∷ᴸ 0x02 ∷ᴸ 0x00 ∷ᴸ []ᴸ) (explained 33 (of_proof 8 11) plain) ∷ᴸ
    moded Text true "p cnf 3 2\n1 2 0\n-2 3 0\n" (bytes "1 0\n")
    (explained 19 (of_proof 0 3) (fixed ((plus 2 ∷ᴸ []ᴸ) ∷ᴸ (plus 3 ∷ᴸ []ᴸ) ∷ᴸ []ᴸ) none)) ∷ᴸ
    moded Text true "p cnf 3 2\n1 2 0\n-2 3 0\n" (bytes "3 1 0\n-1 0\n") (explained 19 (of_proof 6 10) (fixed []ᴸ none)) ∷ᴸ
    moded Text true "p cnf 2 2\n1 2 0\n-1 -2 0\n" (bytes "0\n") (explained 19 (of_proof 0 1) (fixed []ᴸ none)) ∷ᴸ
    moded Binary true "p cnf 3 2\n1 2 0\n-2 3 0\n" (0x61 ∷ᴸ 0x02 ∷ᴸ 0x00 ∷ᴸ []ᴸ)
    (explained 19 (of_proof 0 3) (fixed ((plus 2 ∷ᴸ []ᴸ) ∷ᴸ (plus 3 ∷ᴸ []ᴸ) ∷ᴸ []ᴸ) none)) ∷ᴸ
    moded Binary false "p cnf 2 2\n1 2 0\n-1 -2 0\n" (0x61 ∷ᴸ 0x02 ∷ᴸ 0x80 ∷ᴸ []ᴸ) (explained 6 (of_proof 0 3) plain) ∷ᴸ
    moded Binary false "p cnf 2 2\n1 2 0\n-1 -2 0\n" (0x61 ∷ᴸ 0x02 ∷ᴸ 0x06 ∷ᴸ 0x00 ∷ᴸ []ᴸ) (explained 4 (of_proof 2 3) plain) ∷ᴸ
    moded Binary false "p cnf 2 2\n1 2 0\n-1 -2 0\n" (0x61 ∷ᴸ 0x82 ∷ᴸ 0x80 ∷ᴸ 0x80 ∷ᴸ 0x00 ∷ᴸ 0x00 ∷ᴸ []ᴸ)
    (explained 31 (of_proof 1 5) plain) ∷ᴸ
    moded Binary false "p cnf 2 2\n1 2 0\n-1 -2 0\n" (0x62 ∷ᴸ 0x02 ∷ᴸ 0x00 ∷ᴸ []ᴸ) (explained 9 (of_proof 0 1) plain) ∷ᴸ
    moded Binary false "p cnf 2 2\n1 2 0\n-1 -2 0\n" (0x61 ∷ᴸ 0x02 ∷ᴸ 0x03 ∷ᴸ 0x00 ∷ᴸ []ᴸ) (explained 17 (of_proof 0 4) plain) ∷ᴸ
    moded Binary false "p cnf 2 2\n1 2 0\n-1 -2 0\n" (0x64 ∷ᴸ 0x02 ∷ᴸ 0x00 ∷ᴸ []ᴸ) (explained 28 (of_proof 0 3) plain) ∷ᴸ
    moded Binary false "p cnf 2 2\n1 2 0\n-1 -2 0\n" (0x61 ∷ᴸ 0x02 ∷ᴸ 0x00 ∷ᴸ []ᴸ) (explained 19 (of_proof 0 3) (fixed []ᴸ (some 1))) ∷ᴸ
    moded Binary false "p cnf 2 2\n1 2 0\n-1 -2 0\n" []ᴸ (explained 20 (of_proof 0 0) plain) ∷ᴸ []ᴸ

-- The call's number where the proof refutes the formula, with so many words lent for the literals and so many members.
abbrev pub number_with : ℕ → ℕ → ℕ
number_with words members =
    (why in_records (columns_made (zeros 16) (zeros 16) (zeros 16) (zeros 32) (zeros 16)) 2 (zeros members) (zeros members) (zeros 4096)
    (zeros words) (bytes "p cnf 2 4\n1 2 0\n-1 2 0\n1 -2 0\n-1 -2 0\n")
    (0x4E ∷ᴸ 0x02 ∷ᴸ 0x00 ∷ᴸ 0x00 ∷ᴸ 0x01 ∷ᴸ 0x00 ∷ᴸ 0x52 ∷ᴸ 0x02 ∷ᴸ 0x00 ∷ᴸ 0x52 ∷ᴸ 0x00 ∷ᴸ 0x00 ∷ᴸ 0x45 ∷ᴸ []ᴸ)).number
