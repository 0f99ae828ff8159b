-- Rows of the check by truth table: what is said of a formula and a proof. (02, 14/14)
use Rattle.std.specs.Prelude.{◌≡◌, true, false, List, [] as []ᴸ, ◌∷◌ as ◌∷ᴸ◌, ℕ}
use Prim.Native.String.{String}
use Rattle.dimacs.specs.Texts.{bytes}
use Rattle.verdict.specs.Cases.{A-formula, D-formula, A-proof, over, rup_line, pr_line, path_record, strike, odd_even, at_least_of, end}
use Rattle.verdict.specs.PathRows.{parities}
use Rattle.small_verdict.specs.Small.{small}
use Rattle.small_verdict.specs.Agrees.{Said, said}

-- A formula, a proof and what is said of them.
pub record SmallRow : Type 0 where
  pub formula : String
  pub proof : List ℕ
  pub says : Said

-- A place in the proof, and one in the formula.
abbrev pub proof_row : String → List ℕ → ℕ → ℕ → ℕ → ℕ → SmallRow
proof_row formula proof number place lines rounds = record {
  formula = formula;
  proof = proof;
  says = record { number = number; in_proof = true; place = place; lines = lines; rounds = rounds };
}

abbrev pub formula_row : String → List ℕ → ℕ → ℕ → SmallRow
formula_row formula proof number place = record {
  formula = formula;
  proof = proof;
  says = record { number = number; in_proof = false; place = place; lines = 0; rounds = 0 };
}

-- The definition gives the row.
abbrev pub SmallGivesAll : List SmallRow → Type 0
SmallGivesAll []ᴸ = Unit {0}
SmallGivesAll (row ∷ᴸ rows) = (said (small (bytes row.formula) row.proof) ≡ row.says) × SmallGivesAll rows

-- Seven variables: with a literal beyond the header as well (4); with none used and no end record (10); with 1,025 clauses, after a
-- comment. An incomplete header is refused first (1). Six variables, and a literal beyond them.
abbrev pub size_table : List SmallRow
size_table =
    formula_row "p cnf 7 1\n8 0\n" end 2 0
    ∷ᴸ formula_row "p cnf 7 0\n" []ᴸ 2 0
    ∷ᴸ formula_row "c\np cnf 7 1025\n" end 2 2
    ∷ᴸ formula_row "p cnf 7" end 1 0
    ∷ᴸ formula_row "p cnf 6 1\n7 0\n" end 4 10
    ∷ᴸ []ᴸ

-- Each kind of record: node entries and RUP lines (case A); path lines; a witness and a PR line, accepted (case E) and refused (case D);
-- a striking; a parity that a path line shows and a RUP line does not; at least two of three by an at-least entry (case I); an odd number
-- of six variables. Two faults at once: a waiting witness (16) before a member that does not exist (28); a byte after the end record (11)
-- before 20. An unknown kind (9).
abbrev pub record_table : List SmallRow
record_table =
    proof_row A-formula A-proof 0 12 2 1
    ∷ᴸ proof_row A-formula (over 2 0 1 (path_record 2 (path_record 0 end))) 0 12 2 1
    ∷ᴸ proof_row D-formula (over 1 0 1 (0x54 ∷ᴸ 1 ∷ᴸ pr_line 2 end)) 20 11 1 0
    ∷ᴸ proof_row D-formula (over 1 0 1 (0x46 ∷ᴸ 1 ∷ᴸ pr_line 2 end)) 18 8 0 0
    ∷ᴸ proof_row A-formula (strike 0 A-proof) 19 9 0 0
    ∷ᴸ proof_row parities (odd_even 11 0 (path_record 2 end)) 20 13 1 0
    ∷ᴸ proof_row parities (odd_even 11 0 (rup_line 2 end)) 19 10 0 0
    ∷ᴸ proof_row "p cnf 3 3\n2 3 0\n1 3 0\n1 2 0\n" (at_least_of 7 2 (rup_line 2 end)) 20 13 1 2
    ∷ᴸ proof_row "p cnf 6 0\n" (odd_even 63 1 (path_record 2 end)) 19 10 0 0
    ∷ᴸ proof_row D-formula (0x54 ∷ᴸ 1 ∷ᴸ strike 9 []ᴸ) 16 2 0 0
    ∷ᴸ proof_row D-formula (0x45 ∷ᴸ end) 11 1 0 0
    ∷ᴸ proof_row D-formula (0x00 ∷ᴸ []ᴸ) 9 0 0 0
    ∷ᴸ []ᴸ
