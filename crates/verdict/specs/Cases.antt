-- 01's cases A to J as one table, and the examples of its table of numbers as another. (01, The program and its line; What the call says
-- and leaves) No call open to others cites this file.
use Rattle.std.specs.Prelude.{◌≡◌, true, false, List, [] as []ᴸ, ◌∷◌ as ◌∷ᴸ◌, ℕ}
use Prim.Native.String.{String}
use Rattle.meaning.specs.Diagram.{Diagram, leaf, node}
use Rattle.meaning.specs.Operations.{Literal, clause, conjunction, cofactor}
use Rattle.meaning.specs.Rules.{units_to}
use Rattle.commands.specs.declared.Form.{Form}
use Rattle.commands.specs.Commands.{in_form, in_records, in_text, in_binary}
use Rattle.verdict.specs.Check.{Verdict, verdict}
use Rattle.dimacs.specs.Texts.{bytes, plus}

-- ---- rows

-- The numbers of the program's line: "number, place, accepted lines, rounds" (01), and "it as a fifth field" (02, 2/14): the peak.
pub record Printed : Type 0 where
  pub number : ℕ
  pub place : ℕ
  pub lines : ℕ
  pub rounds : ℕ
  pub peak : ℕ

abbrev pub prints : ℕ → ℕ → ℕ → ℕ → ℕ → Printed
prints number place lines rounds peak = record { number = number; place = place; lines = lines; rounds = rounds; peak = peak }

-- A row: what is printed of a formula and a proof with a table of s places, and the marks that the members have then; the same of a DRAT
-- text and of a binary proof; what is printed of a proof of a form in the consequence profile; what f cofactored by g is; what U(f) is.
pub data Row : Type 0 where
  checked : (s : ℕ) (formula : String) (proof : List ℕ) (line : Printed) → Row
  marked : (s : ℕ) (formula : String) (proof : List ℕ) (line : Printed) (marks : List ℕ) → Row
  texted : (s : ℕ) (formula text : String) (line : Printed) (marks : List ℕ) → Row
  coded : (s : ℕ) (formula : String) (proof : List ℕ) (line : Printed) (marks : List ℕ) → Row
  profiled : (s : ℕ) (form : Form) (formula : String) (proof : List ℕ) (line : Printed) → Row
  cofactored : (n : ℕ) (f g result : Diagram) → Row
  units : (n : ℕ) (f : Diagram) (result : List Literal) → Row

abbrev pub printed : Verdict → Printed
printed v = prints v.number v.place v.lines v.rounds v.peak

-- The rules give the row.
abbrev pub Gives : Row → Type 0
Gives (checked s formula proof line) = printed (verdict in_records s (bytes formula) proof) ≡ line
Gives (marked s formula proof line marks) =
    (printed (verdict in_records s (bytes formula) proof) ≡ line) × ((verdict in_records s (bytes formula) proof).struck ≡ marks)
Gives (texted s formula text line marks) =
    let v = verdict in_text s (bytes formula) (bytes text) in (printed v ≡ line) × (v.struck ≡ marks)
Gives (coded s formula proof line marks) = let v = verdict in_binary s (bytes formula) proof in (printed v ≡ line) × (v.struck ≡ marks)
Gives (profiled s form formula proof line) = printed (verdict (in_form form true) s (bytes formula) proof) ≡ line
Gives (cofactored n f g result) = cofactor n f g ≡ result
Gives (units n f result) = units_to n n f ≡ result

abbrev pub GivesAll : List Row → Type 0
GivesAll []ᴸ = Unit {0}
GivesAll (row ∷ᴸ rows) = Gives row × GivesAll rows

-- ---- diagrams and proofs of the rows

abbrev pub variable : ℕ → Diagram
variable v = node v (leaf false) (leaf true)

abbrev pub negated : ℕ → Diagram
negated v = node v (leaf true) (leaf false)

-- x1 xor x2
abbrev pub xor12 : Diagram
xor12 = node 1 (variable 2) (negated 2)

-- x2 and (x1 or x3)
abbrev pub H-diagram : Diagram
H-diagram = conjunction 3 (variable 2) (clause 3 (plus 1 ∷ᴸ plus 3 ∷ᴸ []ᴸ))

abbrev pub A-formula : String
A-formula = "p cnf 2 4\n1 2 0\n-1 2 0\n1 -2 0\n-1 -2 0\n"

abbrev pub D-formula : String
D-formula = "p cnf 2 1\n1 2 0\n"

-- A node record, over entries below 256.
abbrev pub over : ℕ → ℕ → ℕ → List ℕ → List ℕ
over v low high rest = 0x4E ∷ᴸ v ∷ᴸ low ∷ᴸ 0 ∷ᴸ high ∷ᴸ 0 ∷ᴸ rest

abbrev pub rup_line : ℕ → List ℕ → List ℕ
rup_line root rest = 0x52 ∷ᴸ root ∷ᴸ 0 ∷ᴸ rest

abbrev pub pr_line : ℕ → List ℕ → List ℕ
pr_line root rest = 0x50 ∷ᴸ root ∷ᴸ 0 ∷ᴸ rest

abbrev pub path_record : ℕ → List ℕ → List ℕ
path_record root rest = 0x51 ∷ᴸ root ∷ᴸ 0 ∷ᴸ rest

abbrev pub strike : ℕ → List ℕ → List ℕ
strike k rest = 0x44 ∷ᴸ k ∷ᴸ 0 ∷ᴸ rest

-- "Kind `58` has eight bytes of variable set (bit i−1 for variable i) and one byte, 1 for odd and 0 for even": a set of variables 1 to 8.
abbrev pub odd_even : ℕ → ℕ → List ℕ → List ℕ
odd_even set byte rest = 0x58 ∷ᴸ set ∷ᴸ 0 ∷ᴸ 0 ∷ᴸ 0 ∷ᴸ 0 ∷ᴸ 0 ∷ᴸ 0 ∷ᴸ 0 ∷ᴸ byte ∷ᴸ rest

-- "kind `4B` has the set and one byte k"
abbrev pub at_least_of : ℕ → ℕ → List ℕ → List ℕ
at_least_of set k rest = 0x4B ∷ᴸ set ∷ᴸ 0 ∷ᴸ 0 ∷ᴸ 0 ∷ᴸ 0 ∷ᴸ 0 ∷ᴸ 0 ∷ᴸ 0 ∷ᴸ k ∷ᴸ rest

abbrev pub end : List ℕ
end = 0x45 ∷ᴸ []ᴸ

abbrev pub A-proof : List ℕ
A-proof = over 2 0 1 (rup_line 2 (rup_line 0 end))

-- "at least two of 1, 2, 3": entry 2 is x3, entry 3 is x2 and x3, entry 4 is x2 or x3.
abbrev pub I-proof : List ℕ
I-proof = over 3 0 1 (over 2 0 2 (over 2 2 1 (over 1 3 4 (rup_line 5 end))))

-- ---- the tables

-- Cases A to J, with the program's table of 4,096 places. The end after I's accepted line gives 20.
abbrev pub case_table : List Row
case_table =
    checked 4096 A-formula A-proof (prints 0 12 2 1 10)
    ∷ᴸ checked 4096 A-formula (rup_line 0 end) (prints 19 0 0 0 8)
    ∷ᴸ checked 4096 "p cnf 2 2\n1 2 0\n-1 2 0\n" A-proof (prints 19 9 1 0 8)
    ∷ᴸ checked 4096 D-formula (over 1 0 1 (0x46 ∷ᴸ 1 ∷ᴸ pr_line 2 end)) (prints 18 8 0 0 5)
    ∷ᴸ checked 4096 D-formula (over 1 0 1 (0x54 ∷ᴸ 1 ∷ᴸ pr_line 2 end)) (prints 20 11 1 0 6)
    ∷ᴸ checked 4096 D-formula (over 1 0 1 (rup_line 2 end)) (prints 19 6 0 0 6)
    ∷ᴸ cofactored 2 (variable 2) xor12 (negated 1)
    ∷ᴸ cofactored 2 (variable 1) xor12 (variable 1)
    ∷ᴸ units 3 H-diagram (plus 2 ∷ᴸ []ᴸ)
    ∷ᴸ checked 4096 "p cnf 3 3\n2 3 0\n1 3 0\n1 2 0\n" I-proof (prints 20 27 1 2 16)
    ∷ᴸ checked 4096 "p cnf 0 0\n" (rup_line 0 end) (prints 19 0 0 0 2)
    ∷ᴸ []ᴸ

-- Numbers 1 to 6, 8 to 17, 20 and 23 with 01's examples; 0, 18 and 19 are cases A, D and B. The last row is 19 for "a PR line because the
-- line follows under ω while some member does not". (01, Where builders go astray)
abbrev pub number_table : List Row
number_table =
    checked 4096 "p cnf 2" []ᴸ (prints 1 0 0 0 2)
    ∷ᴸ checked 4096 "p cnf 65 1" []ᴸ (prints 2 0 0 0 2)
    ∷ᴸ checked 4096 "p cnf 1 1\n-0 0\n" []ᴸ (prints 3 10 0 0 2)
    ∷ᴸ checked 4096 "p cnf 2 1\n3 0\n" []ᴸ (prints 4 10 0 0 2)
    ∷ᴸ checked 4096 "p cnf 1 2\n1 0\n" []ᴸ (prints 5 14 0 0 3)
    ∷ᴸ checked 4096 "p cnf 1 1\n1\n" []ᴸ (prints 6 10 0 0 2)
    ∷ᴸ checked 2 "p cnf 1 1\n1 0\n" []ᴸ (prints 8 10 0 0 2)
    ∷ᴸ checked 4096 D-formula (0x00 ∷ᴸ []ᴸ) (prints 9 0 0 0 4)
    ∷ᴸ checked 4096 D-formula []ᴸ (prints 10 0 0 0 4)
    ∷ᴸ checked 4096 D-formula (0x45 ∷ᴸ end) (prints 11 1 0 0 4)
    ∷ᴸ checked 4096 D-formula (0x54 ∷ᴸ 0 ∷ᴸ []ᴸ) (prints 12 0 0 0 4)
    ∷ᴸ checked 4096 D-formula (rup_line 2 []ᴸ) (prints 13 0 0 0 4)
    ∷ᴸ checked 4096 D-formula (over 2 0 1 (over 2 0 2 []ᴸ)) (prints 14 6 0 0 4)
    ∷ᴸ checked 4096 D-formula (0x54 ∷ᴸ 1 ∷ᴸ 0x46 ∷ᴸ 1 ∷ᴸ []ᴸ) (prints 15 2 0 0 4)
    ∷ᴸ checked 4096 D-formula (0x54 ∷ᴸ 1 ∷ᴸ end) (prints 16 2 0 0 4)
    ∷ᴸ checked 4096 D-formula (rup_line 1 []ᴸ) (prints 17 0 0 0 4)
    ∷ᴸ checked 4096 D-formula end (prints 20 0 0 0 4)
    ∷ᴸ checked 3 "p cnf 2 1\n1 0\n" (over 2 0 1 []ᴸ) (prints 23 0 0 0 3)
    ∷ᴸ checked 4096 "p cnf 2 1\n-1 2 0\n" (over 1 0 1 (0x54 ∷ᴸ 1 ∷ᴸ pr_line 2 end)) (prints 19 8 0 0 7)
    ∷ᴸ []ᴸ

-- "16: witness left at a RUP line or the end", at a striking (02, 3/14) and at a path line (02, 12/14): of a witness that only makes a
-- variable false too.
abbrev pub waiting_table : List Row
waiting_table =
    checked 4096 D-formula (0x46 ∷ᴸ 1 ∷ᴸ rup_line 0 []ᴸ) (prints 16 2 0 0 4)
    ∷ᴸ checked 4096 D-formula (0x46 ∷ᴸ 1 ∷ᴸ strike 0 []ᴸ) (prints 16 2 0 0 4)
    ∷ᴸ checked 4096 D-formula (0x46 ∷ᴸ 1 ∷ᴸ path_record 0 []ᴸ) (prints 16 2 0 0 4)
    ∷ᴸ checked 4096 D-formula (0x46 ∷ᴸ 1 ∷ᴸ end) (prints 16 2 0 0 4)
    ∷ᴸ []ᴸ

-- The marks of four members, none struck.
abbrev pub none_of4 : List ℕ
none_of4 = 0 ∷ᴸ 0 ∷ᴸ 0 ∷ᴸ 0 ∷ᴸ []ᴸ

-- 02's 3/14: a struck clause no longer helps; a member that is not there, one struck twice, a waiting witness, a record cut short; a line
-- struck after it was accepted, a 0 line too; a striking among a line's entries; a member that blocked a PR line; all members struck.
abbrev pub strike_table : List Row
strike_table =
    marked 4096 A-formula (strike 0 A-proof) (prints 19 9 0 0 9) (1 ∷ᴸ 0 ∷ᴸ 0 ∷ᴸ 0 ∷ᴸ []ᴸ)
    ∷ᴸ marked 4096 A-formula (strike 4 []ᴸ) (prints 28 0 0 0 8) none_of4
    ∷ᴸ marked 4096 A-formula (0x54 ∷ᴸ 1 ∷ᴸ strike 0 []ᴸ) (prints 16 2 0 0 8) none_of4
    ∷ᴸ marked 4096 A-formula (strike 3 (strike 3 []ᴸ)) (prints 28 3 0 0 8) (0 ∷ᴸ 0 ∷ᴸ 0 ∷ᴸ 1 ∷ᴸ []ᴸ)
    ∷ᴸ marked 4096 A-formula (0x44 ∷ᴸ 0 ∷ᴸ []ᴸ) (prints 10 0 0 0 8) none_of4
    ∷ᴸ marked 4096 A-formula (over 2 0 1 (rup_line 2 (rup_line 0 (strike 5 end)))) (prints 0 15 2 1 10)
    (0 ∷ᴸ 0 ∷ᴸ 0 ∷ᴸ 0 ∷ᴸ 0 ∷ᴸ 1 ∷ᴸ []ᴸ)
    ∷ᴸ marked 4096 A-formula (over 2 0 1 (strike 4 []ᴸ)) (prints 28 6 0 0 8) none_of4
    ∷ᴸ marked 4096 A-formula (over 2 0 1 (rup_line 2 (strike 4 (rup_line 0 end)))) (prints 19 12 1 0 10)
    (0 ∷ᴸ 0 ∷ᴸ 0 ∷ᴸ 0 ∷ᴸ 1 ∷ᴸ []ᴸ)
    ∷ᴸ marked 4096 A-formula (over 2 0 1 (strike 2 (strike 3 (rup_line 2 end)))) (prints 20 15 1 0 10)
    (0 ∷ᴸ 0 ∷ᴸ 1 ∷ᴸ 1 ∷ᴸ 0 ∷ᴸ []ᴸ)
    ∷ᴸ marked 4096 "p cnf 2 1\n-1 2 0\n" (over 1 0 1 (strike 0 (0x54 ∷ᴸ 1 ∷ᴸ pr_line 2 end))) (prints 20 14 1 0 6) (1 ∷ᴸ 0 ∷ᴸ []ᴸ)
    ∷ᴸ marked 4096 "p cnf 1 1\n0\n" (strike 0 (rup_line 0 end)) (prints 19 3 0 0 2) (1 ∷ᴸ []ᴸ)
    ∷ᴸ []ᴸ

-- 02's 5/14: odd and even of a set; a set bit beyond the header, a byte above 1, a record cut short; the empty set; at least one, two,
-- none, three of two; a set bit of variable 64; at least two of three as in case I; full tables, with every place taken; entries of
-- both kinds under a node record.
abbrev pub set_table : List Row
set_table =
    checked 4096 D-formula (odd_even 3 1 (rup_line 2 end)) (prints 19 10 0 0 8)
    ∷ᴸ checked 4096 D-formula (odd_even 4 1 []ᴸ) (prints 12 0 0 0 4)
    ∷ᴸ checked 4096 D-formula (odd_even 3 2 []ᴸ) (prints 29 0 0 0 4)
    ∷ᴸ checked 4096 D-formula (odd_even 4 2 []ᴸ) (prints 12 0 0 0 4)
    ∷ᴸ checked 4096 D-formula (0x58 ∷ᴸ 1 ∷ᴸ 0 ∷ᴸ 0 ∷ᴸ 0 ∷ᴸ 0 ∷ᴸ 0 ∷ᴸ 0 ∷ᴸ 0 ∷ᴸ []ᴸ) (prints 10 0 0 0 4)
    ∷ᴸ checked 4096 D-formula (odd_even 0 0 (rup_line 2 []ᴸ)) (prints 17 10 0 0 4)
    ∷ᴸ checked 4096 D-formula (odd_even 0 1 (rup_line 2 []ᴸ)) (prints 19 10 0 0 4)
    ∷ᴸ checked 4096 D-formula (at_least_of 3 1 (rup_line 2 end)) (prints 20 13 1 0 6)
    ∷ᴸ checked 4096 D-formula (at_least_of 3 2 (rup_line 2 end)) (prints 19 10 0 0 7)
    ∷ᴸ checked 4096 D-formula (at_least_of 3 0 (rup_line 2 []ᴸ)) (prints 17 10 0 0 4)
    ∷ᴸ checked 4096 D-formula (at_least_of 3 3 (rup_line 2 []ᴸ)) (prints 19 10 0 0 4)
    ∷ᴸ checked 4096 D-formula (0x4B ∷ᴸ 0 ∷ᴸ 0 ∷ᴸ 0 ∷ᴸ 0 ∷ᴸ 0 ∷ᴸ 0 ∷ᴸ 0 ∷ᴸ 128 ∷ᴸ 1 ∷ᴸ []ᴸ) (prints 12 0 0 0 4)
    ∷ᴸ checked 4096 "p cnf 3 3\n2 3 0\n1 3 0\n1 2 0\n" (at_least_of 7 2 (rup_line 2 end)) (prints 20 13 1 2 16)
    ∷ᴸ checked 6 D-formula (odd_even 3 1 []ᴸ) (prints 10 10 0 0 6)
    ∷ᴸ checked 5 D-formula (odd_even 3 1 []ᴸ) (prints 23 0 0 0 5)
    ∷ᴸ checked 5 D-formula (at_least_of 3 1 []ᴸ) (prints 10 10 0 0 4)
    ∷ᴸ checked 4096 "p cnf 3 3\n2 3 0\n1 3 0\n1 2 0\n" (at_least_of 7 1 (odd_even 7 1 (over 1 2 3 []ᴸ))) (prints 14 20 0 0 12)
    ∷ᴸ checked 4096 D-formula (odd_even 3 1 (0x54 ∷ᴸ 1 ∷ᴸ pr_line 2 end)) (prints 18 12 0 0 6)
    ∷ᴸ []ᴸ
