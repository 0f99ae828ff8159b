-- The rows of 01's table of numbers that belong to the formula, 1 to 6, each with number and place, and the readings of
-- docs/DECISIONS.md, by computation from the definition. Assumes nothing.
use mathlib.Core.Path.{◌≡◌, refl}
use mathlib.Core.List.{List, [] as []ᴸ, ◌∷◌ as ◌∷ᴸ◌, map}
use Prim.Native.String.{String, ◌++◌}
use Rattle.dimacs.specs.Clauses.{formula, Reading, clause, complete, refusal}
use Rattle.dimacs.specs.Texts.{bytes, plus, minus}

-- ---- the rows of the table

row-1 : formula (bytes "p cnf 2") ≡ refusal 1 0
unfolding formula
row-1 = refl

row-2 : formula (bytes "p cnf 65 1") ≡ refusal 2 0
unfolding formula
row-2 = refl

row-3 : formula (bytes "p cnf 1 1\n-0 0\n") ≡ refusal 3 10
unfolding formula
row-3 = refl

row-4 : formula (bytes "p cnf 2 1\n3 0\n") ≡ refusal 4 10
unfolding formula
row-4 = refl

row-5 : formula (bytes "p cnf 1 2\n1 0\n") ≡ clause (plus 1 ∷ᴸ []ᴸ) 10 (refusal 5 14)
unfolding formula
row-5 = refl

row-6 : formula (bytes "p cnf 1 1\n1\n") ≡ refusal 6 10
unfolding formula
row-6 = refl

-- ---- whole formulas

A : formula (bytes "p cnf 2 4\n1 2 0\n-1 2 0\n1 -2 0\n-1 -2 0\n")
    ≡ clause (plus 1 ∷ᴸ plus 2 ∷ᴸ []ᴸ) 10 (clause (minus 1 ∷ᴸ plus 2 ∷ᴸ []ᴸ) 16 (clause (plus 1 ∷ᴸ minus 2 ∷ᴸ []ᴸ) 23
    (clause (minus 1 ∷ᴸ minus 2 ∷ᴸ []ᴸ) 30 complete)))
unfolding formula
A = refl

-- Blank lines and comments before the header, CR behind lines, a clause over two lines and one with both signs, an empty clause, no LF at
-- the end.
mixed : formula (bytes "c\n \t\r\ncc p\np\tcnf  3 3 \r\n1\r\n-3\t1 0 2 -2 0\r\n0")
    ≡ clause (plus 1 ∷ᴸ minus 3 ∷ᴸ plus 1 ∷ᴸ []ᴸ) 24 (clause (plus 2 ∷ᴸ minus 2 ∷ᴸ []ᴸ) 34 (clause []ᴸ 42 complete))
unfolding formula
mixed = refl

-- "Zero variables and zero clauses are allowed."
none : formula (bytes "p cnf 0 0") ≡ complete
unfolding formula
none = refl

-- ---- what is refused, and where

abbrev each : List String → List Reading
each texts = map (λ t. formula (bytes t)) texts

-- No header; a space before `c`; a space before `p`; words run together or too many; numbers of wrong form; CR between words.
no_header : each
    ("" ∷ᴸ "c\n\n" ∷ᴸ " c\np cnf 0 0" ∷ᴸ "c\n p cnf 0 0" ∷ᴸ "pcnf 1 1" ∷ᴸ "p cnf 1 1 0" ∷ᴸ "p cnf -1 1" ∷ᴸ "p cnf 01 1" ∷ᴸ "p cnf +1 1" ∷ᴸ
    "p cnf 1x 1"
    ∷ᴸ "p cnf 1\r 1" ∷ᴸ "p cnf 1\n1" ∷ᴸ []ᴸ)
    ≡ (refusal 1 0 ∷ᴸ refusal 1 3 ∷ᴸ refusal 1 0 ∷ᴸ refusal 1 2 ∷ᴸ refusal 1 0 ∷ᴸ refusal 1 0 ∷ᴸ refusal 1 0 ∷ᴸ refusal 1 0 ∷ᴸ refusal 1 0
    ∷ᴸ refusal 1 0
    ∷ᴸ refusal 1 0 ∷ᴸ refusal 1 0 ∷ᴸ []ᴸ)
unfolding formula
no_header = refl

-- At the limits, one beyond, and a number that fits no machine word.
limits : each
    ("p cnf 64 0" ∷ᴸ "p cnf 65 0" ∷ᴸ "\np cnf 0 1025" ∷ᴸ "p cnf 36893488147419103233 0" ∷ᴸ "p cnf 0 1024" ∷ᴸ []ᴸ)
    ≡ (complete ∷ᴸ refusal 2 0 ∷ᴸ refusal 2 1 ∷ᴸ refusal 2 0 ∷ᴸ refusal 5 12 ∷ᴸ []ᴸ)
unfolding formula
limits = refl

-- After `p cnf 1 1` and LF, ten bytes: what is no number, what is beyond the header.
abbrev tokens : List String → List Reading
tokens texts = map (λ t. formula (bytes ("p cnf 1 1\n" ++ t))) texts

no_number : tokens
    ("-" ∷ᴸ "--1 0" ∷ᴸ "+1 0" ∷ᴸ "00" ∷ᴸ "01 0" ∷ᴸ "1 -0 0" ∷ᴸ "1x 0" ∷ᴸ " c" ∷ᴸ " -12a 0" ∷ᴸ []ᴸ)
    ≡ (refusal 3 10 ∷ᴸ refusal 3 10 ∷ᴸ refusal 3 10 ∷ᴸ refusal 3 10 ∷ᴸ refusal 3 10 ∷ᴸ refusal 3 12 ∷ᴸ refusal 3 10 ∷ᴸ refusal 3 11 ∷ᴸ
    refusal 3 11 ∷ᴸ []ᴸ)
unfolding formula
no_number = refl

beyond : tokens ("2 0" ∷ᴸ "1 -1 -2 0" ∷ᴸ "18446744073709551617 0" ∷ᴸ "1025" ∷ᴸ []ᴸ)
    ≡ (refusal 4 10 ∷ᴸ refusal 4 15 ∷ᴸ refusal 4 10 ∷ᴸ refusal 4 10 ∷ᴸ []ᴸ)
unfolding formula
beyond = refl

-- Too few, too many; after the last clause any token is 5; an open clause is 6 at its first token.
counts : tokens ("" ∷ᴸ "\n\n" ∷ᴸ " 1 -1\n" ∷ᴸ []ᴸ) ≡ (refusal 5 10 ∷ᴸ refusal 5 12 ∷ᴸ refusal 6 11 ∷ᴸ []ᴸ)
unfolding formula
counts = refl

too_many : tokens ("1 0 0" ∷ᴸ "1 0\nx" ∷ᴸ "1 0 2" ∷ᴸ []ᴸ)
    ≡ (clause (plus 1 ∷ᴸ []ᴸ) 10 (refusal 5 14) ∷ᴸ clause (plus 1 ∷ᴸ []ᴸ) 10 (refusal 5 14) ∷ᴸ clause (plus 1 ∷ᴸ []ᴸ) 10 (refusal 5 14) ∷ᴸ
    []ᴸ)
unfolding formula
too_many = refl

-- Comment lines between clauses, inside an open clause and after the last one; a `c` behind a CR or a space is a token. (02, 1/14)
comments : tokens ("c x\n1 0\n" ∷ᴸ "1\nc 0\nc\n-1 0" ∷ᴸ "1 0\nc 1 0" ∷ᴸ "1 0\rc 1 0" ∷ᴸ "c" ∷ᴸ "1\nc" ∷ᴸ "-\nc\n1 0" ∷ᴸ []ᴸ)
    ≡ (clause (plus 1 ∷ᴸ []ᴸ) 14 complete ∷ᴸ clause (plus 1 ∷ᴸ minus 1 ∷ᴸ []ᴸ) 10 complete ∷ᴸ clause (plus 1 ∷ᴸ []ᴸ) 10 complete
    ∷ᴸ clause (plus 1 ∷ᴸ []ᴸ) 10 (refusal 5 14) ∷ᴸ refusal 5 11 ∷ᴸ refusal 6 10 ∷ᴸ refusal 3 10 ∷ᴸ []ᴸ)
unfolding formula
comments = refl
