-- Rows about DRAT texts: what is printed, and the marks that are left. (02, 4/14) No call open to others cites this file.
use Rattle.std.specs.Prelude.{List, [] as []ᴸ, ◌∷◌ as ◌∷ᴸ◌}
use Rattle.verdict.specs.Cases.{Row, texted, prints, A-formula, D-formula}

-- Each number that a text can get, at its place; comments, `d` and its clause on two lines, repeated literals, several clauses in a line;
-- a clause that only its second try shows; strikings by clause; full tables; what follows the empty clause.
abbrev pub text_table : List Row
text_table =
    texted 4096 A-formula "2 0\n0\n" (prints 0 6 2 1 10) (0 ∷ᴸ 0 ∷ᴸ 0 ∷ᴸ 0 ∷ᴸ 0 ∷ᴸ 0 ∷ᴸ []ᴸ)
    ∷ᴸ texted 4096 A-formula "0\n" (prints 19 0 0 0 8) (0 ∷ᴸ 0 ∷ᴸ 0 ∷ᴸ 0 ∷ᴸ []ᴸ)
    ∷ᴸ texted 4096 D-formula "1 0\n" (prints 20 4 1 0 6) (0 ∷ᴸ 0 ∷ᴸ []ᴸ)
    ∷ᴸ texted 4096 D-formula "d 1 0\n" (prints 28 0 0 0 4) (0 ∷ᴸ []ᴸ)
    ∷ᴸ texted 4096 D-formula "d 1 2 0\nd 1 2 0\n" (prints 28 8 0 0 4) (1 ∷ᴸ []ᴸ)
    ∷ᴸ texted 4096 D-formula "1 -1 0\n" (prints 17 0 0 0 4) (0 ∷ᴸ []ᴸ)
    ∷ᴸ texted 4096 D-formula "3 0\n" (prints 4 0 0 0 4) (0 ∷ᴸ []ᴸ)
    ∷ᴸ texted 4096 D-formula "1 x 0\n" (prints 3 2 0 0 4) (0 ∷ᴸ []ᴸ)
    ∷ᴸ texted 4096 D-formula "d 1\n" (prints 6 0 0 0 4) (0 ∷ᴸ []ᴸ)
    ∷ᴸ texted 4096 D-formula "" (prints 20 0 0 0 4) (0 ∷ᴸ []ᴸ)
    ∷ᴸ texted 4096 D-formula "d\n" (prints 6 0 0 0 4) (0 ∷ᴸ []ᴸ)
    ∷ᴸ texted 4096 D-formula "1" (prints 6 0 0 0 4) (0 ∷ᴸ []ᴸ)
    ∷ᴸ texted 4096 D-formula "d1 0" (prints 3 0 0 0 4) (0 ∷ᴸ []ᴸ)
    ∷ᴸ texted 4096 D-formula "1 d 0" (prints 3 2 0 0 4) (0 ∷ᴸ []ᴸ)
    ∷ᴸ texted 4096 D-formula "d d 0" (prints 3 2 0 0 4) (0 ∷ᴸ []ᴸ)
    ∷ᴸ texted 4096 D-formula "c a\nd c\n" (prints 3 6 0 0 4) (0 ∷ᴸ []ᴸ)
    ∷ᴸ texted 4096 D-formula "d\nc between\n2 1 2 0 20" (prints 4 20 0 0 4) (1 ∷ᴸ []ᴸ)
    ∷ᴸ texted 4096 A-formula "2 0 0 1 0 d 2 0" (prints 0 15 3 1 10) (0 ∷ᴸ 0 ∷ᴸ 0 ∷ᴸ 0 ∷ᴸ 1 ∷ᴸ 0 ∷ᴸ 0 ∷ᴸ []ᴸ)
    ∷ᴸ texted 4096 A-formula "d 2 1 0 2 0 0" (prints 19 8 0 0 10) (1 ∷ᴸ 0 ∷ᴸ 0 ∷ᴸ 0 ∷ᴸ []ᴸ)
    ∷ᴸ texted 4096 A-formula "2 1 2 0" (prints 20 7 1 0 9) (0 ∷ᴸ 0 ∷ᴸ 0 ∷ᴸ 0 ∷ᴸ 0 ∷ᴸ []ᴸ)
    ∷ᴸ texted 5 D-formula "-1 -2 0" (prints 23 0 0 0 5) (0 ∷ᴸ []ᴸ)
    ∷ᴸ texted 4 D-formula "1 0" (prints 23 0 0 0 4) (0 ∷ᴸ []ᴸ)
    ∷ᴸ texted 5 D-formula "1 0" (prints 23 0 0 0 5) (0 ∷ᴸ []ᴸ)
    ∷ᴸ texted 6 D-formula "1 0" (prints 20 3 1 0 6) (0 ∷ᴸ 0 ∷ᴸ []ᴸ)
    ∷ᴸ texted 4096 "p cnf 1 1\n0\n" "" (prints 20 0 0 0 2) (0 ∷ᴸ []ᴸ)
    ∷ᴸ texted 4096 "p cnf 1 1\n0\n" "0" (prints 0 1 1 0 2) (0 ∷ᴸ 0 ∷ᴸ []ᴸ)
    ∷ᴸ texted 4096 "p cnf 1 1\n0\n" "d 0 0" (prints 19 4 0 0 2) (1 ∷ᴸ []ᴸ)
    ∷ᴸ texted 4096 "p cnf 1 1\n1 -1 0\n" "d -1 1 0 d 1 -1 0" (prints 28 9 0 0 2) (1 ∷ᴸ []ᴸ)
    ∷ᴸ texted 4096 "p cnf 3 2\n1 2 0\n-1 3 0\n" "1 2 3 0 d 1 2 0 2 3 0" (prints 20 21 2 0 12) (1 ∷ᴸ 0 ∷ᴸ 0 ∷ᴸ 0 ∷ᴸ []ᴸ)
    ∷ᴸ texted 4096 "p cnf 2 1\n-1 2 0\n" "1 0" (prints 19 0 0 0 7) (0 ∷ᴸ []ᴸ)
    ∷ᴸ texted 4096 "p cnf 2 1\n-1 2 0\n" "2 0 1 0 -2 0" (prints 19 8 2 0 7) (0 ∷ᴸ 0 ∷ᴸ 0 ∷ᴸ []ᴸ)
    ∷ᴸ texted 4096 "p cnf 1 0\n" "x" (prints 3 0 0 0 2) ([]ᴸ)
    ∷ᴸ texted 4096 "p cnf 1 0\n" "1 0 -1 0" (prints 19 4 1 0 4) (0 ∷ᴸ []ᴸ)
    ∷ᴸ texted 4096 "p cnf 0 0\n" "0" (prints 19 0 0 0 2) ([]ᴸ)
    ∷ᴸ []ᴸ
