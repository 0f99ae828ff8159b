-- Rows about path lines and about the consequence profile: what is printed. (02, 12/14 and 11/14) No call open to others cites this file.
use Rattle.std.specs.Prelude.{List, [] as []ᴸ, ◌∷◌ as ◌∷ᴸ◌, ℕ}
use Prim.Native.String.{String}
use Rattle.dimacs.specs.Texts.{bytes}
use Rattle.commands.specs.declared.Form.TheVariants.{Records, Text}
use Rattle.verdict.specs.Cases.{Row, checked, profiled, prints, A-formula, D-formula, A-proof, over, rup_line, pr_line, path_record}
use Rattle.verdict.specs.Cases.{strike, odd_even, end}

-- x1 xor x2, in clauses.
abbrev pub xor-formula : String
xor-formula = "p cnf 2 2\n1 2 0\n-1 -2 0\n"

-- The root is x1 xor x2: entry 2 is x2, entry 3 is not-x2.
abbrev pub xor-entries : List ℕ → List ℕ
xor-entries rest = over 2 0 1 (over 2 1 0 (over 1 2 3 rest))

-- x1 + x2 + x3 and x3 + x4 are odd, in clauses; so that x1 + x2 + x4 is even.
abbrev pub parities : String
parities = "p cnf 4 6\n1 2 3 0\n-1 -2 3 0\n-1 2 -3 0\n1 -2 -3 0\n3 4 0\n-3 -4 0\n"

-- An odd number of the first 8 + k variables, `more` being the second byte of the set.
abbrev pub odd_of : ℕ → List ℕ → List ℕ
odd_of more rest = 0x58 ∷ᴸ 255 ∷ᴸ more ∷ᴸ 0 ∷ᴸ 0 ∷ᴸ 0 ∷ᴸ 0 ∷ᴸ 0 ∷ᴸ 0 ∷ᴸ 1 ∷ᴸ rest

-- The xor of two variables as a path line, which makes no node, and as a RUP line, which makes three; case A by path lines; line 0, whose
-- one path has no literal; 17, 16, 13, 10; a parity that follows by its paths, and not by RUP; a struck member; 4,096 paths and 8,192; a
-- full table in a later path.
abbrev pub path_table : List Row
path_table =
    checked 4096 xor-formula (xor-entries (path_record 4 end)) (prints 20 21 1 0 7)
    ∷ᴸ checked 4096 xor-formula (xor-entries (rup_line 4 end)) (prints 20 21 1 0 10)
    ∷ᴸ checked 4096 A-formula (over 2 0 1 (path_record 2 (path_record 0 end))) (prints 0 12 2 1 10)
    ∷ᴸ checked 4096 A-formula (path_record 0 end) (prints 19 0 0 0 8)
    ∷ᴸ checked 4096 "p cnf 1 1\n0\n" (path_record 0 end) (prints 0 3 1 0 2)
    ∷ᴸ checked 4096 D-formula (path_record 1 []ᴸ) (prints 17 0 0 0 4)
    ∷ᴸ checked 4096 D-formula (0x54 ∷ᴸ 1 ∷ᴸ path_record 0 []ᴸ) (prints 16 2 0 0 4)
    ∷ᴸ checked 4096 D-formula (path_record 2 []ᴸ) (prints 13 0 0 0 4)
    ∷ᴸ checked 4096 D-formula (0x51 ∷ᴸ 0 ∷ᴸ []ᴸ) (prints 10 0 0 0 4)
    ∷ᴸ checked 4096 parities (odd_even 11 0 (path_record 2 end)) (prints 20 13 1 0 19)
    ∷ᴸ checked 4096 parities (odd_even 11 0 (rup_line 2 end)) (prints 19 10 0 0 22)
    ∷ᴸ checked 4096 xor-formula (strike 0 (odd_even 3 1 (path_record 2 end))) (prints 19 13 0 0 7)
    ∷ᴸ checked 4096 "p cnf 13 0\n" (odd_of 31 (path_record 2 end)) (prints 19 10 0 0 27)
    ∷ᴸ checked 4096 "p cnf 14 0\n" (odd_of 63 (path_record 2 end)) (prints 34 10 0 0 29)
    ∷ᴸ []ᴸ

-- A PR record gets 33, before 13, 17 and 18 but not before 10 and 9; a waiting witness 16 as ever; RUP lines, path lines and strikings
-- pass; a clause of a text that only its second try would show.
abbrev pub profile_table : List Row
profile_table =
    profiled 4096 Records D-formula (over 1 0 1 (0x54 ∷ᴸ 1 ∷ᴸ pr_line 2 end)) (prints 33 8 0 0 5)
    ∷ᴸ profiled 4096 Records D-formula (pr_line 9 []ᴸ) (prints 33 0 0 0 4)
    ∷ᴸ profiled 4096 Records D-formula (pr_line 1 []ᴸ) (prints 33 0 0 0 4)
    ∷ᴸ profiled 4096 Records D-formula (0x50 ∷ᴸ 2 ∷ᴸ []ᴸ) (prints 10 0 0 0 4)
    ∷ᴸ profiled 4096 Records D-formula (0x00 ∷ᴸ []ᴸ) (prints 9 0 0 0 4)
    ∷ᴸ profiled 4096 Records D-formula (0x54 ∷ᴸ 1 ∷ᴸ rup_line 0 []ᴸ) (prints 16 2 0 0 4)
    ∷ᴸ profiled 4096 Records D-formula (0x54 ∷ᴸ 1 ∷ᴸ path_record 0 []ᴸ) (prints 16 2 0 0 4)
    ∷ᴸ profiled 4096 Records A-formula A-proof (prints 0 12 2 1 10)
    ∷ᴸ profiled 4096 Records A-formula (over 2 0 1 (path_record 2 (path_record 0 end))) (prints 0 12 2 1 10)
    ∷ᴸ profiled 4096 Records A-formula (strike 0 A-proof) (prints 19 9 0 0 9)
    ∷ᴸ profiled 4096 Text D-formula (bytes "1 0\n") (prints 19 0 0 0 6)
    ∷ᴸ profiled 4096 Text A-formula (bytes "2 0\n0\n") (prints 0 6 2 1 10)
    ∷ᴸ profiled 4096 Text D-formula (bytes "d 1 2 0\n0\n") (prints 19 8 0 0 4)
    ∷ᴸ profiled 4096 Text D-formula (bytes "0\n") (prints 19 0 0 0 4)
    ∷ᴸ []ᴸ
