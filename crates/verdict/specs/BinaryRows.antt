-- Rows about binary DRAT proofs: what is printed, and the marks that are left. (02, 9/14) No call open to others cites this file.
use Rattle.std.specs.Prelude.{List, [] as []ᴸ, ◌∷◌ as ◌∷ᴸ◌}
use Rattle.verdict.specs.Cases.{Row, coded, prints, A-formula, D-formula}

-- The texts of `TextRows` that are read to their end, in binary; and each number that only the binary form gets, at its place.
abbrev pub binary_table : List Row
binary_table =
    coded 4096 A-formula (0x61 ∷ᴸ 0x04 ∷ᴸ 0x00 ∷ᴸ 0x61 ∷ᴸ 0x00 ∷ᴸ []ᴸ) (prints 0 5 2 1 10) (0 ∷ᴸ 0 ∷ᴸ 0 ∷ᴸ 0 ∷ᴸ 0 ∷ᴸ 0 ∷ᴸ []ᴸ)
    ∷ᴸ coded 4096 A-formula (0x61 ∷ᴸ 0x00 ∷ᴸ []ᴸ) (prints 19 0 0 0 8) (0 ∷ᴸ 0 ∷ᴸ 0 ∷ᴸ 0 ∷ᴸ []ᴸ)
    ∷ᴸ coded 4096 D-formula (0x61 ∷ᴸ 0x02 ∷ᴸ 0x00 ∷ᴸ []ᴸ) (prints 20 3 1 0 6) (0 ∷ᴸ 0 ∷ᴸ []ᴸ)
    ∷ᴸ coded 4096 D-formula (0x64 ∷ᴸ 0x02 ∷ᴸ 0x00 ∷ᴸ []ᴸ) (prints 28 0 0 0 4) (0 ∷ᴸ []ᴸ)
    ∷ᴸ coded 4096 D-formula (0x64 ∷ᴸ 0x02 ∷ᴸ 0x04 ∷ᴸ 0x00 ∷ᴸ 0x64 ∷ᴸ 0x02 ∷ᴸ 0x04 ∷ᴸ 0x00 ∷ᴸ []ᴸ) (prints 28 4 0 0 4) (1 ∷ᴸ []ᴸ)
    ∷ᴸ coded 4096 D-formula (0x61 ∷ᴸ 0x02 ∷ᴸ 0x03 ∷ᴸ 0x00 ∷ᴸ []ᴸ) (prints 17 0 0 0 4) (0 ∷ᴸ []ᴸ)
    ∷ᴸ coded 4096 D-formula (0x61 ∷ᴸ 0x06 ∷ᴸ 0x00 ∷ᴸ []ᴸ) (prints 4 1 0 0 4) (0 ∷ᴸ []ᴸ)
    ∷ᴸ coded 4096 D-formula []ᴸ (prints 20 0 0 0 4) (0 ∷ᴸ []ᴸ)
    ∷ᴸ coded 4096 A-formula (0x61 ∷ᴸ 0x04 ∷ᴸ 0x00 ∷ᴸ 0x61 ∷ᴸ 0x00 ∷ᴸ 0x61 ∷ᴸ 0x02 ∷ᴸ 0x00 ∷ᴸ 0x64 ∷ᴸ 0x04 ∷ᴸ 0x00 ∷ᴸ []ᴸ)
    (prints 0 11 3 1 10) (0 ∷ᴸ 0 ∷ᴸ 0 ∷ᴸ 0 ∷ᴸ 1 ∷ᴸ 0 ∷ᴸ 0 ∷ᴸ []ᴸ)
    ∷ᴸ coded 4096 A-formula (0x64 ∷ᴸ 0x04 ∷ᴸ 0x02 ∷ᴸ 0x00 ∷ᴸ 0x61 ∷ᴸ 0x04 ∷ᴸ 0x00 ∷ᴸ 0x61 ∷ᴸ 0x00 ∷ᴸ []ᴸ) (prints 19 4 0 0 10)
    (1 ∷ᴸ 0 ∷ᴸ 0 ∷ᴸ 0 ∷ᴸ []ᴸ)
    ∷ᴸ coded 4096 A-formula (0x61 ∷ᴸ 0x04 ∷ᴸ 0x02 ∷ᴸ 0x04 ∷ᴸ 0x00 ∷ᴸ []ᴸ) (prints 20 5 1 0 9) (0 ∷ᴸ 0 ∷ᴸ 0 ∷ᴸ 0 ∷ᴸ 0 ∷ᴸ []ᴸ)
    ∷ᴸ coded 5 D-formula (0x61 ∷ᴸ 0x03 ∷ᴸ 0x05 ∷ᴸ 0x00 ∷ᴸ []ᴸ) (prints 23 0 0 0 5) (0 ∷ᴸ []ᴸ)
    ∷ᴸ coded 4 D-formula (0x61 ∷ᴸ 0x02 ∷ᴸ 0x00 ∷ᴸ []ᴸ) (prints 23 0 0 0 4) (0 ∷ᴸ []ᴸ)
    ∷ᴸ coded 5 D-formula (0x61 ∷ᴸ 0x02 ∷ᴸ 0x00 ∷ᴸ []ᴸ) (prints 23 0 0 0 5) (0 ∷ᴸ []ᴸ)
    ∷ᴸ coded 6 D-formula (0x61 ∷ᴸ 0x02 ∷ᴸ 0x00 ∷ᴸ []ᴸ) (prints 20 3 1 0 6) (0 ∷ᴸ 0 ∷ᴸ []ᴸ)
    ∷ᴸ coded 4096 "p cnf 1 1\n0\n" []ᴸ (prints 20 0 0 0 2) (0 ∷ᴸ []ᴸ)
    ∷ᴸ coded 4096 "p cnf 1 1\n0\n" (0x61 ∷ᴸ 0x00 ∷ᴸ []ᴸ) (prints 0 2 1 0 2) (0 ∷ᴸ 0 ∷ᴸ []ᴸ)
    ∷ᴸ coded 4096 "p cnf 1 1\n0\n" (0x64 ∷ᴸ 0x00 ∷ᴸ 0x61 ∷ᴸ 0x00 ∷ᴸ []ᴸ) (prints 19 2 0 0 2) (1 ∷ᴸ []ᴸ)
    ∷ᴸ coded 4096 "p cnf 1 1\n1 -1 0\n" (0x64 ∷ᴸ 0x03 ∷ᴸ 0x02 ∷ᴸ 0x00 ∷ᴸ 0x64 ∷ᴸ 0x02 ∷ᴸ 0x03 ∷ᴸ 0x00 ∷ᴸ []ᴸ) (prints 28 4 0 0 2) (1 ∷ᴸ []ᴸ)
    ∷ᴸ coded 4096 "p cnf 3 2\n1 2 0\n-1 3 0\n" (0x61 ∷ᴸ 0x02 ∷ᴸ 0x04 ∷ᴸ 0x06 ∷ᴸ 0x00 ∷ᴸ 0x64 ∷ᴸ 0x02 ∷ᴸ 0x04 ∷ᴸ 0x00 ∷ᴸ 0x61 ∷ᴸ 0x04 ∷ᴸ 0x06
    ∷ᴸ 0x00 ∷ᴸ []ᴸ) (prints 20 13 2 0 12) (1 ∷ᴸ 0 ∷ᴸ 0 ∷ᴸ 0 ∷ᴸ []ᴸ)
    ∷ᴸ coded 4096 "p cnf 2 1\n-1 2 0\n" (0x61 ∷ᴸ 0x02 ∷ᴸ 0x00 ∷ᴸ []ᴸ) (prints 19 0 0 0 7) (0 ∷ᴸ []ᴸ)
    ∷ᴸ coded 4096 "p cnf 2 1\n-1 2 0\n" (0x61 ∷ᴸ 0x04 ∷ᴸ 0x00 ∷ᴸ 0x61 ∷ᴸ 0x02 ∷ᴸ 0x00 ∷ᴸ 0x61 ∷ᴸ 0x05 ∷ᴸ 0x00 ∷ᴸ []ᴸ) (prints 19 6 2 0 7)
    (0 ∷ᴸ 0 ∷ᴸ 0 ∷ᴸ []ᴸ)
    ∷ᴸ coded 4096 "p cnf 1 0\n" (0x61 ∷ᴸ 0x02 ∷ᴸ 0x00 ∷ᴸ 0x61 ∷ᴸ 0x03 ∷ᴸ 0x00 ∷ᴸ []ᴸ) (prints 19 3 1 0 4) (0 ∷ᴸ []ᴸ)
    ∷ᴸ coded 4096 "p cnf 0 0\n" (0x61 ∷ᴸ 0x00 ∷ᴸ []ᴸ) (prints 19 0 0 0 2) ([]ᴸ)
    ∷ᴸ coded 4096 D-formula (0x62 ∷ᴸ []ᴸ) (prints 9 0 0 0 4) (0 ∷ᴸ []ᴸ)
    ∷ᴸ coded 4096 D-formula (0x61 ∷ᴸ 0x01 ∷ᴸ []ᴸ) (prints 31 1 0 0 4) (0 ∷ᴸ []ᴸ)
    ∷ᴸ coded 4096 D-formula (0x61 ∷ᴸ 0x02 ∷ᴸ []ᴸ) (prints 6 0 0 0 4) (0 ∷ᴸ []ᴸ)
    ∷ᴸ coded 4096 D-formula (0x61 ∷ᴸ 0x81 ∷ᴸ 0x01 ∷ᴸ 0x00 ∷ᴸ []ᴸ) (prints 4 1 0 0 4) (0 ∷ᴸ []ᴸ)
    ∷ᴸ coded 4096 D-formula (0x61 ∷ᴸ 0x80 ∷ᴸ 0x00 ∷ᴸ []ᴸ) (prints 31 1 0 0 4) (0 ∷ᴸ []ᴸ)
    ∷ᴸ coded 4096 D-formula (0x61 ∷ᴸ 0x82 ∷ᴸ 0x00 ∷ᴸ 0x00 ∷ᴸ []ᴸ) (prints 31 1 0 0 4) (0 ∷ᴸ []ᴸ)
    ∷ᴸ coded 4096 D-formula (0x64 ∷ᴸ 0x02 ∷ᴸ 0x04 ∷ᴸ 0x00 ∷ᴸ 0x61 ∷ᴸ 0x03 ∷ᴸ 0x05 ∷ᴸ 0x62 ∷ᴸ []ᴸ) (prints 4 7 0 0 4) (1 ∷ᴸ []ᴸ)
    ∷ᴸ coded 4096 A-formula (0x61 ∷ᴸ 0x04 ∷ᴸ 0x00 ∷ᴸ 0x61 ∷ᴸ 0x00 ∷ᴸ 0x00 ∷ᴸ []ᴸ) (prints 9 5 2 1 10) (0 ∷ᴸ 0 ∷ᴸ 0 ∷ᴸ 0 ∷ᴸ 0 ∷ᴸ 0 ∷ᴸ []ᴸ)
    ∷ᴸ coded 4096 A-formula (0x61 ∷ᴸ 0x04 ∷ᴸ 0x00 ∷ᴸ 0x61 ∷ᴸ 0x00 ∷ᴸ 0x64 ∷ᴸ []ᴸ) (prints 6 5 2 1 10) (0 ∷ᴸ 0 ∷ᴸ 0 ∷ᴸ 0 ∷ᴸ 0 ∷ᴸ 0 ∷ᴸ []ᴸ)
    ∷ᴸ coded 4096 A-formula (0x61 ∷ᴸ 0x04 ∷ᴸ 0x00 ∷ᴸ 0x61 ∷ᴸ 0x00 ∷ᴸ 0x61 ∷ᴸ 0x02 ∷ᴸ 0x00 ∷ᴸ []ᴸ) (prints 0 8 3 1 10)
    (0 ∷ᴸ 0 ∷ᴸ 0 ∷ᴸ 0 ∷ᴸ 0 ∷ᴸ 0 ∷ᴸ 0 ∷ᴸ []ᴸ)
    ∷ᴸ coded 4096 A-formula (0x64 ∷ᴸ 0x04 ∷ᴸ 0x02 ∷ᴸ 0x00 ∷ᴸ 0x61 ∷ᴸ 0x04 ∷ᴸ 0x00 ∷ᴸ []ᴸ) (prints 19 4 0 0 10) (1 ∷ᴸ 0 ∷ᴸ 0 ∷ᴸ 0 ∷ᴸ []ᴸ)
    ∷ᴸ coded 4096 A-formula (0x61 ∷ᴸ 0x02 ∷ᴸ 0x03 ∷ᴸ 0x00 ∷ᴸ []ᴸ) (prints 17 0 0 0 8) (0 ∷ᴸ 0 ∷ᴸ 0 ∷ᴸ 0 ∷ᴸ []ᴸ)
    ∷ᴸ []ᴸ
