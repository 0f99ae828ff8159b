-- Two faults at one place: the one that 01 and 02 name first is given. (01, What the call says and leaves: "Order: [..]") No call open to
-- others cites this file.
use Rattle.std.specs.Prelude.{List, [] as []ᴸ, ◌∷◌ as ◌∷ᴸ◌, ℕ}
use Rattle.commands.specs.declared.Form.TheVariants.{Records}
use Rattle.verdict.specs.Cases.{Row, checked, texted, coded, profiled, prints, D-formula, over, rup_line, pr_line, path_record, strike}
use Rattle.verdict.specs.Cases.{odd_even, end}
use Rattle.verdict.specs.PathRows.{odd_of}

-- "2 only where the header is proper in form; after the last clause any token is 5; an open clause is 6, not 5"; "Tokens are judged in file
-- order, and a clause is made as it closes": 8 before a later 3.
abbrev pub formula_order : List Row
formula_order =
    checked 4096 "p cnf 65 x\n" []ᴸ (prints 1 0 0 0 2)
    ∷ᴸ checked 4096 "p cnf 1 0\nx\n" []ᴸ (prints 5 10 0 0 2)
    ∷ᴸ checked 4096 "p cnf 1 1\nx 2 0\n" []ᴸ (prints 3 10 0 0 2)
    ∷ᴸ checked 4096 "p cnf 1 1\n2 x 0\n" []ᴸ (prints 4 10 0 0 2)
    ∷ᴸ checked 4096 "p cnf 1 2\n1\n" []ᴸ (prints 6 10 0 0 2)
    ∷ᴸ checked 2 "p cnf 1 2\n1 0\nx" []ᴸ (prints 8 10 0 0 2)
    ∷ᴸ []ᴸ

-- "Node: 10, 21, 12, 13, 14, 23": 10 before 12, 12 before 13, 13 before 14, 14 before 23. "Witness: 10, 12, 15": 10 before 12.
abbrev pub entry_order : List Row
entry_order =
    checked 4096 D-formula (0x4E ∷ᴸ 0 ∷ᴸ []ᴸ) (prints 10 0 0 0 4)
    ∷ᴸ checked 4096 D-formula (over 0 9 0 []ᴸ) (prints 12 0 0 0 4)
    ∷ᴸ checked 4096 D-formula (over 2 0 1 (over 2 9 2 []ᴸ)) (prints 13 6 0 0 4)
    ∷ᴸ checked 3 "p cnf 2 1\n2 0\n" (over 2 0 1 (over 2 0 2 []ᴸ)) (prints 14 6 0 0 3)
    ∷ᴸ checked 4096 D-formula (0x54 ∷ᴸ []ᴸ) (prints 10 0 0 0 4)
    ∷ᴸ []ᴸ

-- "RUP: 10, 13, 16, 22, 17, then 19 or 23": 10 before 13, 13 before 16, 16 before 17, 17 before 23. "PR: 10, 13, 22, 17, 18, then the
-- same": 10 before 13, 13 before 18, 18 before 23.
abbrev pub line_order : List Row
line_order =
    checked 4096 D-formula (0x52 ∷ᴸ 9 ∷ᴸ []ᴸ) (prints 10 0 0 0 4)
    ∷ᴸ checked 4096 D-formula (0x54 ∷ᴸ 1 ∷ᴸ rup_line 9 []ᴸ) (prints 13 2 0 0 4)
    ∷ᴸ checked 4096 D-formula (0x54 ∷ᴸ 1 ∷ᴸ rup_line 1 []ᴸ) (prints 16 2 0 0 4)
    ∷ᴸ checked 4 D-formula (rup_line 1 []ᴸ) (prints 17 0 0 0 4)
    ∷ᴸ checked 4096 D-formula (0x50 ∷ᴸ 9 ∷ᴸ []ᴸ) (prints 10 0 0 0 4)
    ∷ᴸ checked 4096 D-formula (0x46 ∷ᴸ 1 ∷ᴸ pr_line 9 []ᴸ) (prints 13 2 0 0 4)
    ∷ᴸ checked 5 D-formula (over 1 0 1 (0x46 ∷ᴸ 1 ∷ᴸ pr_line 2 []ᴸ)) (prints 18 8 0 0 5)
    ∷ᴸ []ᴸ

-- "End: 16, 11, 20": 16 before 11, 11 before 20. "after 10 and then 16 for a waiting witness", 28 (02, 3/14). "after 10 and 21, a set bit
-- beyond the header with 12, a parity byte above 1 with 29, then 23" (02, 5/14).
abbrev pub other_order : List Row
other_order =
    checked 4096 D-formula (0x54 ∷ᴸ 1 ∷ᴸ 0x45 ∷ᴸ end) (prints 16 2 0 0 4)
    ∷ᴸ checked 4096 D-formula (0x45 ∷ᴸ end) (prints 11 1 0 0 4)
    ∷ᴸ checked 4096 D-formula (0x54 ∷ᴸ 1 ∷ᴸ 0x44 ∷ᴸ 9 ∷ᴸ []ᴸ) (prints 10 2 0 0 4)
    ∷ᴸ checked 4096 D-formula (0x54 ∷ᴸ 1 ∷ᴸ strike 9 []ᴸ) (prints 16 2 0 0 4)
    ∷ᴸ checked 4096 D-formula (0x58 ∷ᴸ 4 ∷ᴸ []ᴸ) (prints 10 0 0 0 4)
    ∷ᴸ checked 4096 D-formula (odd_even 4 2 []ᴸ) (prints 12 0 0 0 4)
    ∷ᴸ checked 4 D-formula (odd_even 3 2 []ᴸ) (prints 29 0 0 0 4)
    ∷ᴸ []ᴸ

-- "3, 4 (the token), 6, 22, 17, then 23 or 19" (02, 4/14): 4 before 6, 6 before 17, 17 before 23; of a `d` clause 3 before 28.
abbrev pub text_order : List Row
text_order =
    texted 4096 D-formula "1 3" (prints 4 2 0 0 4) (0 ∷ᴸ []ᴸ)
    ∷ᴸ texted 4096 D-formula "1 -1" (prints 6 0 0 0 4) (0 ∷ᴸ []ᴸ)
    ∷ᴸ texted 4 D-formula "1 -1 0" (prints 17 0 0 0 4) (0 ∷ᴸ []ᴸ)
    ∷ᴸ texted 4096 D-formula "d 1 x 0" (prints 3 4 0 0 4) (0 ∷ᴸ []ᴸ)
    ∷ᴸ []ᴸ

-- An odd number of the variables 2 to 8 and of those in the second byte of the set.
abbrev pub odd_from2 : ℕ → List ℕ → List ℕ
odd_from2 more rest = 0x58 ∷ᴸ 254 ∷ᴸ more ∷ᴸ 0 ∷ᴸ 0 ∷ᴸ 0 ∷ᴸ 0 ∷ᴸ 0 ∷ᴸ 0 ∷ᴸ 1 ∷ᴸ rest

-- "It refuses as a RUP line does, and with 34, just after 17, a diagram with more than 4,096 such paths" (02, 12/14): 10 before 13, 13
-- before 16, 16 before 17; 16 before 34; 34 before 19; 34 before 23, where the first path needs a place and the table is full, as it is in
-- the row of few paths, which gets 23; 17 before 23. A diagram cannot get both 17 and 34: 1 has no path to 0.
abbrev pub path_order : List Row
path_order =
    checked 4096 D-formula (0x51 ∷ᴸ 9 ∷ᴸ []ᴸ) (prints 10 0 0 0 4)
    ∷ᴸ checked 4096 D-formula (0x54 ∷ᴸ 1 ∷ᴸ path_record 9 []ᴸ) (prints 13 2 0 0 4)
    ∷ᴸ checked 4096 D-formula (0x46 ∷ᴸ 1 ∷ᴸ path_record 1 []ᴸ) (prints 16 2 0 0 4)
    ∷ᴸ checked 4096 "p cnf 14 0\n" (odd_of 63 (0x46 ∷ᴸ 1 ∷ᴸ path_record 2 end)) (prints 16 12 0 0 29)
    ∷ᴸ checked 4096 "p cnf 14 0\n" (odd_of 63 (path_record 2 end)) (prints 34 10 0 0 29)
    ∷ᴸ checked 32 "p cnf 15 1\n1 2 3 0\n" (odd_from2 127 (path_record 2 end)) (prints 34 10 0 0 32)
    ∷ᴸ checked 12 "p cnf 15 1\n1 2 3 0\n" (odd_even 30 1 (path_record 2 end)) (prints 23 10 0 0 12)
    ∷ᴸ checked 4 D-formula (path_record 1 []ᴸ) (prints 17 0 0 0 4)
    ∷ᴸ []ᴸ

-- "It refuses a PR record with 33 before all but 10" (02, 11/14): 10 before 33; 33 before 13, 17, 18.
abbrev pub profile_order : List Row
profile_order =
    profiled 4096 Records D-formula (0x50 ∷ᴸ 9 ∷ᴸ []ᴸ) (prints 10 0 0 0 4)
    ∷ᴸ profiled 4096 Records D-formula (pr_line 9 []ᴸ) (prints 33 0 0 0 4)
    ∷ᴸ profiled 4096 Records D-formula (pr_line 1 []ᴸ) (prints 33 0 0 0 4)
    ∷ᴸ profiled 4096 Records D-formula (over 1 0 1 (0x46 ∷ᴸ 1 ∷ᴸ pr_line 2 []ᴸ)) (prints 33 8 0 0 5)
    ∷ᴸ []ᴸ

-- "per literal a cut clause with 6, then surplus groups or a literal 1 with 31, then one beyond [..] the header with 4" (02, 9/14): 6
-- before 31, of a group that is cut and one that would be surplus; 31 before 4, 31 and 4 each before a 6 and a 17 of the same clause; the
-- first literal before the second.
abbrev pub binary_order : List Row
binary_order =
    coded 4096 D-formula (0x61 ∷ᴸ 0x82 ∷ᴸ 0x80 ∷ᴸ []ᴸ) (prints 6 0 0 0 4) (0 ∷ᴸ []ᴸ)
    ∷ᴸ coded 4096 D-formula (0x61 ∷ᴸ 0x86 ∷ᴸ 0x00 ∷ᴸ 0x00 ∷ᴸ []ᴸ) (prints 31 1 0 0 4) (0 ∷ᴸ []ᴸ)
    ∷ᴸ coded 4096 D-formula (0x61 ∷ᴸ 0x01 ∷ᴸ []ᴸ) (prints 31 1 0 0 4) (0 ∷ᴸ []ᴸ)
    ∷ᴸ coded 4096 D-formula (0x61 ∷ᴸ 0x06 ∷ᴸ []ᴸ) (prints 4 1 0 0 4) (0 ∷ᴸ []ᴸ)
    ∷ᴸ coded 4096 D-formula (0x61 ∷ᴸ 0x02 ∷ᴸ 0x03 ∷ᴸ 0x01 ∷ᴸ 0x00 ∷ᴸ []ᴸ) (prints 31 3 0 0 4) (0 ∷ᴸ []ᴸ)
    ∷ᴸ coded 4096 D-formula (0x61 ∷ᴸ 0x06 ∷ᴸ 0x01 ∷ᴸ 0x00 ∷ᴸ []ᴸ) (prints 4 1 0 0 4) (0 ∷ᴸ []ᴸ)
    ∷ᴸ coded 4 D-formula (0x61 ∷ᴸ 0x02 ∷ᴸ 0x03 ∷ᴸ 0x00 ∷ᴸ []ᴸ) (prints 17 0 0 0 4) (0 ∷ᴸ []ᴸ)
    ∷ᴸ coded 4096 D-formula (0x64 ∷ᴸ 0x02 ∷ᴸ 0x01 ∷ᴸ 0x00 ∷ᴸ []ᴸ) (prints 31 2 0 0 4) (0 ∷ᴸ []ᴸ)
    ∷ᴸ []ᴸ
