-- The rows of 01's table of numbers that are too long to be computed: node record 4,097 of a line, line 1,025 of a proof, each with what
-- may be wrong there besides. (01, What the call says and leaves: 21, 22, and the order of the numbers) No call open to others cites this
-- file.
use Rattle.std.specs.Prelude.{List, [], ◌∷◌, ℕ, zero, suc}
use Rattle.verdict.specs.Cases.{Row, checked, prints, over, rup_line, pr_line, path_record, odd_even}

-- So many node records, each of variable 1 over 0 and 1, and what follows them.
abbrev pub node_records : ℕ → List ℕ → List ℕ
node_records zero rest = rest
node_records (suc k) rest = over 1 0 1 (node_records k rest)

-- So many RUP lines with root 0, and what follows them.
abbrev pub rup_lines : ℕ → List ℕ → List ℕ
rup_lines zero rest = rest
rup_lines (suc k) rest = rup_line 0 (rup_lines k rest)

-- What is printed where the record after 4,096 entries gets the number.
abbrev pub entries_row : List ℕ → ℕ → Row
entries_row rest number = checked 4096 "p cnf 1 0\n" (node_records 4096 rest) (prints number 24576 0 0 3)

-- What is printed where the proof is refused at the place, after 1,024 lines.
abbrev pub lines_row : List ℕ → ℕ → ℕ → Row
lines_row rest number place = checked 4096 "p cnf 1 1\n0\n" (rup_lines 1024 rest) (prints number place 1024 0 2)

-- "Node: 10, 21, 12, 13, 14, 23"; "after 10 and 21, a set bit beyond the header with 12, a parity byte above 1 with 29" (02, 5/14): 10
-- before 21; 21 before 12 and 13; 21 before 12 and 29.
abbrev pub entries_order : List Row
entries_order = entries_row (0x4E ∷ 0 ∷ []) 10 ∷ entries_row (over 0 9 9 []) 21 ∷ entries_row (odd_even 4 2 []) 21 ∷ []

-- "RUP: 10, 13, 16, 22, 17, then 19 or 23 [..]. PR: 10, 13, 22, 17, 18, then the same"; a path line as a RUP line (02, 12/14): 13 before
-- 22, 16 before 22, 22 before 17, and in PR 22 before 18.
abbrev pub lines_order : List Row
lines_order =
    lines_row (rup_line 9 []) 13 3072
    ∷ lines_row (0x46 ∷ 1 ∷ rup_line 0 []) 16 3074
    ∷ lines_row (rup_line 1 []) 22 3072
    ∷ lines_row (pr_line 9 []) 13 3072
    ∷ lines_row (pr_line 1 []) 22 3072
    ∷ lines_row (pr_line 0 []) 22 3072
    ∷ lines_row (path_record 9 []) 13 3072
    ∷ lines_row (0x46 ∷ 1 ∷ path_record 0 []) 16 3074
    ∷ lines_row (path_record 1 []) 22 3072
    ∷ []
