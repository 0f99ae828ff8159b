-- The calls as they are linked, lent structs that no call left: what is said, and every field that comes back. Each cause of 26 at its
-- limit and beyond it; 7 before 26 and 32, these before 35; bytes of stage and `refuted` that no call writes. (02, 10/14)
use Rattle.std.specs.Prelude.{◌≡◌, List, [] as []ᴸ, ◌∷◌ as ◌∷ᴸ◌, ℕ, ◌-◌}
use Rattle.dimacs.specs.Texts.{bytes}
use Rattle.table.specs.Nodes.{Node, blank}
use Rattle.table.specs.Columns.{Columns, columns_made, stored_as}
use Rattle.verdict.specs.Check.{zeros}
use Rattle.verdict.specs.Cases.{over, rup_line, end}
use Rattle.shares.specs.Alone.{Answer}
use Rattle.shares.specs.Books.{BookLists, refusal, book_outcome_at}
use Rattle.shares.specs.Sessions.{say}
use Rattle.book_kept.specs.declared.Kept.{Kept}
use Rattle.book_kept.specs.Kept.{book_of, opened_kept}
use Rattle.book_kept.specs.Calls.{KeptOutcome, kept_outcome, kept_call, KeptOpening, kept_opening}

-- ---- a book's call

pub record Row : Type 0 where
  pub columns : Columns
  pub count : ℕ
  pub lists : BookLists
  pub scratch : ℕ
  pub lent : Kept
  pub bytes : List ℕ
  pub says : Answer
  pub left : Kept

abbrev row : Columns → ℕ → BookLists → ℕ → Kept → List ℕ → Answer → Kept → Row
row columns count lists scratch lent bytes says left = record {
  columns = columns;
  count = count;
  lists = lists;
  scratch = scratch;
  lent = lent;
  bytes = bytes;
  says = says;
  left = left;
}

-- What is said, and the struct that comes back.
pub record Came : Type 0 where
  pub answer : Answer
  pub kept : Kept

abbrev came : Answer → Kept → Came
came answer kept = record { answer = answer; kept = kept }

abbrev Comes : Row → KeptOutcome → Type 0
Comes x o = came o.answer o.kept ≡ came x.says x.left

abbrev pub Rows : List Row → Type 0
Rows []ᴸ = Unit {0}
Rows (x ∷ᴸ xs) = Comes x (kept_call x.columns x.count x.lists (zeros x.scratch) x.lent x.bytes) × Rows xs

abbrev entry : ℕ → ℕ → ℕ → Node
entry v l h = record { var = v; low = l; high = h }

-- x1; not-x1; x2.
abbrev three : List Node
three = blank ∷ᴸ blank ∷ᴸ entry 1 0 1 ∷ᴸ entry 1 1 0 ∷ᴸ entry 2 0 1 ∷ᴸ []ᴸ

abbrev stored : ℕ → Columns
stored size = stored_as size three

-- One member with its mark, and own nodes, in a table of so many places.
abbrev lists : ℕ → ℕ → ℕ → List ℕ → BookLists
lists size member mark own = record { members = member ∷ᴸ zeros 2047; struck = mark ∷ᴸ zeros 2047; own = own }

abbrev own_one : ℕ → List ℕ
own_one size = 2 ∷ᴸ zeros (size - 1)

-- A book of one clause, with a share of 3: these bytes and numbers are kept.
abbrev kept : ℕ → ℕ → ℕ → ℕ → ℕ → ℕ → ℕ → ℕ → ℕ → ℕ → Kept
kept stage number place variables clauses lines rounds charge peak refuted = record {
  share = 3;
  stage = stage;
  number = number;
  place = place;
  variables = variables;
  clauses = clauses;
  lines = lines;
  rounds = rounds;
  charge = charge;
  peak = peak;
  refuted = refuted;
}

-- Lines are awaited: `number` and `place` say nothing.
abbrev awaits : ℕ → ℕ → ℕ → ℕ → ℕ → ℕ → Kept
awaits variables clauses lines rounds charge peak = kept 1 77 99 variables clauses lines rounds charge peak 0

-- The end record alone: 20, which binds the book, where the tests are passed; else 26.
abbrev passes : ℕ → BookLists → ℕ → ℕ → ℕ → ℕ → ℕ → ℕ → Row
passes size l variables clauses lines rounds charge peak =
    row (stored size) 5 l 4096 (awaits variables clauses lines rounds charge peak) end
    (say 20 0 lines rounds peak) (kept 2 20 0 variables clauses lines rounds charge peak 0)

abbrev fails : ℕ → BookLists → ℕ → ℕ → ℕ → ℕ → ℕ → ℕ → Row
fails size l variables clauses lines rounds charge peak =
    row (stored size) 5 l 4096 (awaits variables clauses lines rounds charge peak) end
    (refusal 26) (awaits variables clauses lines rounds charge peak)

abbrev plain : BookLists
plain = lists 8 2 0 (own_one 8)

-- "one of its members not below the count or with a mark above 1, kept variables, clauses, lines or rounds above 64, 1,024, 1,024 or
-- 268,435,456, a kept charge or peak above its share, or fewer free places than its share less its charge"
abbrev pub causes : List Row
causes =
    passes 8 plain 1 1 0 0 1 1
    ∷ᴸ passes 8 (lists 8 4 0 (own_one 8)) 1 1 0 0 1 2
    ∷ᴸ fails 8 (lists 8 5 0 (own_one 8)) 1 1 0 0 1 1
    ∷ᴸ passes 8 (lists 8 2 1 (own_one 8)) 1 1 0 0 1 1
    ∷ᴸ fails 8 (lists 8 2 2 (own_one 8)) 1 1 0 0 1 1
    ∷ᴸ passes 8 plain 64 1 0 0 1 1
    ∷ᴸ fails 8 plain 65 1 0 0 1 1
    ∷ᴸ passes 8 plain 1 1024 0 0 1 1
    ∷ᴸ fails 8 plain 1 1025 0 0 1 1
    ∷ᴸ passes 8 plain 1 1 1024 0 1 1
    ∷ᴸ fails 8 plain 1 1 1025 0 1 1
    ∷ᴸ passes 8 plain 1 1 0 268435456 1 1
    ∷ᴸ fails 8 plain 1 1 0 268435457 1 1
    ∷ᴸ passes 8 plain 1 1 0 0 3 1
    ∷ᴸ fails 8 plain 1 1 0 0 4 1
    ∷ᴸ passes 8 plain 1 1 0 0 1 3
    ∷ᴸ fails 8 plain 1 1 0 0 1 4
    ∷ᴸ passes 7 (lists 7 2 0 (own_one 7)) 1 1 0 0 1 1
    ∷ᴸ fails 6 (lists 6 2 0 (own_one 6)) 1 1 0 0 1 1
    ∷ᴸ passes 6 (lists 6 2 0 (2 ∷ᴸ 3 ∷ᴸ zeros 4)) 1 1 0 0 2 2
    ∷ᴸ []ᴸ

-- The table, with another count or another index.
abbrev disordered : Columns → ℕ → Row
disordered c count = row c count plain 4096 (awaits 1 1 0 0 1 1) end (refusal 26) (awaits 1 1 0 0 1 1)

-- "a table out of good order": a place beyond the count that is not zero; a count beyond the nodes, and beyond the table; a head that is
-- not its chain's; nodes alike.
abbrev pub disorders : List Row
disorders =
    disordered (stored 8) 4
    ∷ᴸ disordered (stored 8) 6
    ∷ᴸ disordered (stored 8) 9
    ∷ᴸ disordered (columns_made (stored 8).vars (stored 8).lows (stored 8).highs (zeros 16) (stored 8).links) 5
    ∷ᴸ disordered (stored_as 8 (blank ∷ᴸ blank ∷ᴸ entry 1 0 1 ∷ᴸ entry 1 0 1 ∷ᴸ entry 2 0 1 ∷ᴸ []ᴸ)) 5
    ∷ᴸ []ᴸ

abbrev formula : List ℕ
formula = bytes "p cnf 1 1\n1 0\n"

-- Two faults: 7 before 26; 26 before 35, and before what a bound book repeats.
abbrev pub orders : List Row
orders =
    row (stored 8) 5 (lists 8 5 2 (own_one 8)) 4095 (kept 9 77 99 65 1025 1025 268435457 4 4 9) end (refusal 7)
    (kept 9 77 99 65 1025 1025 268435457 4 4 9)
    ∷ᴸ row (stored 8) 4 (lists 8 2 0 (own_one 7)) 4096 (awaits 1 1 0 0 1 1) end (refusal 7) (awaits 1 1 0 0 1 1)
    ∷ᴸ row (stored 8) 5 plain 4096 (kept 0 77 99 0 0 0 0 0 0 0) formula (say 35 14 0 0 1) (kept 1 77 99 1 1 0 0 1 1 0)
    ∷ᴸ row (stored 8) 5 plain 4096 (kept 0 77 99 65 0 0 0 0 0 0) formula (refusal 26) (kept 0 77 99 65 0 0 0 0 0 0)
    ∷ᴸ row (stored 8) 4 plain 4096 (kept 0 77 99 0 0 0 0 0 0 0) formula (refusal 26) (kept 0 77 99 0 0 0 0 0 0 0)
    ∷ᴸ row (stored 7) 5 (lists 7 2 0 (own_one 7)) 4096 (kept 0 77 99 0 0 0 0 0 0 0) formula (refusal 26) (kept 0 77 99 0 0 0 0 0 0 0)
    ∷ᴸ row (stored 8) 5 plain 4096 (kept 2 19 4 1 1 0 0 1 1 0) end (say 19 4 0 0 1) (kept 2 19 4 1 1 0 0 1 1 0)
    ∷ᴸ row (stored 8) 5 plain 4096 (kept 2 19 4 65 1 0 0 1 1 0) end (refusal 26) (kept 2 19 4 65 1 0 0 1 1 0)
    ∷ᴸ []ᴸ

-- Bytes that no call writes: any stage but 0 and 1 is bound and comes back as it was lent, whatever number it repeats; `refuted` is 0 or
-- another; number and place are written where the book becomes bound, a refused formula too.
abbrev pub bytes_kept : List Row
bytes_kept =
    row (stored 8) 5 plain 4096 (kept 3 19 4 1 1 0 0 1 1 9) end (say 19 4 0 0 1) (kept 3 19 4 1 1 0 0 1 1 9)
    ∷ᴸ row (stored 8) 5 plain 4096 (kept 255 35 4 1 1 0 0 1 1 0) formula (say 35 4 0 0 1) (kept 255 35 4 1 1 0 0 1 1 0)
    ∷ᴸ row (stored 8) 5 plain 4096 (kept 1 77 99 1 1 0 0 1 1 9) end (say 0 0 0 0 1) (kept 2 0 0 1 1 0 0 1 1 9)
    ∷ᴸ row (stored 8) 5 plain 4096 (kept 1 77 99 1 1 0 0 1 1 9) []ᴸ (say 10 0 0 0 1) (kept 2 10 0 1 1 0 0 1 1 9)
    ∷ᴸ row (stored 8) 5 plain 4096 (kept 0 77 99 0 0 0 0 0 0 9) formula (say 35 14 0 0 1) (kept 1 77 99 1 1 0 0 1 1 0)
    ∷ᴸ row (stored 8) 5 plain 4096 (kept 0 77 99 64 1024 1024 7 3 3 9) (bytes "p cnf 1 2\n1 0\n") (say 5 14 0 0 1)
    (kept 2 5 14 0 0 0 0 0 1 0)
    ∷ᴸ []ᴸ

-- An accepted line, the rules taken at 4 variables: number and place, which no stage uses, are as they were lent.
abbrev pub line_row : Row
line_row =
    row (stored 8) 5 plain 4096 (kept 1 77 99 1 1 0 0 1 1 0) (over 1 0 1 (rup_line 2 []ᴸ)) (say 35 9 1 0 2)
    (kept 1 77 99 1 1 1 0 1 2 0)

abbrev pub LineComes : Row → Type 0
LineComes x =
    Comes x (kept_outcome x.lent
    (book_outcome_at 4 x.columns x.count x.lists (zeros x.scratch) (book_of x.lent) x.bytes))

-- ---- the opening

pub record OpeningRow : Type 0 where
  pub scratch : ℕ
  pub own : ℕ
  pub share_a : ℕ
  pub share_b : ℕ
  pub number : ℕ
  pub first : Kept
  pub second : Kept

abbrev opens : ℕ → ℕ → ℕ → ℕ → ℕ → Kept → Kept → OpeningRow
opens scratch own share_a share_b number first second = record {
  scratch = scratch;
  own = own;
  share_a = share_a;
  share_b = share_b;
  number = number;
  first = first;
  second = second;
}

-- The structs that an opening is lent.
abbrev was : Kept
was = kept 9 77 99 65 1025 1025 7 4 4 9

abbrev was_second : Kept
was_second = kept 1 78 98 1 1 0 0 1 1 0

-- An opening of the table of 8 places with three nodes, the second book's own list of this length.
abbrev opening_of : OpeningRow → KeptOpening
opening_of x =
    kept_opening (stored 8) 5 plain (lists 8 2 0 (zeros x.own)) (zeros x.scratch) was was_second x.share_a x.share_b

pub record Both : Type 0 where
  pub answer : Answer
  pub first : Kept
  pub second : Kept

abbrev both : Answer → Kept → Kept → Both
both answer first second = record { answer = answer; first = first; second = second }

abbrev pub Openings : List OpeningRow → Type 0
Openings []ᴸ = Unit {0}
Openings (x ∷ᴸ xs) =
    (both (opening_of x).answer (opening_of x).first (opening_of x).second ≡ both (refusal x.number) x.first x.second)
    × Openings xs

-- 7 before 32, by either book's lists; 32 before 35: all as it was lent. 35: zeros.
abbrev pub opening_rows : List OpeningRow
opening_rows =
    opens 4096 8 3 3 35 (opened_kept 3) (opened_kept 3)
    ∷ᴸ opens 4096 8 0 6 35 (opened_kept 0) (opened_kept 6)
    ∷ᴸ opens 4096 8 3 4 32 was was_second
    ∷ᴸ opens 4096 8 18446744073709551615 1 32 was was_second
    ∷ᴸ opens 4095 8 3 4 7 was was_second
    ∷ᴸ opens 4096 7 3 4 7 was was_second
    ∷ᴸ opens 4095 8 3 3 7 was was_second
    ∷ᴸ []ᴸ
