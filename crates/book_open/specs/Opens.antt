-- What the opening says and leaves, as the definition has it.
use Rattle.std.specs.Prelude.{List, ℕ}
use Rattle.table.specs.Columns.{Columns}
use Rattle.shares.specs.declared.Book.{Book}
use Rattle.shares.specs.Books.{BookLists, OpenOutcome, refusal}
use Rattle.book_open.specs.declared.Opened.{Opened}

abbrev pub lists_of : List ℕ → List ℕ → List ℕ → BookLists
lists_of members struck own = record { members = members; struck = struck; own = own }

-- "else gives 35 and zeros"; "26 and 32 are otherwise as 7": place, lines, rounds and peak are 0 in every answer of the opening.
abbrev pub opened_outcome : Columns → BookLists → BookLists → List ℕ → Opened → OpenOutcome
opened_outcome c a b scratch r = record {
  answer = refusal r.number;
  count = r.count;
  columns = c;
  a = a;
  b = b;
  scratch = scratch;
  book_a = r.first;
  book_b = r.second;
}

abbrev pub unopened_said : ℕ → ℕ → Book → Book → Opened
unopened_said number count first second = record { number = number; count = count; first = first; second = second }
