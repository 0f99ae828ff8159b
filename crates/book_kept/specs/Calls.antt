-- What the two calls open to others say, and what they leave of every lent place and of every field of what is kept. (02, 10/14)
use Rattle.std.specs.Prelude.{List, ℕ}
use Rattle.table.specs.Columns.{Columns}
use Rattle.shares.specs.Alone.{Answer}
use Rattle.shares.specs.Books.{BookLists, BookOutcome, book_outcome, OpenOutcome, open_outcome, refusal}
use Rattle.book_kept.specs.declared.Kept.{Kept}
use Rattle.book_kept.specs.declared.Booked.{Booked}
use Rattle.book_kept.specs.declared.Opening.{Opening}
use Rattle.book_kept.specs.Kept.{book_of, kept_as, kept_opened}

abbrev pub lists_made : List ℕ → List ℕ → List ℕ → BookLists
lists_made members struck own = record { members = members; struck = struck; own = own }

-- ---- a book's call

pub record KeptOutcome : Type 0 where
  pub answer : Answer
  pub count : ℕ
  pub columns : Columns
  pub lists : BookLists
  pub scratch : List ℕ
  pub kept : Kept

abbrev pub kept_outcome : Kept → BookOutcome → KeptOutcome
kept_outcome k o = record {
  answer = o.answer;
  count = o.count;
  columns = o.columns;
  lists = o.lists;
  scratch = o.scratch;
  kept = kept_as k o.book;
}

-- The call, lent the struct k.
abbrev pub kept_call : Columns → ℕ → BookLists → List ℕ → Kept → List ℕ → KeptOutcome
kept_call c count l scratch k bytes = kept_outcome k (book_outcome c count l scratch (book_of k) bytes)

-- What is said and left.
abbrev pub booked_outcome : Columns → BookLists → List ℕ → Booked → KeptOutcome
booked_outcome c l scratch r = record {
  answer = record { number = r.number; place = r.place; lines = r.lines; rounds = r.rounds; peak = r.peak };
  count = r.count;
  columns = c;
  lists = l;
  scratch = scratch;
  kept = r.book;
}

-- ---- the opening

pub record KeptOpening : Type 0 where
  pub answer : Answer
  pub count : ℕ
  pub columns : Columns
  pub a : BookLists
  pub b : BookLists
  pub scratch : List ℕ
  pub first : Kept
  pub second : Kept

abbrev pub opening_by : Kept → Kept → ℕ → ℕ → OpenOutcome → KeptOpening
opening_by k k' share_a share_b o = record {
  answer = o.answer;
  count = o.count;
  columns = o.columns;
  a = o.a;
  b = o.b;
  scratch = o.scratch;
  first = kept_opened o.answer.number share_a k;
  second = kept_opened o.answer.number share_b k';
}

-- The opening, lent the structs k and k'.
abbrev pub kept_opening : Columns → ℕ → BookLists → BookLists → List ℕ → Kept → Kept → ℕ → ℕ → KeptOpening
kept_opening c count la lb scratch k k' share_a share_b =
    opening_by k k' share_a share_b (open_outcome c count la lb scratch (book_of k) (book_of k') share_a share_b)

-- What is said and left: place, lines, rounds and peak are 0 in every answer of the opening.
abbrev pub opening_outcome : Columns → BookLists → BookLists → List ℕ → Opening → KeptOpening
opening_outcome c a b scratch r = record {
  answer = refusal r.number;
  count = r.count;
  columns = c;
  a = a;
  b = b;
  scratch = scratch;
  first = r.first;
  second = r.second;
}
