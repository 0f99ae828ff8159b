-- Calls of two books in any order, as they are linked: each lent table, index, lists and the struct of its book just as the opening or the
-- last call of either book left them. (02, 10/14) No call open to others cites this file: the theorems on what the calls say do.
use Rattle.std.specs.Prelude.{List, [], ◌∷◌, ℕ}
use Rattle.table.specs.Columns.{Columns}
use Rattle.shares.specs.Alone.{Answer}
use Rattle.shares.specs.Books.{BookLists, book_outcome_at}
use Rattle.shares.specs.Turns.{Desk, Turn, ofA, ofB}
use Rattle.book_kept.specs.declared.Kept.{Kept}
use Rattle.book_kept.specs.Kept.{book_of}
use Rattle.book_kept.specs.Calls.{KeptOutcome, KeptOpening, kept_call}

-- Table, index, lists and the structs of both books.
pub record KeptDesk : Type 0 where
  pub columns : Columns
  pub count : ℕ
  pub scratch : List ℕ
  pub a : BookLists
  pub b : BookLists
  pub first : Kept
  pub second : Kept

-- The books that the structs stand for.
abbrev pub desk_of : KeptDesk → Desk
desk_of x = record {
  columns = x.columns;
  count = x.count;
  scratch = x.scratch;
  a = x.a;
  b = x.b;
  book_a = book_of x.first;
  book_b = book_of x.second;
}

-- As the opening leaves them.
abbrev pub kept_desk : KeptOpening → KeptDesk
kept_desk o = record {
  columns = o.columns;
  count = o.count;
  scratch = o.scratch;
  a = o.a;
  b = o.b;
  first = o.first;
  second = o.second;
}

abbrev pub linked_a : KeptDesk → List ℕ → KeptOutcome
linked_a x bytes = kept_call x.columns x.count x.a x.scratch x.first bytes

abbrev pub linked_b : KeptDesk → List ℕ → KeptOutcome
linked_b x bytes = kept_call x.columns x.count x.b x.scratch x.second bytes

-- As a call leaves them.
abbrev pub left_by_a : KeptDesk → KeptOutcome → KeptDesk
left_by_a x o = record {
  columns = o.columns;
  count = o.count;
  scratch = o.scratch;
  a = o.lists;
  b = x.b;
  first = o.kept;
  second = x.second;
}

abbrev pub left_by_b : KeptDesk → KeptOutcome → KeptDesk
left_by_b x o = record {
  columns = o.columns;
  count = o.count;
  scratch = o.scratch;
  a = x.a;
  b = o.lists;
  first = x.first;
  second = o.kept;
}

-- After calls in their order.
unfoldable pub linked_after : KeptDesk → List Turn → KeptDesk
unfolding book_outcome_at
linked_after x [] = x
linked_after x (ofA bytes ∷ rest) = linked_after (left_by_a x (linked_a x bytes)) rest
linked_after x (ofB bytes ∷ rest) = linked_after (left_by_b x (linked_b x bytes)) rest

-- What the calls of each book get.
unfoldable pub linked_answers_a : KeptDesk → List Turn → List Answer
unfolding book_outcome_at
linked_answers_a x [] = []
linked_answers_a x (ofA bytes ∷ rest) = let o = linked_a x bytes in o.answer ∷ linked_answers_a (left_by_a x o) rest
linked_answers_a x (ofB bytes ∷ rest) = linked_answers_a (left_by_b x (linked_b x bytes)) rest

unfoldable pub linked_answers_b : KeptDesk → List Turn → List Answer
unfolding book_outcome_at
linked_answers_b x [] = []
linked_answers_b x (ofA bytes ∷ rest) = linked_answers_b (left_by_a x (linked_a x bytes)) rest
linked_answers_b x (ofB bytes ∷ rest) = let o = linked_b x bytes in o.answer ∷ linked_answers_b (left_by_b x o) rest
