-- What a caller keeps for a book, field by field: the book that it stands for, and what it holds after a call. (02, 10/14)
use Rattle.std.specs.Prelude.{Bool, true, false, not, cond, ℕ, eqb, ltb}
use Rattle.shares.specs.declared.Stage.{Stage}
use Rattle.shares.specs.declared.Stage.TheVariants.{Formula, Lines, Bound}
use Rattle.shares.specs.declared.Book.{Book}
use Rattle.book_kept.specs.declared.Kept.{Kept}

-- The stage by its byte: 0 before the formula is read, 1 while lines are awaited, any other bound.
abbrev pub stage_of : ℕ → ℕ → ℕ → Stage
stage_of stage number place = cond (eqb stage 0) Formula (cond (eqb stage 1) Lines (Bound number place))

-- The book that is kept so.
abbrev pub book_of : Kept → Book
book_of k = record {
  share = k.share;
  stage = stage_of k.stage k.number k.place;
  variables = k.variables;
  clauses = k.clauses;
  lines = k.lines;
  rounds = k.rounds;
  charge = k.charge;
  peak = k.peak;
  refuted = not (eqb k.refuted 0);
}

-- ---- after a call

-- A bound book's byte: 2, or another that says so and was lent.
abbrev pub bound_byte : ℕ → ℕ
bound_byte lent = cond (ltb lent 2) 2 lent

-- The byte of `refuted`: 1, or another that says so and was lent; else 0.
abbrev pub flag_byte : ℕ → Bool → ℕ
flag_byte lent true = cond (eqb lent 0) 1 lent
flag_byte lent false = 0

-- The book's numbers with these bytes of its stage and of `refuted`.
abbrev pub kept_with : Book → ℕ → ℕ → ℕ → ℕ → Kept
kept_with b stage number place refuted = record {
  share = b.share;
  stage = stage;
  number = number;
  place = place;
  variables = b.variables;
  clauses = b.clauses;
  lines = b.lines;
  rounds = b.rounds;
  charge = b.charge;
  peak = b.peak;
  refuted = refuted;
}

-- Number and place are written where the book is bound, and are else as they were lent.
abbrev pub kept_at : Kept → Book → Stage → Kept
kept_at k b Formula = kept_with b 0 k.number k.place (flag_byte k.refuted b.refuted)
kept_at k b Lines = kept_with b 1 k.number k.place (flag_byte k.refuted b.refuted)
kept_at k b (Bound number place) = kept_with b (bound_byte k.stage) number place (flag_byte k.refuted b.refuted)

-- What is kept for the book b after a call that was lent k. Where the call leaves the book as it was, every field is as it was lent
-- (`Kept-same`): "26 and 32 are otherwise as 7", which changes nothing.
abbrev pub kept_as : Kept → Book → Kept
kept_as k b = kept_at k b b.stage

-- ---- after the opening

-- "else gives 35 and zeros"
abbrev pub opened_kept : ℕ → Kept
opened_kept share = record {
  share = share;
  stage = 0;
  number = 0;
  place = 0;
  variables = 0;
  clauses = 0;
  lines = 0;
  rounds = 0;
  charge = 0;
  peak = 0;
  refuted = 0;
}

-- After an opening with this number: where it is refused, all is as it was lent.
abbrev pub kept_opened : ℕ → ℕ → Kept → Kept
kept_opened number share k = cond (eqb number 35) (opened_kept share) k
