-- The clauses, token by token in file order, and the whole formula. (01, The formula; numbers 3 to 6)
use Rattle.std.specs.Prelude.{cond, List, [], ◌∷◌, ℕ, zero, suc, ◌-◌, length, ltb}
use Rattle.std.proofs.Math.Seq.{slice}
use Rattle.meaning.specs.Operations as meaning
use Rattle.dimacs.specs.Text.{token_end, between_from, between}
use Rattle.dimacs.specs.Numbers.{Token, Closing, Literal, Wrong, token_of}
use Rattle.dimacs.specs.Header.{Header, Proper, Improper, header}

-- ---- one clause

-- What comes next: a clause that closes, with the place of its first token and the place behind its 0; the end, all clauses
-- closed; or a refusal with its place.
pub data Next : Type 0 where
  closed : List meaning.Literal → ℕ → ℕ → Next
  ended : Next
  refused : ℕ → ℕ → Next

abbrev pub literal_then : meaning.Literal → Next → Next
literal_then l (closed ls first next) = closed (l ∷ ls) first next
literal_then l ended = ended
literal_then l (refused number place) = refused number place

-- A token at a place, with its end and what is read behind it.
abbrev pub after_token : Token → ℕ → ℕ → ℕ → Next → Next
after_token Closing first place end rest = closed [] first end
after_token (Wrong number) first place end rest = refused number place
after_token (Literal v b) first place end rest = literal_then (record { variable = v; positive = b }) rest

-- The rest of an open clause, from the token at `at` on; its first token is at `first`. At most k tokens are left.
-- "each clause closed by `0`"; 3 and 4 at "the token"; 6 "last clause open", at "the clause's first token".
unfoldable pub clause_from : List ℕ → ℕ → ℕ → ℕ → ℕ → Next
unfolding token_of between_from
clause_from s n zero first at = refused 6 first
clause_from s n (suc k) first at =
    let end = token_end s at in
    let rest = clause_from s n k first (between s end) in
    let here = after_token (token_of n (slice at end s)) first at end rest in cond (ltb at (length s)) here (refused 6 first)

-- The token at `first` where `left` clauses are wanted yet. 5 "clauses too few or too many": "the first token too many, or the length";
-- "after the last clause any token is 5; an open clause is 6, not 5".
unfoldable pub clause_at : List ℕ → ℕ → ℕ → ℕ → Next
unfolding clause_from
clause_at s n zero first = cond (ltb first (length s)) (refused 5 first) ended
clause_at s n (suc left) first =
    let here = clause_from s n (length s - first) first first in cond (ltb first (length s)) here (refused 5 (length s))

-- The next clause from `at` on, in a formula of n variables, where `left` clauses are wanted yet.
unfoldable pub next_clause : List ℕ → ℕ → ℕ → ℕ → Next
unfolding clause_at between_from
next_clause s n left at = clause_at s n left (between s at)

-- ---- the formula

-- The clauses in file order, each with the place of its first token, up to the end or to a refusal. "Tokens are judged in file
-- order, and a clause is made as it closes": a clause is made before what follows it is looked at.
pub data Reading : Type 0 where
  clause : List meaning.Literal → ℕ → Reading → Reading
  complete : Reading
  refusal : ℕ → ℕ → Reading

abbrev pub reading_then : Next → (ℕ → Reading) → Reading
reading_then (closed ls first next) rest = clause ls first (rest next)
reading_then ended rest = complete
reading_then (refused number place) rest = refusal number place

unfoldable pub clauses_from : List ℕ → ℕ → ℕ → ℕ → Reading
unfolding next_clause
clauses_from s n zero at = reading_then (next_clause s n zero at) (λ next. complete)
clauses_from s n (suc left) at = reading_then (next_clause s n (suc left) at) (λ next. clauses_from s n left next)

abbrev pub after_header : List ℕ → Header → Reading
after_header s (Proper n clauses at) = clauses_from s n clauses at
after_header s (Improper number place) = refusal number place

unfoldable pub formula : List ℕ → Reading
unfolding header clauses_from
formula s = after_header s (header s)
