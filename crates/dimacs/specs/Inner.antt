-- What the inner functions answer in the code's own types. No call open to others cites this file.
use Rattle.std.specs.Prelude.{Bool, cond, List, ℕ, eqb, ltb, Option, None, Some, Result, Ok, Err}
use Rattle.words.specs.declared.Literals.{Literals}
use Rattle.words.specs.Sets.{no_literals, with_all}
use Rattle.dimacs.specs.declared.text.Class.{Class}
use Rattle.dimacs.specs.declared.text.Class.TheVariants.{Space, Blank, Parting, Token as TokenByte, Line}
use Rattle.dimacs.specs.declared.Literal as code_literal
use Rattle.dimacs.specs.declared.Header as code_header
use Rattle.dimacs.specs.declared.Refusal.{Refusal}
use Rattle.dimacs.specs.declared.ClosedClause.{ClosedClause}
use Rattle.dimacs.specs.Text.{is_space, is_blank, is_parting, is_token, is_line}
use Rattle.dimacs.specs.Numbers.{Token, Closing, Literal, Wrong, all_digits, is_natural, value_after, value_of_digits}
use Rattle.dimacs.specs.Header.{Header, Proper, Improper}
use Rattle.dimacs.specs.Clauses.{Next, closed, ended, refused}

-- The classes of bytes that the code names.
abbrev pub admitted : Class → ℕ → Bool
admitted Space b = is_space b
admitted Blank b = is_blank b
admitted Parting b = is_parting b
admitted TokenByte b = is_token b
admitted Line b = is_line b

-- ---- the code's numbers, cut off above the header's limits

-- A number that the code tells apart from others up to 1,024.
abbrev pub capped : ℕ → ℕ
capped v = cond (ltb 1024 v) 1025 v

-- Digits read after the value n.
abbrev pub digits_after : ℕ → List ℕ → Option ℕ
digits_after n bs = cond (all_digits bs) (Some (capped (value_after n bs))) None

abbrev pub natural_of : List ℕ → Option ℕ
natural_of bs = cond (is_natural bs) (Some (capped (value_of_digits bs))) None

-- A token with or without a minus, by the number behind it.
abbrev pub signed_token : ℕ → Bool → Option ℕ → Token
signed_token n positive None = Wrong 3
signed_token n positive (Some v) =
    cond (eqb v 0) (cond positive Closing (Wrong 3)) (cond (ltb n v) (Wrong 4) (Literal v positive))

-- ---- the code's answers

abbrev pub refusal_at : ℕ → ℕ → Refusal
refusal_at number place = record { number = number; place = place }

abbrev pub literal_at : ℕ → Bool → code_literal.Literal
literal_at v b = record { variable = v; positive = b }

-- A literal, none for a closing 0, or the number of the token's fault.
abbrev pub token_read : Token → Result (Option code_literal.Literal) ℕ
token_read Closing = Ok None
token_read (Literal v b) = Ok (Some (literal_at v b))
token_read (Wrong k) = Err k

abbrev pub header_read : Header → Result code_header.Header Refusal
header_read (Proper n clauses end) = Ok (record { variables = n; clauses = clauses; end = end })
header_read (Improper number place) = Err (refusal_at number place)

-- ---- a clause's literals as a set

abbrev pub closed_with : Literals → ℕ → ℕ → ClosedClause
closed_with literals first next = record { literals = literals; first = first; next = next }

-- What the code gives of an open clause, with the literals read before. The reader of a clause never comes to `ended`.
unfoldable pub clause_after : Literals → Next → Result ClosedClause Refusal
unfolding with_all
clause_after before (closed ls first next) = Ok (closed_with (with_all before ls) first next)
clause_after before ended = Err (refusal_at 6 0)
clause_after before (refused number place) = Err (refusal_at number place)

abbrev pub open_of : Next → Result ClosedClause Refusal
open_of next = clause_after no_literals next

-- What the code gives of what comes next: a clause, or none at the end.
unfoldable pub clause_of : Next → Result (Option ClosedClause) Refusal
unfolding with_all
clause_of (closed ls first next) = Ok (Some (closed_with (with_all no_literals ls) first next))
clause_of ended = Ok None
clause_of (refused number place) = Err (refusal_at number place)
