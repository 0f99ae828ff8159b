-- The formula read: its clauses are no more than the header says and have its variables alone, and a refusal has a number from 1 to 6. The
-- idea: a predicate on what is read, shown token by token. Assumes nothing.
use mathlib.Core.Bool.{Bool, true, false, not, ◌&&◌, cond}
use mathlib.Core.List.{List}
use Prim.Native.Nat.{ℕ, zero, suc, ◌-◌, ◌≤◌}
use native.Mathlib.Omega.{arith}
use lib.ListN.{length}
use lib.Seq.{slice}
use lib.Dec.{ltb, leb}
use Rattle.meaning.specs.Literals.{OfVariables}
use Rattle.dimacs.specs.Text.{token_end, between}
use Rattle.dimacs.specs.Numbers.{Token, Closing, Literal, Wrong, is_zero, is_number, unsigned, has_minus, value_of_digits, token_of}
use Rattle.dimacs.specs.Header.{Header, Proper, Improper, judged_from, next_word, word, is_header, header_at, header}
use Rattle.dimacs.specs.Clauses.{Next, closed, ended, refused, literal_then, after_token, clause_from, clause_at, next_clause, Reading}
use Rattle.dimacs.specs.Clauses.{clause}
use Rattle.dimacs.specs.Clauses.{complete, refusal, reading_then, clauses_from}
use Rattle.dimacs.proofs.Bounds.{NextIn, next-in}

-- ---- a refusal has a number from 1 to 6

abbrev pub Early : ℕ → Type 0
Early number = (1 ≤ number) × (number ≤ 6)

abbrev NamedToken : Token → Type 0
NamedToken Closing = Unit {0}
NamedToken (Literal v b) = Unit {0}
NamedToken (Wrong number) = Early number

abbrev NamedNext : Next → Type 0
NamedNext (closed ls first next) = Unit {0}
NamedNext ended = Unit {0}
NamedNext (refused number place) = Early number

abbrev pub NamedHeader : Header → Type 0
NamedHeader (Proper n many at) = Unit {0}
NamedHeader (Improper number place) = Early number

pub either : {A : Type 0} (P : A → Type 0) (c : Bool) (x y : A) → P x → P y → P (cond c x y)
either P true x y p q = p
either P false x y p q = q

token-named : (n : ℕ) (bs : List ℕ) → NamedToken (token_of n bs)
unfolding token_of
token-named n bs =
    let v : ℕ = value_of_digits (unsigned bs) in
    let literal : Token = cond (leb v n) (Literal v (not (has_minus bs))) (Wrong 4) in
    either NamedToken (is_zero bs) Closing (cond (is_number bs) literal (Wrong 3)) tt
    (either NamedToken (is_number bs) literal (Wrong 3)
    (either NamedToken (leb v n) (Literal v (not (has_minus bs))) (Wrong 4) tt ((omega arith, omega arith)))
    ((omega arith, omega arith)))

literal-named : (v : ℕ) (b : Bool) (x : Next) → NamedNext x → NamedNext (literal_then (record { variable = v; positive = b }) x)
literal-named v b (closed ls first next) h = tt
literal-named v b ended h = tt
literal-named v b (refused number place) h = h

after-named : (t : Token) (first at end : ℕ) (x : Next) → NamedToken t → NamedNext x → NamedNext (after_token t first at end x)
after-named Closing first at end x t h = tt
after-named (Literal v b) first at end x t h = literal-named v b x h
after-named (Wrong number) first at end x t h = t

clause-named : (s : List ℕ) (n k first at : ℕ) → NamedNext (clause_from s n k first at)
unfolding clause_from
clause-named s n zero first at = (omega arith, omega arith)
clause-named s n (suc k) first at =
    let end : ℕ = token_end s at in
    let rest : Next = clause_from s n k first (between s end) in
    either NamedNext (ltb at (length s)) (after_token (token_of n (slice at end s)) first at end rest) (refused 6 first)
    (after-named (token_of n (slice at end s)) first at end rest (token-named n (slice at end s))
    (clause-named s n k first (between s end)))
    ((omega arith, omega arith))

next-named : (s : List ℕ) (n left at : ℕ) → NamedNext (next_clause s n left at)
unfolding next_clause clause_at
next-named s n zero at = either NamedNext (ltb (between s at) (length s)) (refused 5 (between s at)) ended ((omega arith, omega arith)) tt
next-named s n (suc left) at =
    let first : ℕ = between s at in
    either NamedNext (ltb first (length s)) (clause_from s n (length s - first) first first) (refused 5 (length s))
    (clause-named s n (length s - first) first first) ((omega arith, omega arith))

header-at-named : (s : List ℕ) (at : ℕ) → NamedHeader (header_at s at)
unfolding header_at
header-at-named s at =
    let cnf : ℕ = next_word s at in
    let variables : ℕ = next_word s cnf in
    let clauses : ℕ = next_word s variables in
    let v : ℕ = value_of_digits (word s variables) in
    let c : ℕ = value_of_digits (word s clauses) in
    either NamedHeader (is_header s at cnf variables clauses) _ (Improper 1 at)
    (either NamedHeader (leb v 64 && leb c 1024) _ (Improper 2 at) tt ((omega arith, omega arith))) ((omega arith, omega arith))

pub header-named : (s : List ℕ) → NamedHeader (header s)
unfolding header
header-named s =
    let at : ℕ = judged_from s (length s) 0 in
    either NamedHeader (ltb at (length s)) (header_at s at) (Improper 1 (length s)) (header-at-named s at) ((omega arith, omega arith))

-- ---- the clauses

-- At most `left` clauses of n variables, then the end or a refusal.
abbrev pub Read : ℕ → ℕ → Reading → Type 0
Read n zero (clause ls first rest) = ⊥
Read n (suc left) (clause ls first rest) = OfVariables n ls × Read n left rest
Read n left complete = Unit {0}
Read n left (refusal number place) = Early number

none-closed : (s : List ℕ) (n at : ℕ) (rest : ℕ → Reading) → Read n zero (reading_then (next_clause s n zero at) rest)
unfolding next_clause clause_at
none-closed s n at rest = go (ltb (between s at) (length s))
  where
    go : (c : Bool) → Read n zero (reading_then (cond c (refused 5 (between s at)) ended) rest)
    go true = (omega arith, omega arith)
    go false = tt

closed-read : (s : List ℕ) (n left : ℕ) (x : Next) (rest : ℕ → Reading) → NextIn s n x → NamedNext x
    → ((next : ℕ) → next ≤ length s → Read n left (rest next)) → Read n (suc left) (reading_then x rest)
closed-read s n left (closed ls first next) rest i h k = (i.2, k next i.1)
closed-read s n left ended rest i h k = tt
closed-read s n left (refused number place) rest i h k = h

pub clauses-read : (s : List ℕ) (n left at : ℕ) → at ≤ length s → Read n left (clauses_from s n left at)
unfolding clauses_from
clauses-read s n zero at h = none-closed s n at (λ next. complete)
clauses-read s n (suc left) at h =
    closed-read s n left (next_clause s n (suc left) at) (λ next. clauses_from s n left next) (next-in s n (suc left) at h)
    (next-named s n (suc left) at)
    (λ next i. clauses-read s n left next i)
