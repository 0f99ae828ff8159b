-- What the reader answers lies within bounds: places within the text, a header within its limits, a clause's variables within
-- the header. Each is a predicate on the answer, shown of the definition. Assumes nothing.
use mathlib.Core.Path.{◌≡◌, refl, sym, subst, ◌∙◌}
use mathlib.Core.Bool.{Bool, true, false, cond, ◌&&◌}
use mathlib.Core.List.{List}
use Prim.Native.Nat.{ℕ, zero, suc, ◌-◌, ◌≤◌, ◌<◌}
use native.Mathlib.Omega.{arith}
use lib.ListN.{length}
use lib.Seq.{slice}
use lib.Dec.{ltb, leb}
use borrow.Author.Tests.{ltb-true, ltb-false, leb-true}
use Rattle.meaning.specs.Literals.{OfVariables}
use Rattle.dimacs.specs.Text.{is_token, is_space, is_line, token_end, line_end, between}
use Rattle.dimacs.specs.Numbers.{Token, Closing, Literal, Wrong, value_of_digits}
use Rattle.dimacs.specs.Header.{Header, Proper, Improper, judged_from, next_word, word, is_header, header_at, header}
use Rattle.dimacs.specs.Clauses.{Next, closed, ended, refused, literal_then, after_token, clause_from, clause_at, next_clause}
use Rattle.dimacs.proofs.Cases.{by, clash}
use Rattle.dimacs.proofs.Runs.{past-most}
use Rattle.dimacs.proofs.Between.{between-most}
use Rattle.dimacs.proofs.Tokens.{literal-bounds}
use Rattle.dimacs.proofs.OpenClause.{token_at, next_at, clause-suc, clause-end}

-- ---- the header

-- A header of s within the limits, a refusal within s.
abbrev pub HeaderIn : List ℕ → Header → Type 0
HeaderIn s (Proper n clauses at) = (n ≤ 64) × (clauses ≤ 1024) × (at ≤ length s)
HeaderIn s (Improper number place) = place ≤ length s

cond-in : (s : List ℕ) (t : Bool) (x y : Header) → (t ≡ true → HeaderIn s x) → HeaderIn s y → HeaderIn s (cond t x y)
cond-in s true x y h k = h refl
cond-in s false x y h k = k

limits : (v c : ℕ) → (leb v 64 && leb c 1024) ≡ true → (v ≤ 64) × (c ≤ 1024)
limits v c e =
    by (leb v 64)
    (λ t. by (leb c 1024) (λ u. (leb-true v 64 t, leb-true c 1024 u)) (λ u. clash (sym e ∙ rw (t, u))))
    (λ f. clash (sym e ∙ rw f))

word_in : (s : List ℕ) (at : ℕ) → at ≤ length s → next_word s at ≤ length s
unfolding next_word
word_in s at h = past-most is_space s (token_end s at) (past-most is_token s at h)

header-at-in : (s : List ℕ) (at : ℕ) → at ≤ length s → HeaderIn s (header_at s at)
unfolding header_at
header-at-in s at h =
    let cnf = next_word s at in
    let variables = next_word s cnf in
    let clauses = next_word s variables in
    let v = value_of_digits (word s variables) in
    let c = value_of_digits (word s clauses) in
    let end = past-most is_line s clauses (word_in s variables (word_in s cnf (word_in s at h))) in
    cond-in s (is_header s at cnf variables clauses) (cond (leb v 64 && leb c 1024) (Proper v c (line_end s clauses)) (Improper 2 at))
    (Improper 1 at)
    (λ f. cond-in s (leb v 64 && leb c 1024) (Proper v c (line_end s clauses)) (Improper 2 at)
    (λ e. ((limits v c e).0, (limits v c e).1, end))
    h)
    h

pub header-in : (s : List ℕ) → HeaderIn s (header s)
unfolding header
header-in s =
    let at = judged_from s (length s) 0 in
    cond-in s (ltb at (length s)) (header_at s at) (Improper 1 (length s))
    (λ t. let inside : at < length s = ltb-true at (length s) t in header-at-in s at (omega arith))
    (omega arith)

-- ---- the clauses

-- A clause of s within n variables, a refusal within s.
abbrev pub NextIn : List ℕ → ℕ → Next → Type 0
NextIn s n (closed ls first next) = (first < length s) × (next ≤ length s) × OfVariables n ls
NextIn s n ended = Unit {0}
NextIn s n (refused number place) = place ≤ length s

literal-in : (s : List ℕ) (n v : ℕ) (b : Bool) (x : Next) → 1 ≤ v → v ≤ n → NextIn s n x →
    NextIn s n (literal_then (record { variable = v; positive = b }) x)
literal-in s n v b (closed ls first next) l m h = (h.0, h.1, (l, m, h.2))
literal-in s n v b ended l m h = tt
literal-in s n v b (refused number place) l m h = h

module _ (s : List ℕ) (n first : ℕ) (inside : first < length s) where
  after-in : (t : Token) (at end : ℕ) (x : Next) → at < length s → end ≤ length s →
      ((v : ℕ) (b : Bool) → t ≡ Literal v b → (1 ≤ v) × (v ≤ n)) → NextIn s n x
      → NextIn s n (after_token t first at end x)
  after-in Closing at end x h k l i = (inside, k, tt)
  after-in (Wrong number) at end x h k l i = omega arith
  after-in (Literal v b) at end x h k l i = literal-in s n v b x (l v b refl).0 (l v b refl).1 i

  clause-zero : (at : ℕ) → NextIn s n (clause_from s n zero first at)
  unfolding clause_from
  clause-zero at = omega arith

  clause-in : (k at : ℕ) → NextIn s n (clause_from s n k first at)
  clause-in zero at = clause-zero at
  clause-in (suc k) at =
      by (ltb at (length s))
      (λ t. let here : at < length s = ltb-true at (length s) t in
      subst (NextIn s n) (sym (clause-suc s n k first at here))
      (after-in (token_at s n at) at (token_end s at) (clause_from s n k first (next_at s n at)) here
      (past-most is_token s at (omega arith))
      (λ v b e. let l = literal-bounds n (slice at (token_end s at) s) v b e in (l.least, l.most)) (clause-in k (next_at s n at))))
      (λ f. subst (NextIn s n) (sym (clause-end s n (suc k) first at (ltb-false at (length s) f))) (omega arith))

next-cond : (s : List ℕ) (n : ℕ) (t : Bool) (x y : Next) → (t ≡ true → NextIn s n x) → NextIn s n y → NextIn s n (cond t x y)
next-cond s n true x y h k = h refl
next-cond s n false x y h k = k

clause-at-in : (s : List ℕ) (n left first : ℕ) → first ≤ length s → NextIn s n (clause_at s n left first)
unfolding clause_at
clause-at-in s n zero first h = next-cond s n (ltb first (length s)) (refused 5 first) ended (λ t. h) tt
clause-at-in s n (suc left) first h =
    next-cond s n (ltb first (length s)) (clause_from s n (length s - first) first first) (refused 5 (length s))
    (λ t. clause-in s n first (ltb-true first (length s) t) (length s - first) first) (omega arith)

pub next-in : (s : List ℕ) (n left at : ℕ) → at ≤ length s → NextIn s n (next_clause s n left at)
unfolding next_clause
next-in s n left at h = clause-at-in s n left (between s at) (between-most s at h)
