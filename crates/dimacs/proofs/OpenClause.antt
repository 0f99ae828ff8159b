-- One step of an open clause, for which the bytes left are steps enough, and the set that the code gathers: what is to be read is what is
-- left to be read, with the literals so far. Assumes nothing.
use mathlib.Core.Path.{◌≡◌, refl, ap, sym, ◌∙◌}
use mathlib.Core.Bool.{Bool}
use mathlib.Core.List.{List}
use Prim.Native.Nat.{ℕ, zero, suc, ◌+◌, ◌-◌, ◌≤◌, ◌<◌}
use native.Mathlib.Omega.{arith}
use lib.ListN.{length}
use lib.Seq.{slice, length-slice}
use lib.Dec.{ltb}
use borrow.Author.Tests.{lt-ltb, le-ltb, ltb-true, ltb-false}
use Rattle.std.specs.Prelude.{None, Some, Result, Ok, Err}
use Rattle.meaning.specs.Operations as meaning
use Rattle.dimacs.specs.declared.ClosedClause.{ClosedClause}
use Rattle.dimacs.specs.declared.Refusal.{Refusal}
use Rattle.dimacs.specs.Text.{is_token, token_end, between}
use Rattle.dimacs.specs.Numbers.{Token, Closing, Literal, Wrong, token_of}
use Rattle.dimacs.specs.Clauses.{Next, closed, ended, refused, literal_then, after_token, clause_from, next_clause}
use Rattle.dimacs.specs.Inner.{clause_after, clause_of, open_of, closed_with, refusal_at}
use Rattle.words.specs.declared.Literals.{Literals}
use Rattle.words.specs.Sets.{no_literals, with_literal, with_all}
use Rattle.dimacs.proofs.Cases.{by}
use Rattle.dimacs.proofs.Runs.{past-most}
use Rattle.dimacs.proofs.Between.{between-least}
use Rattle.dimacs.proofs.Tokens.{literal-bounds}

-- ---- steps

module _ (s : List ℕ) (n : ℕ) where
  -- What the token at `at` says.
  abbrev pub token_at : ℕ → Token
  token_at at = token_of n (slice at (token_end s at) s)

  -- The place of the token after it.
  abbrev pub next_at : ℕ → ℕ
  next_at at = between s (token_end s at)

  pub clause-end : (k first at : ℕ) → length s ≤ at → clause_from s n k first at ≡ refused 6 first
  unfolding clause_from
  clause-end zero first at h = refl
  clause-end (suc k) first at h = rw (le-ltb at (length s) h)

  pub clause-suc : (k first at : ℕ) → at < length s
      → clause_from s n (suc k) first at ≡ after_token (token_at at) first at (token_end s at) (clause_from s n k first (next_at at))
  unfolding clause_from
  clause-suc k first at h = rw (lt-ltb at (length s) h)

  -- A literal's token has bytes, so the next token lies behind it.
  pub literal-moves : (at end v : ℕ) (b : Bool) → at < length s → end ≡ token_end s at → token_of n (slice at end s) ≡ Literal v b →
      at < end
  literal-moves at end v b h is e =
      let most : end ≤ length s = rw is (past-most is_token s at (omega arith)) in
      omega (arith, (literal-bounds n (slice at end s) v b e).some, length-slice at end s most)

  after_cong : (t : Token) (first at end : ℕ) (x y : Next) → ((v : ℕ) (b : Bool) → t ≡ Literal v b → x ≡ y)
      → after_token t first at end x ≡ after_token t first at end y
  after_cong Closing first at end x y h = refl
  after_cong (Wrong k) first at end x y h = refl
  after_cong (Literal v b) first at end x y h = ap (λ (z : Next). literal_then (record { variable = v; positive = b }) z) (h v b refl)

  -- Steps for each byte left are enough.
  pub clause-fuel : (k m first at : ℕ) → length s ≤ at + k → length s ≤ at + m → clause_from s n k first at ≡ clause_from s n m first at
  clause-fuel zero m first at h g = clause-end zero first at (omega arith) ∙ sym (clause-end m first at (omega arith))
  clause-fuel (suc k) zero first at h g = clause-end (suc k) first at (omega arith) ∙ sym (clause-end zero first at (omega arith))
  clause-fuel (suc k) (suc m) first at h g =
      by (ltb at (length s))
      (λ t. let inside : at < length s = ltb-true at (length s) t in
      clause-suc k first at inside
      ∙ after_cong (token_at at) first at (token_end s at) (clause_from s n k first (next_at at)) (clause_from s n m first (next_at at))
      (λ v b e. clause-fuel k m first (next_at at)
      (omega (arith, literal-moves at (token_end s at) v b inside refl e, between-least s (token_end s at)))
      (omega (arith, literal-moves at (token_end s at) v b inside refl e, between-least s (token_end s at))))
      ∙ sym (clause-suc m first at inside))
      (λ f. let outside : length s ≤ at = ltb-false at (length s) f in clause-end (suc k) first at outside
      ∙ sym (clause-end (suc m) first at outside))

-- ---- the code's set

pub literal-set : (u : Literals) (v : ℕ) (b : Bool) (x : Next) → clause_after u (literal_then (record { variable = v; positive = b }) x)
    ≡ clause_after (with_literal u v b) x
unfolding clause_after
literal-set u v b (closed ls first next) = refl
literal-set u v b ended = refl
literal-set u v b (refused number place) = refl

-- An open clause from `at` on, with the literals so far.
abbrev pub rest_of : List ℕ → ℕ → ℕ → Literals → ℕ → Result ClosedClause Refusal
rest_of s n first u at = clause_after u (clause_from s n (length s - at) first at)

module _ (s : List ℕ) (n first : ℕ) (u : Literals) (at : ℕ) where
  pub rest-open : length s ≤ at → rest_of s n first u at ≡ Err (refusal_at 6 first)
  unfolding clause_after
  rest-open h = ap (clause_after u) (clause-end s n (length s - at) first at h)

  module _ (inside : at < length s) where
    steps : length s - at ≡ suc (length s - (at + 1))
    steps = omega arith

    here : rest_of s n first u at
        ≡ clause_after u (after_token (token_at s n at) first at (token_end s at)
        (clause_from s n (length s - (at + 1)) first (next_at s n at)))
    here = rw steps (ap (clause_after u) (clause-suc s n (length s - (at + 1)) first at inside))

    module _ (end : ℕ) (is : end ≡ token_end s at) where
      pub rest-closing : token_of n (slice at end s) ≡ Closing
          → rest_of s n first u at ≡ Ok (closed_with u first end)
      unfolding clause_after with_all
      rest-closing e = here ∙ rw (sym is, e)

      pub rest-wrong : (k : ℕ) → token_of n (slice at end s) ≡ Wrong k → rest_of s n first u at ≡ Err (refusal_at k at)
      unfolding clause_after
      rest-wrong k e = here ∙ rw (sym is, e)

      pub rest-literal : (v : ℕ) (b : Bool) (next : ℕ) (u' : Literals) → token_of n (slice at end s) ≡ Literal v b → next ≡ between s end
          → u' ≡ with_literal u v b → rest_of s n first u at ≡ rest_of s n first u' next
      rest-literal v b next u' e f g =
          let later : clause_from s n (length s - (at + 1)) first (between s end)
          ≡ clause_from s n (length s - between s end) first (between s end) =
          clause-fuel s n (length s - (at + 1)) (length s - between s end) first (between s end)
          (omega (arith, literal-moves s n at end v b inside is e, between-least s end)) (omega arith) in
          here ∙ rw (sym is, e, literal-set u v b, later, sym f, sym g)

-- ---- what comes next

-- A clause or a refusal: the reader of a clause never comes to `ended`.
abbrev Goes : Next → Type 0
Goes (closed ls first next) = Unit {0}
Goes ended = ⊥
Goes (refused number place) = Unit {0}

literal-goes : (l : meaning.Literal) (x : Next) → Goes x → Goes (literal_then l x)
literal-goes l (closed ls first next) g = tt
literal-goes l ended g = g
literal-goes l (refused number place) g = tt

after-goes : (t : Token) (first at end : ℕ) (x : Next) → Goes x → Goes (after_token t first at end x)
after-goes Closing first at end x g = tt
after-goes (Literal v b) first at end x g = literal-goes (record { variable = v; positive = b }) x g
after-goes (Wrong k) first at end x g = tt

clause-goes : (s : List ℕ) (n k first at : ℕ) → Goes (clause_from s n k first at)
unfolding clause_from
clause-goes s n zero first at = tt
clause-goes s n (suc k) first at =
    by (ltb at (length s))
    (λ t. rw t (after-goes (token_at s n at) first at (token_end s at) (clause_from s n k first (next_at s n at))
    (clause-goes s n k first (next_at s n at))))
    (λ f. rw f tt)

closed-so : (x : Next) → Goes x → (w : ClosedClause) → Ok w ≡ open_of x → Ok (Some w) ≡ clause_of x
unfolding clause_after clause_of
closed-so (closed ls f next) g w e = let q : w ≡ closed_with (with_all no_literals ls) f next = cc in rw q
closed-so ended g w e = absurd g
closed-so (refused number place) g w e = cc

refused-so : (x : Next) → Goes x → (r : Refusal) → Err r ≡ open_of x → Err r ≡ clause_of x
unfolding clause_after clause_of
refused-so (closed ls f next) g r e = cc
refused-so ended g r e = absurd g
refused-so (refused number place) g r e = let q : r ≡ refusal_at number place = cc in rw q

module _ (s : List ℕ) (n k first at : ℕ) where
  pub closed-next : (w : ClosedClause) → Ok w ≡ open_of (clause_from s n k first at) → Ok (Some w) ≡ clause_of (clause_from s n k first at)
  closed-next w e = closed-so (clause_from s n k first at) (clause-goes s n k first at) w e

  pub refused-next : (r : Refusal) → Err r ≡ open_of (clause_from s n k first at) → Err r ≡ clause_of (clause_from s n k first at)
  refused-next r e = refused-so (clause_from s n k first at) (clause-goes s n k first at) r e

module _ (s : List ℕ) (n at first : ℕ) (is : first ≡ between s at) where
  pub next-many : (left : ℕ) → first < length s → left ≡ 0 → clause_of (next_clause s n left at) ≡ Err (refusal_at 5 first)
  unfolding next_clause clause_of
  next-many left h e = rw (e, sym is, lt-ltb first (length s) h)

  pub next_here : (left : ℕ) → first < length s → (left ≡ 0 → ⊥) → next_clause s n left at ≡ clause_from s n (length s - first) first first
  unfolding next_clause
  next_here left h e =
      let more : left ≡ suc (left - 1) = omega (arith, e) in rw (more, sym is, lt-ltb first (length s) h)

  pub next-end : (left : ℕ) → length s ≤ first → left ≡ 0 → clause_of (next_clause s n left at) ≡ Ok None
  unfolding next_clause clause_of
  next-end left h e = rw (e, sym is, le-ltb first (length s) h)

  pub next-few : (left : ℕ) → first ≡ length s → (left ≡ 0 → ⊥) → clause_of (next_clause s n left at) ≡ Err (refusal_at 5 first)
  unfolding next_clause clause_of
  next-few left h e =
      let more : left ≡ suc (left - 1) = omega (arith, e) in rw (more, sym is, le-ltb first (length s) (omega arith), h)
