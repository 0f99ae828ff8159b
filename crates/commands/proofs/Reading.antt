-- What the reader of a text's clause answers: its places lie in the text and go on, its literals are the header's, its pivot is what its
-- first token says; and the command that the code makes of it. The idea: by the token at hand. Assumes nothing.
use mathlib.Core.Path.{◌≡◌, refl, sym, subst}
use mathlib.Core.Logic.{◌≢◌}
use mathlib.Core.Bool.{Bool, true, false, not, cond}
use mathlib.Core.List.{List, [], ◌∷◌}
use Prim.Native.Nat.{ℕ, zero, suc, ◌+◌, ◌-◌, ◌≤◌, ◌<◌}
use native.Mathlib.Omega.{arith}
use lib.ListN.{length}
use lib.Seq.{slice, length-slice}
use lib.Dec.{ltb, leb}
use borrow.Author.Tests.{ltb-true, ltb-false}
use Rattle.meaning.specs.Operations as meaning
use Rattle.meaning.specs.Literals.{OfVariables}
use Rattle.words.specs.Sets.{literals_of}
use Rattle.dimacs.specs.declared.ClosedClause.{ClosedClause}
use Rattle.dimacs.specs.declared.Literal as code_literal
use Rattle.dimacs.specs.declared.Refusal.{Refusal}
use Rattle.std.specs.Prelude.{Option, None, Result, Ok, Err}
use Rattle.std.specs.Result.{result_unwrap_or}
use Rattle.dimacs.specs.Text.{is_token, token_end}
use Rattle.dimacs.specs.Numbers.{Token, Closing, Literal, Wrong, is_zero, is_number, unsigned, has_minus, value_of_digits, token_of}
use Rattle.dimacs.specs.Clauses.{Next, closed, ended, refused, literal_then, after_token, clause_from}
use Rattle.dimacs.specs.Inner.{clause_after, open_of, closed_with, refusal_at, token_read}
use Rattle.dimacs.proofs.Cases.{by}
use Rattle.dimacs.proofs.Runs.{past-least, past-most}
use Rattle.dimacs.proofs.Between.{between-least}
use Rattle.dimacs.proofs.Tokens.{literal-bounds}
use Rattle.dimacs.proofs.OpenClause.{token_at, next_at, clause-suc, clause-end}
use Rattle.commands.specs.declared.Command as code
use Rattle.commands.specs.declared.Read as code_read
use Rattle.commands.specs.Commands.{clause_read}
use Rattle.commands.specs.Inner.{pivot_of, pivot_at, clause_words, command_for, clause_command, read_of}

-- ---- places and literals

-- The number of a fault of form at its place: 3 or 4, or 6 at the clause's first byte.
abbrev pub Fault : ℕ → ℕ → ℕ → Type 0
Fault first number place = (3 ≤ number) × (number ≤ 6) × (number ≢ 5) × (number ≡ 6 → place ≡ first)

-- A clause of s whose literals stand from `at` on closes behind that place and is within n variables; a refusal is at `first` or behind it
-- and is such a fault.
abbrev pub ClauseIn : (ℕ → ℕ → ℕ → Type 0) → List ℕ → ℕ → ℕ → ℕ → Next → Type 0
ClauseIn F s n first at (closed ls f next) = (at < next) × (next ≤ length s) × OfVariables n ls
ClauseIn F s n first at (refused number place) = (first ≤ place) × (place ≤ length s) × F first number place
ClauseIn F s n first at ended = ⊥

-- a closing token has bytes
closing-some : (n : ℕ) (bs : List ℕ) → token_of n bs ≡ Closing → 0 < length bs
unfolding token_of
closing-some n [] e = let z : ◌≡◌ {A = ℕ} 0 1 = cc in absurd (omega arith)
closing-some n (b ∷ bs) e = omega arith

-- a wrong token is 3 or 4
abbrev FaultToken : Token → Type 0
FaultToken Closing = Unit {0}
FaultToken (Literal v b) = Unit {0}
FaultToken (Wrong number) = (3 ≤ number) × (number ≤ 4)

token-fault : (n : ℕ) (bs : List ℕ) → FaultToken (token_of n bs)
unfolding token_of
token-fault n bs = go (is_zero bs) (is_number bs) (leb (value_of_digits (unsigned bs)) n)
  where
    go : (z d w : Bool) → FaultToken (cond z Closing
        (cond d (cond w (Literal (value_of_digits (unsigned bs)) (not (has_minus bs))) (Wrong 4)) (Wrong 3)))
    go true d w = tt
    go false false w = (omega arith, omega arith)
    go false true true = tt
    go false true false = (omega arith, omega arith)

closing-moves : (s : List ℕ) (n at : ℕ) → at < length s → token_at s n at ≡ Closing → at < token_end s at
closing-moves s n at h e =
    let most : token_end s at ≤ length s = past-most is_token s at (omega arith) in
    omega (arith, closing-some n (slice at (token_end s at) s) e, length-slice at (token_end s at) s most)

module _ (F : ℕ → ℕ → ℕ → Type 0) (s : List ℕ) (n first : ℕ) where
  pub later : (at next : ℕ) (x : Next) → at ≤ next → ClauseIn F s n first next x → ClauseIn F s n first at x
  later at next (closed ls f end) le h = (omega (arith, h.0), h.1, h.2)
  later at next (refused number place) le h = h
  later at next ended le h = h

  pub with_in : (v : ℕ) (b : Bool) (at : ℕ) (x : Next) → 1 ≤ v → v ≤ n → ClauseIn F s n first at x
      → ClauseIn F s n first at (literal_then (record { variable = v; positive = b }) x)
  with_in v b at (closed ls f end) lo hi h = (h.0, h.1, (lo, hi, h.2))
  with_in v b at (refused number place) lo hi h = h
  with_in v b at ended lo hi h = h

module _ (s : List ℕ) (n first : ℕ) where
  after-in : (t : Token) (at : ℕ) (x : Next) → first ≤ at → at < length s → token_at s n at ≡ t →
      ClauseIn Fault s n first (next_at s n at) x
      → ClauseIn Fault s n first at (after_token t first at (token_end s at) x)
  after-in Closing at x lo hi e h = (closing-moves s n at hi e, past-most is_token s at (omega arith), tt)
  after-in (Wrong number) at x lo hi e h =
      let f : FaultToken (Wrong number) = subst FaultToken e (token-fault n (slice at (token_end s at) s)) in
      (lo, omega arith, (omega (arith, f.0), omega (arith, f.1), (λ q. omega (arith, f.1)), (λ q. absurd (omega (arith, f.1)))))
  after-in (Literal v b) at x lo hi e h =
      let l = literal-bounds n (slice at (token_end s at) s) v b e in
      with_in Fault s n first v b at x l.least l.most
      (later Fault s n first at (next_at s n at) x (omega (arith, past-least is_token s at, between-least s (token_end s at))) h)

  at_first : Fault first 6 first
  at_first = (omega arith, omega arith, (λ q. omega arith), (λ _. refl))

  open_in : (at : ℕ) → first ≤ length s → ClauseIn Fault s n first at (clause_from s n zero first at)
  unfolding clause_from
  open_in at h = (omega arith, h, at_first)

  pub clause-in : (k at : ℕ) → first ≤ at → first ≤ length s → ClauseIn Fault s n first at (clause_from s n k first at)
  clause-in zero at lo h = open_in at h
  clause-in (suc k) at lo h =
      by (ltb at (length s))
      (λ t. let inside : at < length s = ltb-true at (length s) t in
      subst (ClauseIn Fault s n first at) (sym (clause-suc s n k first at inside))
      (after-in (token_at s n at) at (clause_from s n k first (next_at s n at)) lo inside refl
      (clause-in k (next_at s n at) (omega (arith, past-least is_token s at, between-least s (token_end s at))) h)))
      (λ f. subst (ClauseIn Fault s n first at) (sym (clause-end s n (suc k) first at (ltb-false at (length s) f)))
      (omega arith, h, at_first))

-- ---- the pivot

-- A clause that closes has that pivot.
abbrev pub PivotIs : Option code_literal.Literal → Next → Type 0
PivotIs p (closed ls f next) = pivot_of ls ≡ p
PivotIs p (refused number place) = Unit {0}
PivotIs p ended = Unit {0}

-- what a token says of a clause that begins with it
pub after-pivot : (t : Token) (first at end : ℕ) (x : Next) → PivotIs (pivot_at t) (after_token t first at end x)
after-pivot Closing first at end x = refl
after-pivot (Wrong number) first at end x = tt
after-pivot (Literal v b) first at end x = with x
  where
    with : (x : Next) → PivotIs (pivot_at (Literal v b)) (literal_then (record { variable = v; positive = b }) x)
    with (closed ls f next) = refl
    with (refused number place) = tt
    with ended = tt

pub pivot-is : (s : List ℕ) (n k first at : ℕ) → PivotIs (pivot_at (token_at s n at)) (clause_from s n k first at)
unfolding clause_from
pivot-is s n zero first at = tt
pivot-is s n (suc k) first at =
    by (ltb at (length s))
    (λ t. subst (PivotIs (pivot_at (token_at s n at))) (sym (clause-suc s n k first at (ltb-true at (length s) t)))
    (after-pivot (token_at s n at) first at (token_end s at) (clause_from s n k first (next_at s n at))))
    (λ f. subst (PivotIs (pivot_at (token_at s n at))) (sym (clause-end s n (suc k) first at (ltb-false at (length s) f))) tt)

-- ---- the code's answers

module _ (onward : ℕ → ℕ) (first : ℕ) (strikes : Bool) where
  abbrev answer : Next → Result code_read.Read Refusal
  answer x = read_of first (clause_read onward first (command_for strikes) x)

  words : (b : Bool) (ls : List meaning.Literal) (next : ℕ)
      → read_of first (record { command = command_for b ls; next = next })
      ≡ Ok (record { command = clause_command b (clause_words ls); next = next })
  words true ls next = refl
  words false ls next = refl

  pub answer-closed : (x : Next) (c : ClosedClause) (p p' : Option code_literal.Literal) (next : ℕ) (command : code.Command) → Ok c
      ≡ open_of x → p ≡ p' → PivotIs p' x
      → next ≡ onward c.next → command ≡ clause_command strikes (record { literals = c.literals; pivot = p }) →
      Ok (record { command = command; next = next }) ≡ answer x
  unfolding clause_after
  answer-closed (closed ls f end) c p p' next command e r q is m =
      let same : c ≡ closed_with (literals_of ls) f end = cc in
      rw (words strikes ls (onward end), q, m, is, same, r)
  answer-closed (refused number place) c p p' next command e r q is m = cc
  answer-closed ended c p p' next command e r q is m = cc

  pub answer-refused : (F : ℕ → ℕ → ℕ → Type 0) (s : List ℕ) (n at : ℕ) (x : Next) (r : Refusal) → ClauseIn F s n first at x
      → Err r ≡ open_of x → Err r ≡ answer x
  unfolding clause_after
  answer-refused F s n at (closed ls f end) r h e = cc
  answer-refused F s n at (refused k place) r h e =
      let same : r ≡ refusal_at k place = cc in
      let there : first + (place - first) ≡ place = omega (arith, h.0) in
      rw (same, there)
  answer-refused F s n at ended r h e = absurd h

module _ (F : ℕ → ℕ → ℕ → Type 0) (s : List ℕ) (n first at : ℕ) where
  pub closed_in : (x : Next) (c : ClosedClause) → ClauseIn F s n first at x → Ok c ≡ open_of x → c.next ≤ length s
  unfolding clause_after
  closed_in (closed ls f end) c h e =
      let same : c ≡ closed_with (literals_of ls) f end = cc in subst (λ (c : ClosedClause). c.next ≤ length s) (sym same) h.1
  closed_in (refused number place) c h e = cc
  closed_in ended c h e = absurd h

-- the pivot by what the code reads of the first token
pub pivot-read : (t : Token) → result_unwrap_or (token_read t) None ≡ pivot_at t
pivot-read Closing = refl
pivot-read (Literal v b) = refl
pivot-read (Wrong k) = refl
