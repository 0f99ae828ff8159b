-- What is kept for a book stands for that book, and where a call leaves the book as it was every field is as it was lent. The idea: only
-- the stage's byte and that of `refuted` have more than one form, and a lent form is kept. Assumes nothing.
use mathlib.Core.Path.{◌≡◌, refl, sym, ap, ap₂}
use mathlib.Core.Logic.{◌≢◌}
use mathlib.Core.Bool.{Bool, true, false, not, cond}
use Prim.Native.Nat.{ℕ, ◌≤◌}
use native.Mathlib.Omega.{arith}
use lib.Dec.{eqb, ltb}
use borrow.Author.Tests.{ne_eqb, le-ltb, ltb-false, eqb-true, eqb-false}
use Rattle.shares.specs.declared.Stage.{Stage}
use Rattle.shares.specs.declared.Stage.TheVariants.{Formula, Lines, Bound}
use Rattle.shares.specs.declared.Book.{Book}
use Rattle.book_kept.specs.declared.Kept.{Kept}
use Rattle.book_kept.specs.Kept.{stage_of, book_of, bound_byte, flag_byte, kept_with, kept_at, kept_as}

-- ---- the stage

module _ (stage number place : ℕ) where
  pub is_bound : stage ≢ 0 → stage ≢ 1 → Bound number place ≡ stage_of stage number place
  is_bound n m = rw (ne_eqb stage 0 n, ne_eqb stage 1 m)

pub bound-high : (lent : ℕ) → 2 ≤ lent → lent ≡ bound_byte lent
bound-high lent p = rw (le-ltb lent 2 p)

bound-least : (lent : ℕ) → 2 ≤ bound_byte lent
bound-least lent = go (ltb lent 2) refl
  where
    go : (b : Bool) → ltb lent 2 ≡ b → 2 ≤ cond b 2 lent
    go true e = omega arith
    go false e = omega (arith, ltb-false lent 2 e)

-- The book with another stage, and with another word on its lines.
abbrev pub staged : Book → Stage → Bool → Book
staged b g refuted = record {
  share = b.share;
  stage = g;
  variables = b.variables;
  clauses = b.clauses;
  lines = b.lines;
  rounds = b.rounds;
  charge = b.charge;
  peak = b.peak;
  refuted = refuted;
}

-- ---- `refuted`

flag-back : (lent : ℕ) (f : Bool) → not (eqb (flag_byte lent f) 0) ≡ f
flag-back lent false = refl
flag-back lent true = go (eqb lent 0) refl
  where
    go : (b : Bool) → eqb lent 0 ≡ b → not (eqb (cond b 1 lent) 0) ≡ true
    go true e = refl
    go false e = rw e

flag_same : (lent : ℕ) → flag_byte lent (not (eqb lent 0)) ≡ lent
flag_same lent = go (eqb lent 0) refl
  where
    go : (b : Bool) → eqb lent 0 ≡ b → flag_byte lent (not b) ≡ lent
    go true e = sym (eqb-true lent 0 e)
    go false e = rw e

-- ---- the struct

-- LAW: what is kept stands for the book.
pub kept_back : (k : Kept) (b : Book) → book_of (kept_as k b) ≡ b
kept_back k b = go b.stage
  where
    go : (g : Stage) → book_of (kept_at k b g) ≡ staged b g b.refuted
    go Formula = ap (staged b Formula) (flag-back k.refuted b.refuted)
    go Lines = ap (staged b Lines) (flag-back k.refuted b.refuted)
    go (Bound number place) = ap₂ (staged b) (sym bound) (flag-back k.refuted b.refuted)
      where
        bound : Bound number place ≡ stage_of (bound_byte k.stage) number place
        bound = is_bound (bound_byte k.stage) number place (λ e. omega (arith, bound-least k.stage))
            (λ e. omega (arith, bound-least k.stage))

-- LAW: where the book is as it was, every field is as it was lent.
pub kept_same : (k : Kept) → kept_as k (book_of k) ≡ k
kept_same k = go (eqb k.stage 0) (eqb k.stage 1) refl refl
  where
    with : ℕ → ℕ → Kept
    with stage refuted = kept_with (book_of k) stage k.number k.place refuted

    go : (x y : Bool) → eqb k.stage 0 ≡ x → eqb k.stage 1 ≡ y
        → kept_at k (book_of k) (cond x Formula (cond y Lines (Bound k.number k.place))) ≡ k
    go true y e e' = ap₂ with (sym (eqb-true k.stage 0 e)) (flag_same k.refuted)
    go false true e e' = ap₂ with (sym (eqb-true k.stage 1 e')) (flag_same k.refuted)
    go false false e e' = ap₂ with (sym (bound-high k.stage two)) (flag_same k.refuted)
      where
        two : 2 ≤ k.stage
        two = omega (arith, eqb-false k.stage 0 e, eqb-false k.stage 1 e')
