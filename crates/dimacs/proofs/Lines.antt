-- The lines before the header and the words of a line: one step of `judged_from`, for which the bytes left are steps enough; a word
-- by its length and bytes. Assumes nothing.
use mathlib.Core.Path.{◌≡◌, refl, ap, sym, ◌∙◌}
use mathlib.Core.Bool.{true, false, cond}
use mathlib.Core.List.{List}
use Prim.Native.Nat.{ℕ, zero, suc, ◌+◌, ◌-◌, ◌≤◌, ◌<◌}
use native.Mathlib.Omega.{arith}
use native.Mathlib.Numerals.{add-one}
use lib.ListN.{length}
use lib.Dec.{ltb}
use borrow.Author.Tests.{lt-ltb, le-ltb, eq-eqb, ne_eqb}
use Rattle.dimacs.specs.Text.{is_line, line_end, token_end}
use Rattle.dimacs.specs.Header.{is_passed, judged_from, is_word, spells}
use Rattle.dimacs.proofs.Runs.{past-least}

-- ---- lines

pub judged-end : (s : List ℕ) (k at : ℕ) → length s ≤ at → judged_from s k at ≡ length s
unfolding judged_from
judged-end s zero at h = refl
judged-end s (suc k) at h = rw (le-ltb at (length s) h)

judged-suc : (s : List ℕ) (k at : ℕ)
    → judged_from s (suc k) at ≡ cond (ltb at (length s)) (cond (is_passed s at) (judged_from s k (suc (line_end s at))) at) (length s)
unfolding judged_from
judged-suc s k at = refl

-- Steps for each byte left are enough.
pub judged-fuel : (s : List ℕ) (k m at : ℕ) → length s ≤ at + k → length s ≤ at + m → judged_from s k at ≡ judged_from s m at
judged-fuel s zero m at h g = judged-end s zero at (omega arith) ∙ sym (judged-end s m at (omega arith))
judged-fuel s (suc k) zero at h g = judged-end s (suc k) at (omega arith) ∙ sym (judged-end s zero at (omega arith))
judged-fuel s (suc k) (suc m) at h g =
    let later : judged_from s k (suc (line_end s at)) ≡ judged_from s m (suc (line_end s at)) =
    judged-fuel s k m (suc (line_end s at)) (omega (arith, past-least is_line s at)) (omega (arith, past-least is_line s at)) in
    judged-suc s k at ∙ ap (λ (p : ℕ). cond (ltb at (length s)) (cond (is_passed s at) p at) (length s)) later ∙ sym (judged-suc s m at)

module _ (s : List ℕ) (at : ℕ) (inside : at < length s) where
  steps : length s - at ≡ suc (length s - (at + 1))
  steps = omega arith

  pub judged-stop : is_passed s at ≡ false → judged_from s (length s - at) at ≡ at
  judged-stop e = rw steps (judged-suc s (length s - (at + 1)) at ∙ rw (lt-ltb at (length s) inside, e))

  pub judged-go : is_passed s at ≡ true → judged_from s (length s - at) at
      ≡ judged_from s (length s - (line_end s at + 1)) (line_end s at + 1)
  judged-go e =
      rw steps
      (judged-suc s (length s - (at + 1)) at ∙ rw (lt-ltb at (length s) inside, e, add-one (line_end s at))
      (judged-fuel s (length s - (at + 1)) (length s - suc (line_end s at)) (suc (line_end s at)) (omega (arith, past-least is_line s at))
      (omega arith)))

-- ---- words

module _ (s : List ℕ) (at end : ℕ) (bs : List ℕ) (is : end ≡ token_end s at) where
  pub word-not : (end - at ≡ length bs → ⊥) → is_word s at bs ≡ false
  unfolding is_word
  word-not h = rw (sym is, ne_eqb end (at + length bs) (λ e. h (omega arith)))

  pub word-is : at ≤ end → end - at ≡ length bs → is_word s at bs ≡ spells s at bs
  unfolding is_word
  word-is h e = rw (sym is, eq-eqb end (at + length bs) (omega arith))
