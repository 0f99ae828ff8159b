-- What lies between two tokens: one comment line more, for which the bytes left are steps enough; and where it may end. Assumes nothing.
use mathlib.Core.Path.{◌≡◌, refl, sym, ◌∙◌}
use mathlib.Core.Bool.{true, false, ◌||◌, cond}
use mathlib.Core.List.{List}
use Prim.Native.Nat.{ℕ, zero, suc, ◌+◌, ◌-◌, ◌≤◌, ◌<◌}
use native.Mathlib.Omega.{arith}
use native.Mathlib.Decide.{dec_lt}
use lib.ListN.{length, get_or, get_or-eq_default}
use lib.Dec.{eqb}
use borrow.Author.Tests.{ne_eqb, eqb-true}
use Rattle.meaning.proofs.Booleans.{and_both, not-true}
use Rattle.dimacs.specs.Text.{is_parting, is_line, past, line_end, is_comment, between_from, between}
use Rattle.dimacs.proofs.Cases.{by}
use Rattle.dimacs.proofs.Runs.{past-go, past-least, past-most}

module _ (s : List ℕ) where
  pub comment-byte : (at : ℕ) → is_comment s at ≡ true → get_or s at 0 ≡ 99
  unfolding is_comment
  comment-byte at e = eqb-true (get_or s at 0) 99 (and_both (eqb (get_or s at 0) 99) (eqb at 0 || eqb (get_or s (at - 1) 0) 10) e).0

  -- no comment starts at the end
  pub comment-inside : (at : ℕ) → is_comment s at ≡ true → at < length s
  comment-inside at e = elim (dec_lt at (length s)) [
    | yes h ↦ h
    | no h ↦ let z : get_or s at 0 ≡ 0 = get_or-eq_default s 0 (omega (arith, h)) in absurd (omega (arith, comment-byte at e))
  ]

  -- a comment line has bytes
  pub comment-moves : (at : ℕ) → is_comment s at ≡ true → at < line_end s at
  comment-moves at e =
      let byte : is_line (get_or s at 0) ≡ true = rw (comment-byte at e) in
      omega (arith, past-go is_line s at (comment-inside at e) byte, past-least is_line s (at + 1))

  from_suc : (k at : ℕ) → between_from s (suc k) at ≡ cond (is_comment s (past is_parting s at))
      (between_from s k (line_end s (past is_parting s at))) (past is_parting s at)
  unfolding between_from
  from_suc k at = refl

  -- no comment line comes next
  pub between-stop : (k at : ℕ) → is_comment s (past is_parting s at) ≡ false → between_from s k at ≡ past is_parting s at
  unfolding between_from
  between-stop zero at e = refl
  between-stop (suc k) at e = rw e

  between-comment : (k at : ℕ) → is_comment s (past is_parting s at) ≡ true → between_from s (suc k) at
      ≡ between_from s k (line_end s (past is_parting s at))
  between-comment k at e = from_suc k at ∙ rw e

  outside : (at : ℕ) → length s ≤ at → is_comment s (past is_parting s at) ≡ false
  outside at h = not-true (is_comment s (past is_parting s at))
      (λ e. absurd (omega (arith, comment-inside (past is_parting s at) e, past-least is_parting s at)))

  -- steps for each byte left are enough
  pub between-fuel : (k m at : ℕ) → length s ≤ at + k → length s ≤ at + m → between_from s k at ≡ between_from s m at
  between-fuel zero m at h g = between-stop zero at (outside at (omega arith)) ∙ sym (between-stop m at (outside at (omega arith)))
  between-fuel (suc k) zero at h g = between-stop (suc k) at (outside at (omega arith))
      ∙ sym (between-stop zero at (outside at (omega arith)))
  between-fuel (suc k) (suc m) at h g = by (is_comment s (past is_parting s at))
      (λ e. between-comment k at e
      ∙ between-fuel k m (line_end s (past is_parting s at))
      (omega (arith, comment-moves (past is_parting s at) e, past-least is_parting s at))
      (omega (arith, comment-moves (past is_parting s at) e, past-least is_parting s at))
      ∙ sym (between-comment m at e))
      (λ e. between-stop (suc k) at e ∙ sym (between-stop (suc m) at e))

  -- ---- the loop: what is to be passed is what is left to be passed

  abbrev pub left : ℕ → ℕ
  left at = between_from s (length s - at) at

  pub between_left : (at : ℕ) → between s at ≡ left at
  between_left at = between-fuel (length s) (length s - at) at (omega arith) (omega arith)

  pub left-comment : (at : ℕ) → is_comment s (past is_parting s at) ≡ true → left at ≡ left (line_end s (past is_parting s at))
  left-comment at e =
      let inside : past is_parting s at < length s = comment-inside (past is_parting s at) e in
      let z : length s - at ≡ suc (length s - (at + 1)) = omega (arith, past-least is_parting s at) in
      rw z (between-comment (length s - (at + 1)) at e)
      ∙ between-fuel (length s - (at + 1)) (length s - line_end s (past is_parting s at)) (line_end s (past is_parting s at))
      (omega (arith, comment-moves (past is_parting s at) e, past-least is_parting s at)) (omega arith)

  -- ---- where it may end

  zero_is : (at : ℕ) → between_from s zero at ≡ past is_parting s at
  unfolding between_from
  zero_is at = refl

  from-least : (k at : ℕ) → at ≤ between_from s k at
  from-least zero at = omega (arith, zero_is at, past-least is_parting s at)
  from-least (suc k) at = by (is_comment s (past is_parting s at))
      (λ e. omega (
        arith,
        between-comment k at e,
        from-least k (line_end s (past is_parting s at)),
        comment-moves (past is_parting s at) e,
        past-least is_parting s at,
      ))
      (λ e. omega (arith, between-stop (suc k) at e, past-least is_parting s at))

  pub between-least : (at : ℕ) → at ≤ between s at
  between-least at = from-least (length s) at

  from-most : (k at : ℕ) → at ≤ length s → between_from s k at ≤ length s
  from-most zero at h = omega (arith, zero_is at, past-most is_parting s at h)
  from-most (suc k) at h = by (is_comment s (past is_parting s at))
      (λ e. omega (
        arith,
        between-comment k at e,
        from-most k (line_end s (past is_parting s at))
            (past-most is_line s (past is_parting s at) (past-most is_parting s at h)),
      ))
      (λ e. omega (arith, between-stop (suc k) at e, past-most is_parting s at h))

  pub between-most : (at : ℕ) → at ≤ length s → between s at ≤ length s
  between-most at h = from-most (length s) at h

-- ---- the test of a comment, byte by byte

module _ (s : List ℕ) (at : ℕ) where
  pub at-end : at ≡ length s → false ≡ is_comment s at
  at-end e = sym (not-true (is_comment s at) (λ t. absurd (omega (arith, comment-inside s at t))))

  pub other_byte : (get_or s at 0 ≡ 99 → ⊥) → false ≡ is_comment s at
  unfolding is_comment
  other_byte ne = rw (ne_eqb (get_or s at 0) 99 ne)

  module _ (c : get_or s at 0 ≡ 99) where
    pub at-start : at ≡ 0 → true ≡ is_comment s at
    unfolding is_comment
    at-start z = rw (c, z)

    pub behind : (at ≡ 0 → ⊥) → eqb (get_or s (at - 1) 0) 10 ≡ is_comment s at
    unfolding is_comment
    behind ne = rw (c, ne_eqb at 0 ne)
