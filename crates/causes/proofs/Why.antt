-- What `why` shows, a theorem a sentence of 02's 8/14: the number is the check's; the piece is a part of its text; the cause of 14, 18 and
-- 19 is true of the command that is refused; every other number is its own cause. Assumes nothing.
use mathlib.Core.Path.{◌≡◌, refl, sym, subst}
use mathlib.Core.Bool.{true}
use mathlib.Core.List.{List}
use Prim.Native.Nat.{ℕ}
use Rattle.commands.specs.declared.Mode.{Mode}
use Rattle.causes.specs.Explanation.{explanation}
use Rattle.causes.specs.Shows.{TrueCause}
use Rattle.causes.proofs.Causes.{has_cause, cause-so}

module _ (mode : Mode) (s : ℕ) (text proof : List ℕ) where
  -- The cause of each of the three numbers; `Caused` (Shows) says what it is for each command.
  cause-of : (k : ℕ) → has_cause k ≡ true → (explanation mode s text proof).number ≡ k →
      TrueCause mode s text proof k (explanation mode s text proof).cause
  cause-of k has e = subst (λ (x : ℕ). TrueCause mode s text proof x (explanation mode s text proof).cause) e
      (cause-so mode s text proof (subst (λ (x : ℕ). has_cause x ≡ true) (sym e) has))

  -- THEOREM: for 14 "the two variables, the low child's if both offend".
  pub why-14 : (explanation mode s text proof).number ≡ 14 → TrueCause mode s text proof 14 (explanation mode s text proof).cause
  why-14 = cause-of 14 refl

  -- THEOREM: for 18 the smallest assignment "that agrees with the witness and makes the line false".
  pub why-18 : (explanation mode s text proof).number ≡ 18 → TrueCause mode s text proof 18 (explanation mode s text proof).cause
  why-18 = cause-of 18 refl

  -- THEOREM: for 19 "the literals fixed in the last propagation [..], and for PR the lowest live member that was not shown".
  pub why-19 : (explanation mode s text proof).number ≡ 19 → TrueCause mode s text proof 19 (explanation mode s text proof).cause
  why-19 = cause-of 19 refl
