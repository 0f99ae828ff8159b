-- `read_digits` reads the number of the digits. The loop: the number of all the bytes is that of the bytes left, read after n. The measure
-- is the bytes left. Assumes nothing.
use mathlib.Core.Path.{refl, sym, ◌∙◌}
use native.Mathlib.Omega.{arith}
use Rattle.dimacs.proofs.Digits.{digit-least, digit-most, digits-end, digits-stop, digits-go}
use Rattle.dimacs.proofs.numbers.read_digits.Goals as goal

pub loop-at-init : goal.loop-at-init
loop-at-init c = (omega arith, omega arith, omega arith, refl)

pub returns-then-not-is_digit : goal.returns-then-not-is_digit
returns-then-not-is_digit c = sym
    (c.loop-at.invariant.3
    ∙ digits-stop _ _ _ _ c.loop-at-test.true (omega arith)
    (sym c.is_digit.ensures ∙ c.if-not-is_digit.true))

pub with_digit-n-requires : goal.with_digit-n-requires
with_digit-n-requires c = let d = sym c.is_digit.ensures ∙ c.if-not-is_digit.false in
    (omega arith, digit-least _ d, digit-most _ d)

pub loop-at-preserved : goal.loop-at-preserved
loop-at-preserved c = (
  omega arith,
  omega arith,
  c.with_digit-n.ensures.upper_bound,
  c.loop-at.invariant.3
      ∙ digits-go _ _ _ _ _ c.loop-at-test.true (omega arith)
      (sym c.is_digit.ensures ∙ c.if-not-is_digit.false)
      c.with_digit-n.ensures.value,
)

pub returns : goal.returns
returns c = let a = c.args in
    sym (c.loop-at.invariant.3 ∙ digits-end a.s.now c.loop-at.at a.to c.loop-at.n (omega arith)
    c.loop-at.invariant.2)
