-- `read_natural`: no bytes, digits, `0`, or more after a 0, each by the law of that case. Assumes nothing.
use mathlib.Core.Path.{sym, ◌∙◌}
use native.Mathlib.Omega.{arith}
use Rattle.dimacs.proofs.Digits.{natural-empty, natural-other, natural-alone, natural-longer}
use Rattle.dimacs.proofs.numbers.read_natural.Goals as goal

pub returns-then-from-to : goal.returns-then-from-to
returns-then-from-to c = sym (natural-empty _ _ _ (omega arith) c.if-from-to.true)

pub returns-then-s-from-ne48 : goal.returns-then-s-from-ne48
returns-then-s-from-ne48 c = let a = c.args in
    c.read_digits.ensures ∙ sym (natural-other a.s.now a.from a.to (omega arith) (omega arith) c.if-s-from-ne48.true)

pub returns-then-to-from-eq1 : goal.returns-then-to-from-eq1
returns-then-to-from-eq1 c = sym (natural-alone _ _ _ (omega arith) c.if-to-from-eq1.true c.if-s-from-ne48.false)

pub returns : goal.returns
returns c = sym (natural-longer _ _ _ (omega arith) (omega arith) c.if-to-from-eq1.false c.if-s-from-ne48.false)
