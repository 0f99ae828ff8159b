-- `lower_in` stops at the set's greatest variable below v. Assumes nothing.
use mathlib.Core.Path.{sym, ◌∙◌}
use native.Mathlib.Omega.{arith}
use Rattle.sets.proofs.Lower.{lower-hit, lower-go, lower-done}
use Rattle.sets.proofs.variables.lower_in.Goals as goal

pub returns-then-in_word : goal.returns-then-in_word
returns-then-in_word c =
    sym (c.loop-w.invariant.1 ∙ lower-hit _ _ c.loop-w-test.true (sym c.in_word.ensures ∙ c.if-in_word.true))

pub loop-w-preserved : goal.loop-w-preserved
loop-w-preserved c = (
  omega (arith, c.loop-w.invariant.0),
  c.loop-w.invariant.1 ∙ lower-go _ _ c.loop-w-test.true (sym c.in_word.ensures ∙ c.if-in_word.false),
)

pub returns : goal.returns
returns c = sym (c.loop-w.invariant.1 ∙ lower-done _ _ c.loop-w-test.false)
