-- `is_passed`: the line is blank, or its first byte is `c`. Assumes nothing.
use mathlib.Core.Path.{sym}
use borrow.Author.Tests.{eq-eqb, ne_eqb}
use Rattle.dimacs.specs.Header.{is_passed}
use Rattle.dimacs.proofs.header_line.is_passed.Goals as goal

pub returns-then-past_class : goal.returns-then-past_class
unfolding is_passed
returns-then-past_class c = rw (sym c.past_class.ensures.value, sym c.past_class-2.ensures.value, eq-eqb _ _ c.if-past_class.true)

pub returns-else-past_class : goal.returns-else-past_class
unfolding is_passed
returns-else-past_class c = rw (
  sym c.past_class.ensures.value,
  sym c.past_class-2.ensures.value,
  ne_eqb _ _ c.if-past_class.false,
)
