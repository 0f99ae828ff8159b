-- `descent_of` chooses the sides in the definition's order. Assumes nothing.
use Rattle.operate.specs.Inner.{descent_of}
use borrow.Author.Tests.{eq-eqb, ne_eqb}
use Rattle.operate.proofs.step.descent_of.Goals as goal

pub returns-then-g0-eq0 : goal.returns-then-g0-eq0
unfolding descent_of
returns-then-g0-eq0 c =
    rw (c.in-Cofactor.is, eq-eqb _ _ c.if-g0-eq0.true)

pub returns-then-g1-eq0 : goal.returns-then-g1-eq0
unfolding descent_of
returns-then-g1-eq0 c =
    rw (c.in-Cofactor.is, ne_eqb _ _ c.if-g0-eq0.false, eq-eqb _ _ c.if-g1-eq0.true)

pub in_word-requires : goal.in_word-requires
in_word-requires c =
    c.requires

pub returns-then-in_word : goal.returns-then-in_word
unfolding descent_of
returns-then-in_word c =
    rw (c.in-Literals.is, ← c.in_word.ensures, c.if-in_word.true)

pub in_word-requires-in-Literals : goal.in_word-requires-in-Literals
in_word-requires-in-Literals c =
    c.requires

pub returns-then-in_word-2 : goal.returns-then-in_word-2
unfolding descent_of
returns-then-in_word-2 c =
    rw (
      c.in-Literals.is,
      ← c.in_word.ensures,
      c.if-in_word.false,
      ← c.in_word-in-Literals.ensures,
      c.if-in_word-2.true,
    )

pub returns-in-Conjunction : goal.returns-in-Conjunction
unfolding descent_of
returns-in-Conjunction c =
    rw c.in-Conjunction.is

pub returns-in-Negation : goal.returns-in-Negation
unfolding descent_of
returns-in-Negation c =
    rw c.in-Negation.is

pub returns-else-g1-eq0 : goal.returns-else-g1-eq0
unfolding descent_of
returns-else-g1-eq0 c =
    rw (c.in-Cofactor.is, ne_eqb _ _ c.if-g0-eq0.false, ne_eqb _ _ c.if-g1-eq0.false)

pub returns-else-in_word-2 : goal.returns-else-in_word-2
unfolding descent_of
returns-else-in_word-2 c =
    rw (
      c.in-Literals.is,
      ← c.in_word.ensures,
      c.if-in_word.false,
      ← c.in_word-in-Literals.ensures,
      c.if-in_word-2.false,
    )
