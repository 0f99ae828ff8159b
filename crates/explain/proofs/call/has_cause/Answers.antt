-- `has_cause` is the definition's test. Assumes nothing.
use borrow.Author.Tests.{eq-eqb, ne_eqb}
use Rattle.explain.proofs.call.has_cause.Goals as goal

pub returns-then-number-eq14 : goal.returns-then-number-eq14
returns-then-number-eq14 c =
    rw (eq-eqb _ _ c.if-number-eq14.true)

pub returns-then-number-eq18 : goal.returns-then-number-eq18
returns-then-number-eq18 c =
    rw (ne_eqb _ _ c.if-number-eq14.false, eq-eqb _ _ c.if-number-eq18.true)

pub returns : goal.returns
returns c =
    rw (ne_eqb _ _ c.if-number-eq14.false, ne_eqb _ _ c.if-number-eq18.false)
