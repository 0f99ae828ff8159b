-- `found_in` reads the entry. Assumes nothing.
use borrow.Author.Tests.{eq-eqb, ne_eqb}
use Rattle.negate.specs.Negations.{found_in}
use Rattle.negate.proofs.found_in.Goals as goal

pub returns-then-e-eq1 : goal.returns-then-e-eq1
unfolding found_in
returns-then-e-eq1 c = rw (eq-eqb _ _ c.if-e-eq1.true)

pub returns : goal.returns
unfolding found_in
returns c = rw (ne_eqb _ _ c.if-e-eq1.false)
