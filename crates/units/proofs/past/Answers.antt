-- `past` gives the first variable past those struck. Assumes nothing.
use borrow.Author.Tests.{eq-eqb, ne_eqb}
use Rattle.units.specs.Units.{past}
use Rattle.units.proofs.past.Goals as goal

pub returns-then-side-eq0 : goal.returns-then-side-eq0
unfolding past
returns-then-side-eq0 c = rw (eq-eqb _ _ c.if-side-eq0.true)

pub returns : goal.returns
unfolding past
returns c = rw (ne_eqb _ _ c.if-side-eq0.false)
