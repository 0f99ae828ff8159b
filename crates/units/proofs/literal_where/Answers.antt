-- `literal_where` gives the variable's word where the side is 0. Assumes nothing.
use borrow.Author.Tests.{eq-eqb, ne_eqb}
use Rattle.meaning.proofs.Words.{one_shifted}
use Rattle.units.specs.Units.{literal_where}
use Rattle.units.proofs.literal_where.Goals as goal

pub returns-then-side-eq0 : goal.returns-then-side-eq0
unfolding literal_where
returns-then-side-eq0 c = rw (eq-eqb _ _ c.if-side-eq0.true, one_shifted c.args.v c.requires.0 c.requires.1)

pub returns : goal.returns
unfolding literal_where
returns c = rw (ne_eqb _ _ c.if-side-eq0.false)
