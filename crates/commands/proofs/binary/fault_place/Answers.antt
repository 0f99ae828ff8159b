-- `fault_place`: the opening byte for 6, else the literal. Assumes nothing.
use borrow.Author.Tests.{eq-eqb, ne_eqb}
use Rattle.commands.proofs.binary.fault_place.Goals as goal

pub returns-then-number-eq6 : goal.returns-then-number-eq6
returns-then-number-eq6 c = rw (eq-eqb _ _ c.if-number-eq6.true)

pub returns : goal.returns
returns c = rw (ne_eqb _ _ c.if-number-eq6.false)
