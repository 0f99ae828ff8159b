-- `node_choice`: a test of the number. Assumes nothing.
use borrow.Author.Tests.{eq-eqb, ne_eqb}
use Rattle.command_causes.proofs.choice.node_choice.Goals as goal

pub returns-then-number-eq14 : goal.returns-then-number-eq14
returns-then-number-eq14 c = rw (eq-eqb _ _ c.if-number-eq14.true)

pub returns : goal.returns
returns c = rw (ne_eqb _ _ c.if-number-eq14.false)
