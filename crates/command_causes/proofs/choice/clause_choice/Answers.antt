-- `clause_choice`: a test of the number. Assumes nothing.
use borrow.Author.Tests.{eq-eqb, ne_eqb}
use Rattle.command_causes.proofs.choice.clause_choice.Goals as goal

pub returns-then-number-eq19 : goal.returns-then-number-eq19
returns-then-number-eq19 c = rw (eq-eqb _ _ c.if-number-eq19.true)

pub returns : goal.returns
returns c = rw (ne_eqb _ _ c.if-number-eq19.false)
