-- `line_choice`: tests of the number. Assumes nothing.
use borrow.Author.Tests.{eq-eqb, ne_eqb}
use Rattle.command_causes.proofs.choice.line_choice.Goals as goal

pub returns-then-number-eq19 : goal.returns-then-number-eq19
returns-then-number-eq19 c = rw (eq-eqb _ _ c.if-number-eq19.true)

pub shut_choice-requires : goal.shut_choice-requires
shut_choice-requires c = tt

pub returns-then-number-eq18 : goal.returns-then-number-eq18
returns-then-number-eq18 c = rw (ne_eqb _ _ c.if-number-eq19.false, eq-eqb _ _ c.if-number-eq18.true) c.shut_choice.ensures

pub returns : goal.returns
returns c = rw (ne_eqb _ _ c.if-number-eq19.false, ne_eqb _ _ c.if-number-eq18.false)
