-- `child_or` reads the column where the node has the variable, as the definition does. Assumes nothing.
use borrow.Author.Tests.{eq-eqb, ne_eqb}
use Rattle.operate.proofs.step.child_or.Goals as goal

pub returns-then-vars-i : goal.returns-then-vars-i
returns-then-vars-i c =
    rw (eq-eqb _ _ c.if-vars-i.true)

pub returns : goal.returns
returns c =
    rw (ne_eqb _ _ c.if-vars-i.false)
