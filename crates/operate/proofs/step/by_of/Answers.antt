-- `by_of` is the definition, operation by operation. Assumes nothing.
use Rattle.operate.proofs.step.by_of.Goals as goal

pub returns-in-Conjunction : goal.returns-in-Conjunction
returns-in-Conjunction c = rw c.in-Conjunction.is

pub returns-in-Negation : goal.returns-in-Negation
returns-in-Negation c = rw c.in-Negation.is

pub returns-in-Cofactor : goal.returns-in-Cofactor
returns-in-Cofactor c = rw c.in-Cofactor.is

pub returns-in-Literals : goal.returns-in-Literals
returns-in-Literals c = rw c.in-Literals.is
