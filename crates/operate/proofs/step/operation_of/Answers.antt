-- `operation_of` is the definition, kind by kind. Assumes nothing.
use Rattle.operate.proofs.step.operation_of.Goals as goal

pub returns-in-ByLiterals : goal.returns-in-ByLiterals
returns-in-ByLiterals c = rw c.in-ByLiterals.is
