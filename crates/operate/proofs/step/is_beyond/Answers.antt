-- `is_beyond` is the definition, kind by kind. Assumes nothing.
use Rattle.operate.proofs.step.is_beyond.Goals as goal

pub returns-in-ByDiagram : goal.returns-in-ByDiagram
returns-in-ByDiagram c = rw c.in-ByDiagram.is c.ends_before-before.ensures

pub returns-in-ByLiterals : goal.returns-in-ByLiterals
returns-in-ByLiterals c = rw c.in-ByLiterals.is c.ends_before-before.ensures
