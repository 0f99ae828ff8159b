-- `code_of`: twice the variable, and one more for a minus. Assumes nothing.
use Rattle.convert.proofs.from_text.code_of.Goals as goal

pub returns-then-literal : goal.returns-then-literal
returns-then-literal c = rw c.if-literal.true

pub returns : goal.returns
returns c = rw c.if-literal.false
