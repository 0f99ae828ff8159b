-- `start_behind`: behind a line the next line starts. Assumes nothing.
use mathlib.Core.Path.{sym, ◌∙◌}
use Rattle.why.proofs.opening.start_behind.Goals as goal

pub returns-then-is_line : goal.returns-then-is_line
returns-then-is_line c = rw (sym c.is_line.ensures ∙ c.if-is_line.true)

pub returns : goal.returns
returns c = rw (sym c.is_line.ensures ∙ c.if-is_line.false)
