-- The line on two files is the definition's: the files' refusal, else the check's verdict. Assumes nothing.
use mathlib.Core.Path.{sym, ◌∙◌}
use Rattle.report.proofs.Saying.{said-taken, said-untaken}
use Rattle.report.proofs.line_on.Goals as goal

pub returns-in-Some : goal.returns-in-Some
returns-in-Some c = sym (said-untaken _ _ _ _ _ _ (sym c.in-Some.ensures))

pub returns-in-None : goal.returns-in-None
returns-in-None c = c.check.ensures ∙ sym (said-taken _ _ _ _ _ (sym c.in-None.ensures))
