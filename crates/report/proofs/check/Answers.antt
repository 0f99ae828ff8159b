-- The check's arrays are zeros of the sizes that it asks for, so that what it says is the definition's verdict. Assumes nothing.
use mathlib.Core.Path.{ap, ◌∙◌}
use Rattle.report.proofs.Saying.{line_of, checked}
use Rattle.report.proofs.check.Goals as goal

pub returns : goal.returns
returns c = ap line_of c.check_in-r.ensures.result_after ∙ checked _ _ _
