-- The line over a lent table is the definition's, and so is what is left of the table. By the callees' contracts. Assumes nothing.
use mathlib.Core.Path.{sym}
use Rattle.report_in.proofs.Telling.{untaken, taken}
use Rattle.report_in.proofs.line_in.Goals as goal

pub returns-in-Some : goal.returns-in-Some
returns-in-Some c = untaken _ _ _ _ _ _ _ _ _ _ (sym c.in-Some.ensures)

pub returns-in-None : goal.returns-in-None
returns-in-None c = taken _ _ _ _ _ _ _ _ _ (sym c.in-None.ensures) _ c.check_form-r.ensures.result_after
