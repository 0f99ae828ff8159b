-- `record_in` gives the record, or 33 in its place. Assumes nothing.
use mathlib.Core.Path.{sym, ◌∙◌}
use Rattle.profile.proofs.record_in.Goals as goal

pub returns-else-is_pr_line : goal.returns-else-is_pr_line
returns-else-is_pr_line c = rw (c.if-consequence.true, sym c.is_pr_line.ensures ∙ c.if-is_pr_line.false)

pub returns-else-consequence : goal.returns-else-consequence
returns-else-consequence c = rw c.if-consequence.false
