-- `is_parting` is `is_blank` or LF. Assumes nothing.
use mathlib.Core.Path.{sym}
use Rattle.dimacs.proofs.text.is_parting.Goals as goal

pub returns-then-is_blank : goal.returns-then-is_blank
returns-then-is_blank c = rw (sym c.is_blank.ensures, c.if-is_blank.true)

pub returns-else-is_blank : goal.returns-else-is_blank
returns-else-is_blank c = rw (sym c.is_blank.ensures, c.if-is_blank.false)
