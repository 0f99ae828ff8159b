-- `is_blank` is `is_space` or CR. Assumes nothing.
use mathlib.Core.Path.{sym}
use Rattle.dimacs.proofs.text.is_blank.Goals as goal

pub returns-then-is_space : goal.returns-then-is_space
returns-then-is_space c = rw (sym c.is_space.ensures, c.if-is_space.true)

pub returns-else-is_space : goal.returns-else-is_space
returns-else-is_space c = rw (sym c.is_space.ensures, c.if-is_space.false)
