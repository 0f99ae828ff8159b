-- `read_header` judges the line that `judged_line` finds; where it finds none, 1 at the length. Assumes nothing.
use mathlib.Core.Path.{ap, sym}
use native.Mathlib.Omega.{arith}
use borrow.Author.Tests.{lt-ltb, le-ltb}
use Rattle.dimacs.specs.Header.{Improper, header}
use Rattle.dimacs.specs.Inner.{header_read}
use Rattle.dimacs.proofs.header_line.read_header.Goals as goal

pub returns-then-at-formula : goal.returns-then-at-formula
unfolding header
returns-then-at-formula c = rw (sym c.judged_line-at.ensures.value, lt-ltb _ _ c.if-at-formula.true) c.header_at.ensures

pub returns : goal.returns
unfolding header
returns c = rw (sym c.judged_line-at.ensures.value, le-ltb _ _ c.if-at-formula.false) (ap (λ p. header_read (Improper 1 p)) (omega arith))
