use borrow.Author.Tests.{le-leb, lt-leb}
use Rattle.pieces.proofs.formula_end.Goals as goal

-- src/lib.rt:76:9
pub returns-then-number-le2 : goal.returns-then-number-le2
returns-then-number-le2 c = rw (le-leb _ _ c.if-number-le2.true) c.line_end.ensures

-- src/lib.rt:71:1
pub returns : goal.returns
returns c = rw (lt-leb _ _ c.if-number-le2.false) c.token_end.ensures
