-- `shares_fit` is the definition's test. Assumes nothing.
use Rattle.book_open.proofs.Sizes.{first-beyond, second-beyond, both-last}
use Rattle.book_open.proofs.shares_fit.Goals as goal

pub returns-then-size-first : goal.returns-then-size-first
returns-then-size-first c = first-beyond _ _ _ c.if-size-first.true

pub returns-then-size-first-2 : goal.returns-then-size-first-2
returns-then-size-first-2 c = second-beyond _ _ _ c.if-size-first.false c.if-size-first-2.true

pub returns : goal.returns
returns c = both-last _ _ _ c.if-size-first.false c.if-size-first-2.false
