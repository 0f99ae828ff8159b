-- `is_comment` tests the byte, and what stands before it. Assumes nothing.
use Rattle.dimacs.proofs.Between.{at-end, other_byte, at-start, behind}
use Rattle.dimacs.proofs.text.is_comment.Goals as goal

pub returns-then-at-s : goal.returns-then-at-s
returns-then-at-s c = at-end _ _ c.if-at-s.true

pub returns-then-s-at-ne99 : goal.returns-then-s-at-ne99
returns-then-s-at-ne99 c = other_byte _ _ c.if-s-at-ne99.true

pub returns-then-at-eq0 : goal.returns-then-at-eq0
returns-then-at-eq0 c = at-start _ _ c.if-s-at-ne99.false c.if-at-eq0.true

pub returns : goal.returns
returns c = behind _ _ c.if-s-at-ne99.false c.if-at-eq0.false
