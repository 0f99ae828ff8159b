-- `over` is the child, or what the lookup finds. Assumes nothing.
use Rattle.clause.proofs.Finding.{over-same, over-looked}
use Rattle.clause.proofs.search.over.Goals as goal

pub returns-then-l-h : goal.returns-then-l-h
returns-then-l-h c = over-same _ _ _ _ _ c.if-l-h.true

pub returns : goal.returns
returns c = over-looked _ _ _ _ _ c.if-l-h.false c.lookup.result c.lookup.ensures
