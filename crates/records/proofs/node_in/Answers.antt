-- `node_in` gives the node record of its definition, cut short where the body has fewer than five bytes. Assumes nothing.
use borrow.Author.Tests.{lt-ltb, le-ltb}
use Rattle.records.specs.Records.{node_in}
use Rattle.records.proofs.Reading.{field-one}
use Rattle.records.proofs.node_in.Goals as goal

pub returns-then-body-lt5 : goal.returns-then-body-lt5
unfolding node_in
returns-then-body-lt5 c = rw (lt-ltb _ _ c.if-body-lt5.true)

pub returns : goal.returns
unfolding node_in
returns c = rw (le-ltb _ _ c.if-body-lt5.false, c.entry_in.ensures, c.entry_in-2.ensures, ← field-one 0 _)
