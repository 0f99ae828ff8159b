-- `witness_in` gives the witness record of its definition, cut short where the body has no byte. Assumes nothing.
use borrow.Author.Tests.{lt-ltb, le-ltb}
use Rattle.records.specs.Records.{witness_in}
use Rattle.records.proofs.Reading.{field-one}
use Rattle.records.proofs.witness_in.Goals as goal

pub returns-then-body-lt1 : goal.returns-then-body-lt1
unfolding witness_in
returns-then-body-lt1 c = rw (lt-ltb _ _ c.if-body-lt1.true)

pub returns : goal.returns
unfolding witness_in
returns c = rw (le-ltb _ _ c.if-body-lt1.false, ← field-one 0 _)
