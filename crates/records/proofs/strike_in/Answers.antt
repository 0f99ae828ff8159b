-- `strike_in` gives the striking of its definition, cut short where the body has fewer than two bytes. Assumes nothing.
use borrow.Author.Tests.{lt-ltb, le-ltb}
use Rattle.records.specs.Records.{strike_in}
use Rattle.records.proofs.strike_in.Goals as goal

pub returns-then-body-lt2 : goal.returns-then-body-lt2
unfolding strike_in
returns-then-body-lt2 c = rw (lt-ltb _ _ c.if-body-lt2.true)

pub returns : goal.returns
unfolding strike_in
returns c = rw (le-ltb _ _ c.if-body-lt2.false, c.field_in.ensures)
