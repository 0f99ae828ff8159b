-- `line_in` gives the line of its definition, cut short where the body has fewer than two bytes. Assumes nothing.
use borrow.Author.Tests.{lt-ltb, le-ltb}
use Rattle.records.specs.Records.{line_in}
use Rattle.records.proofs.line_in.Goals as goal

pub returns-then-body-lt2 : goal.returns-then-body-lt2
unfolding line_in
returns-then-body-lt2 c = rw (lt-ltb _ _ c.if-body-lt2.true)

pub returns : goal.returns
unfolding line_in
returns c = rw (le-ltb _ _ c.if-body-lt2.false, c.entry_in.ensures)
