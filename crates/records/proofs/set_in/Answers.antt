-- `set_in` gives the set's entry of its definition, cut short where the body has fewer than nine bytes. Assumes nothing.
use borrow.Author.Tests.{lt-ltb, le-ltb}
use Rattle.records.specs.Records.{set_in}
use Rattle.records.proofs.Reading.{field-one}
use Rattle.records.proofs.set_in.Goals as goal

pub returns-then-body-lt9 : goal.returns-then-body-lt9
unfolding set_in
returns-then-body-lt9 c = rw (lt-ltb _ _ c.if-body-lt9.true)

pub returns : goal.returns
unfolding set_in
returns c = rw (le-ltb _ _ c.if-body-lt9.false, c.word_in-set.ensures, ← field-one 8 _)
