-- `ends_before` tests the bits from its variable on. Assumes nothing.
use borrow.Author.Rules.{rules}
use Rattle.words.specs.Sets.{ends_before}
use Rattle.words.proofs.ends_before.Goals as goal

pub returns : goal.returns
unfolding ends_before
returns c = search rules
