-- `in_word` tests the bit of its variable. Assumes nothing.
use borrow.Author.Rules.{rules}
use Rattle.meaning.specs.Words.{in_word}
use Rattle.words.proofs.in_word.Goals as goal

pub returns : goal.returns
unfolding in_word
returns c = search rules
