-- `with_variable` sets the variable's bit. Assumes nothing.
use Rattle.meaning.proofs.Words.{one_shifted}
use Rattle.words.proofs.with_variable.Goals as goal

pub returns : goal.returns
returns c = rw (one_shifted c.args.v c.requires.0 c.requires.1)
