-- `binomial` reads the stored entry. Assumes nothing.
use borrow.Author.Rules.{rules}
use Rattle.binomial.proofs.Pascal.{stored, stored_is}
use Rattle.binomial.proofs.binomial.Goals as goal

pub returns : goal.returns
unfolding stored
returns c = stored_is _ _ (search rules) (search rules)
