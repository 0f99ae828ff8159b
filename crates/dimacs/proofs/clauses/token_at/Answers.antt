-- `token_at` judges the bytes up to the end of the token. Assumes nothing.
use mathlib.Core.Path.{ap, ◌∙◌}
use lib.Seq.{slice}
use Rattle.dimacs.specs.Numbers.{token_of}
use Rattle.dimacs.specs.Inner.{token_read}
use Rattle.dimacs.proofs.clauses.token_at.Goals as goal

pub returns : goal.returns
returns c = let a = c.args in c.read_token.ensures
    ∙ ap (λ e. token_read (token_of a.variables (slice a.at e a.s.now))) c.past_class-end.ensures.value
