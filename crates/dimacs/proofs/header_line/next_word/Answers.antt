-- `next_word` is the run of the word and then the run of spaces. Assumes nothing.
use mathlib.Core.Path.{ap, ◌∙◌}
use native.Mathlib.Omega.{arith}
use Rattle.dimacs.specs.Text.{past, is_space}
use Rattle.dimacs.specs.Header.{next_word}
use Rattle.dimacs.proofs.header_line.next_word.Goals as goal

pub returns : goal.returns
unfolding next_word
returns c = record { value = c.past_class.ensures.value ∙ ap (past is_space _) c.past_class-end.ensures.value; upper_bound = omega arith }
