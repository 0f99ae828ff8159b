-- `word_number` reads the number of the bytes up to the end of the word. Assumes nothing.
use mathlib.Core.Path.{ap, ◌∙◌}
use lib.Seq.{slice}
use Rattle.dimacs.specs.Inner.{natural_of}
use Rattle.dimacs.proofs.header_line.word_number.Goals as goal

pub returns : goal.returns
returns c = let a = c.args in c.read_natural.ensures
    ∙ ap (λ e. natural_of (slice a.at e a.s.now)) c.past_class-end.ensures.value
