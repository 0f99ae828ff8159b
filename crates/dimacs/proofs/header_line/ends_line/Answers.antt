-- `ends_line`: the run of spaces, tabs and CR behind the word ends where the line ends. Assumes nothing.
use mathlib.Core.Path.{sym}
use Rattle.dimacs.specs.Header.{ends_line}
use Rattle.dimacs.proofs.header_line.ends_line.Goals as goal

pub returns : goal.returns
unfolding ends_line
returns c = rw (sym c.past_class-end.ensures.value, sym c.past_class.ensures.value, sym c.past_class-2.ensures.value)
