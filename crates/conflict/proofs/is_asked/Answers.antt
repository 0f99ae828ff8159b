-- Each way out is the definition's. Assumes nothing.
use mathlib.Core.Path.{ap}
use mathlib.Core.Bool.{not}
use Rattle.conflict.specs.Members.{asks}
use Rattle.conflict.proofs.is_asked.Goals as goal

pub returns-then-all : goal.returns-then-all
unfolding asks
returns-then-all c =
    rw c.if-all.true (ap not c.value_of.ensures)

pub returns : goal.returns
unfolding asks
returns c =
    rw c.if-all.false
