-- `finish`: 7 where more bytes were put than there are places. Assumes nothing.
use mathlib.Core.Path.{◌∙◌}
use Rattle.convert.proofs.Pouring.{finish-over, finish-fits}
use Rattle.convert.proofs.output.finish.Goals as goal

pub returns-then-out-many : goal.returns-then-out-many
returns-then-out-many c = c.refuse.ensures ∙ finish-over c.args.out.now _ c.if-out-many.true

pub returns : goal.returns
returns c = finish-fits _ _ c.if-out-many.false
