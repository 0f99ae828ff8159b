-- `put_sign`: nothing, or a minus. Assumes nothing.
use mathlib.Core.Path.{◌∙◌}
use Rattle.convert.proofs.Pouring.{sign-none, sign-minus}
use Rattle.convert.proofs.from_binary.put_sign.Goals as goal

pub returns-then-positive : goal.returns-then-positive
returns-then-positive c = sign-none _ _ c.if-positive.true

pub returns : goal.returns
returns c = c.put.ensures ∙ sign-minus _ _ c.if-positive.false
