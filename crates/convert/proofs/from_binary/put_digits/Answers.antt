-- `put_digits`: one digit or two. Assumes nothing.
use mathlib.Core.Path.{ap, ◌∙◌}
use Prim.Native.Nat.{◌+◌, ◌%◌}
use Rattle.convert.specs.Inner.{Poured, put_byte}
use Rattle.convert.proofs.Pouring.{digits-short, digits_long}
use Rattle.convert.proofs.from_binary.put_digits.Goals as goal

pub returns-then-variable-lt10 : goal.returns-then-variable-lt10
returns-then-variable-lt10 c = c.put.ensures ∙ digits-short _ _ c.if-variable-lt10.true

pub returns : goal.returns
returns c =
    c.put-2.ensures ∙ ap (λ (w : Poured). put_byte w (48 + c.args.variable % 10))
    c.put-next.ensures
    ∙ digits_long _ _ c.if-variable-lt10.false
