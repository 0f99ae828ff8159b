-- `put_literal`: sign, digits and a space, one after the other. Assumes nothing.
use mathlib.Core.Path.{ap, ◌∙◌}
use Rattle.convert.specs.Convert.{digits_of}
use Rattle.convert.specs.Inner.{Poured, put_byte, put_all}
use Rattle.convert.proofs.Pouring.{literal-spaced}
use Rattle.convert.proofs.from_binary.put_literal.Goals as goal

pub returns : goal.returns
returns c =
    c.put.ensures
    ∙ ap (λ (w : Poured). put_byte w 32) (c.put_digits-written.ensures
    ∙ ap (λ (w : Poured). put_all w (digits_of c.args.literal.variable)) c.put_sign-signed.ensures)
    ∙ literal-spaced _ c.args.literal.variable c.args.literal.positive
