-- `field_in` gives the number of two bytes of its definition: low byte first, they are the field. Assumes nothing.
use mathlib.Core.Path.{sym, ◌∙◌}
use Rattle.records.proofs.Reading.{field-two}
use Rattle.records.proofs.field_in.Goals as goal

pub returns : goal.returns
returns c =
    c.low_byte_first.ensures ∙ sym (field-two c.args.i c.args.body.now)
