-- `word_in` gives the number of eight bytes of its definition: low byte first, two by two. Assumes nothing.
use native.Mathlib.Omega.{arith}
use Rattle.records.proofs.Reading.{field-eight}
use Rattle.records.proofs.word_in.Goals as goal

pub returns : goal.returns
returns c =
    omega (
      arith,
      field-eight c.args.body.now,
      c.field_in-a.ensures,
      c.field_in-b.ensures,
      c.field_in-c.ensures,
      c.field_in-d.ensures,
    )
