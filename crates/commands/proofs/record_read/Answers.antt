-- `record_read`: the record at the place and the place behind it. Assumes nothing.
use native.Mathlib.Omega.{arith}
use Rattle.commands.proofs.Stream.{record-short, record-read-is}
use Rattle.commands.proofs.record_read.Goals as goal

pub overflow_add-next : goal.overflow_add-next
overflow_add-next c = omega (
  arith,
  c.requires,
  c.record_length.ensures,
  record-short c.record_from-record.result,
)

pub returns : goal.returns
returns c = record-read-is _ _ _ _ c.record_from-record.ensures c.record_length.ensures
