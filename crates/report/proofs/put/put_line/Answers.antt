-- The five fields, one after the other. Assumes nothing.
use Prim.Native.Nat.{◌≤◌}
use mathlib.Core.Path.{sym}
use lib.ListN.{length}
use lib.Seq.{length-take-le}
use native.Mathlib.Omega.{arith}
use Rattle.report.proofs.Putting.{put_whole}
use Rattle.report.proofs.put.put_line.Goals as goal

pub returns : goal.returns
returns c =
    let within : c.put_field.result ≤ length c.put_field.new.line =
    omega (
      arith,
      c.put_field-after_number.ensures.upper_bound,
      c.put_field-after_place.ensures.upper_bound,
      c.put_field-after_lines.ensures.upper_bound,
      c.put_field-after_rounds.ensures.upper_bound,
      c.put_field.ensures.upper_bound,
      c.put_field-after_number.auto.line,
      c.put_field-after_place.auto.line,
      c.put_field-after_lines.auto.line,
      c.put_field-after_rounds.auto.line,
      c.put_field.auto.line,
    ) in
    let number = rw c.from.ensures at c.put_field-after_number.ensures.put in
    let all =
    put_whole c.args.told number c.put_field-after_place.ensures.put c.put_field-after_lines.ensures.put
    c.put_field-after_rounds.ensures.put c.put_field.ensures.put in
    record { line_after = all.held; line_unchanged = all.rest; prefix_len = (within, sym (length-take-le _ _ within)) }
