-- A number and its parting byte: at most 21 bytes. Assumes nothing.
use native.Mathlib.Omega.{arith}
use Rattle.report.proofs.Digits.{at-most-20}
use Rattle.report.proofs.Putting.{put_then}
use Rattle.report.proofs.put.put_field.Goals as goal

pub put_number-next-requires : goal.put_number-next-requires
put_number-next-requires c = omega (
  arith,
  at-most-20 c.args.n (omega (arith, c.ranges.n)),
  c.requires,
)

pub put_byte-requires : goal.put_byte-requires
put_byte-requires c =
    omega (
      arith,
      c.put_number-next.ensures.place,
      c.put_number-next.auto.line,
      at-most-20 c.args.n (omega (arith, c.ranges.n)),
      c.requires,
    )

pub returns : goal.returns
returns c = record {
  put = put_then c.put_number-next.ensures c.put_byte.ensures;
  upper_bound = omega (
    arith,
    c.put_number-next.ensures.place,
    c.put_byte.ensures.place,
    at-most-20 c.args.n (omega (arith, c.ranges.n)),
  );
}
