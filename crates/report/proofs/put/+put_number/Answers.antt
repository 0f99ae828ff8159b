-- A number's digits: one below 10, else those of its tenth and one more (Putting). Assumes nothing.
use Rattle.std.proofs.Common.{arith}
use Rattle.report.proofs.Digits.{length-small, length_more}
use Rattle.report.proofs.Putting.{put_small, put-more}
use Rattle.report.proofs.put.+put_number.Goals as goal

pub put_byte-requires : goal.put_byte-requires
put_byte-requires t c = omega (arith, length-small _ c.if-n-lt10.true, c.requires)

pub returns-then-n-lt10 : goal.returns-then-n-lt10
returns-then-n-lt10 t c = put_small c.if-n-lt10.true c.put_byte.ensures

pub put_number-next-requires : goal.put_number-next-requires
put_number-next-requires t c = omega (arith, length_more _ c.if-n-lt10.false, c.requires)

pub put_byte-requires-2 : goal.put_byte-requires-2
put_byte-requires-2 t c =
    omega (arith, c.put_number-next.ensures.place, c.put_number-next.auto.line, length_more _ c.if-n-lt10.false, c.requires)

pub returns : goal.returns
returns t c = put-more c.if-n-lt10.false c.put_number-next.ensures c.put_byte-2.ensures
