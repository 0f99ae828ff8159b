-- `strike_step`: the member's mark is 1. Assumes nothing.
use native.Mathlib.Omega.{arith}
use mathlib.Core.Bool.{false}
use Rattle.small.specs.Lent.{words_lent}
use Rattle.small.proofs.RecordWays.{waits-is, strike-next}
use Rattle.small.proofs.record.strike_step.Goals as goal

pub returns : goal.returns
returns c = λ n ms cs H. rw c.from-i.ensures (strike-next n ms c.args.struck.now cs c.args.st c.args.k.0 H
    (waits-is (words_lent ms c.args.struck.now cs) c.args.st c.waits.result false c.waits.ensures c.if-waits.false)
    (omega (arith, c.if-st-i.false, c.from-i.ensures)) (rw c.from-i.ensures at c.if-struck-i-ne0.false))
