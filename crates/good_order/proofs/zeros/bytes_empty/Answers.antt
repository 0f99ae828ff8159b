-- The bytes are or-ed one after another. Assumes nothing.
use native.Mathlib.Omega.{arith}
use Rattle.good_order.proofs.Gathered.{gathered_none, gathered_next, gathered-all}
use Rattle.good_order.proofs.zeros.bytes_empty.Goals as goal

pub loop-i-init : goal.loop-i-init
loop-i-init c = gathered_none _ _ _ c.requires.0

pub loop-i-preserved : goal.loop-i-preserved
loop-i-preserved c =
    gathered_next c.args.bytes.now c.args.from c.args.to c.loop-i.i c.loop-i.all c.loop-i.invariant c.loop-i-test.true

pub returns : goal.returns
returns c = gathered-all _ _ _ _ _ c.loop-i.invariant (omega (arith, c.loop-i-test.false))
