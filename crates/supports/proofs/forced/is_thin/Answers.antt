-- The walk ends, for a child has a smaller number. Assumes nothing.
use native.Mathlib.Omega.{arith}
use Rattle.supports.proofs.ForcedWords.{children-less}
use Rattle.supports.proofs.forced.is_thin.Goals as goal

pub loop-k-smaller-then-low-lt2 : goal.loop-k-smaller-then-low-lt2
loop-k-smaller-then-low-lt2 c =
    (children-less c.args.lows.now c.args.highs.now c.args.f.0 c.requires c.loop-k.k c.loop-k-test.true c.loop-k.invariant).3

pub loop-k-preserved-then-low-lt2 : goal.loop-k-preserved-then-low-lt2
loop-k-preserved-then-low-lt2 c =
    omega (
      arith,
      (children-less c.args.lows.now c.args.highs.now c.args.f.0 c.requires c.loop-k.k c.loop-k-test.true c.loop-k.invariant).3,
      c.loop-k.invariant,
    )

pub loop-k-smaller : goal.loop-k-smaller
loop-k-smaller c =
    (children-less c.args.lows.now c.args.highs.now c.args.f.0 c.requires c.loop-k.k c.loop-k-test.true c.loop-k.invariant).2

pub loop-k-preserved : goal.loop-k-preserved
loop-k-preserved c =
    omega (
      arith,
      (children-less c.args.lows.now c.args.highs.now c.args.f.0 c.requires c.loop-k.k c.loop-k-test.true c.loop-k.invariant).2,
      c.loop-k.invariant,
    )
