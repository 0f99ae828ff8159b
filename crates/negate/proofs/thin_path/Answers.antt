-- `thin_path` lists the path from f: at each turn it has come to a node, whose variable is greater than how many were passed, so there are
-- at most 64. Assumes nothing.
use mathlib.Core.Logic.{⊎_elim}
use mathlib.Core.Path.{◌∙◌}
use Prim.Native.Nat.{◌<◌}
use native.Mathlib.Omega.{arith}
use lib.ListN.{length-set}
use Rattle.negate.proofs.Paths.{going-first, step_room, going_next, further-less}
use Rattle.negate.proofs.thin_path.Goals as goal

pub loop-k-init : goal.loop-k-init
loop-k-init c =
    (c.requires.2, going-first c.args.vars.now c.args.lows.now c.args.highs.now c.args.count c.requires.0 _ _ c.requires.1)

pub bounds-path-depth : goal.bounds-path-depth
bounds-path-depth c =
    omega (
      arith,
      step_room c.args.vars.now c.args.lows.now c.args.highs.now c.args.count c.requires.0 c.loop-k.path _ c.loop-k.depth c.loop-k.k
          c.loop-k.invariant.1 c.loop-k-test.true,
      c.loop-k.invariant.0,
    )

pub loop-k-smaller : goal.loop-k-smaller
loop-k-smaller c =
    omega (
      arith,
      c.further-k.ensures,
      further-less c.args.vars.now c.args.lows.now c.args.highs.now c.args.count c.requires.0 c.loop-k.k c.loop-k-test.true
          c.loop-k.invariant.1.inside,
    )

pub loop-k-preserved : goal.loop-k-preserved
loop-k-preserved c =
    let room : c.loop-k.depth < 64 =
    step_room c.args.vars.now c.args.lows.now c.args.highs.now c.args.count c.requires.0 c.loop-k.path _ c.loop-k.depth c.loop-k.k
    c.loop-k.invariant.1 c.loop-k-test.true in (
      length-set c.loop-k.path c.loop-k.depth c.loop-k.k ∙ c.loop-k.invariant.0,
      going_next c.args.vars.now c.args.lows.now c.args.highs.now c.args.count c.requires.0 c.loop-k.path _ c.loop-k.depth c.loop-k.k
          c.loop-k.invariant.1 c.loop-k-test.true _ (omega (arith, c.loop-k.invariant.0))
          (⊎_elim (λ w q. omega (arith, w)) (λ w q. absurd (omega (arith, w))) c.else-low-ge2.either) c.further-k.ensures,
    )
