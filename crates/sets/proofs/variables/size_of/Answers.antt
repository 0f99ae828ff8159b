-- `size_of` counts the set's variables from the greatest down. Assumes nothing.
use native.Mathlib.Omega.{arith}
use Rattle.sets.proofs.Lower.{lower-is, counting-start, counting-next, counting-end}
use Rattle.sets.proofs.variables.size_of.Goals as goal

pub loop-v-init : goal.loop-v-init
loop-v-init c = counting-start _ _ c.lower_in-v.ensures

pub loop-v-smaller : goal.loop-v-smaller
loop-v-smaller c =
    omega (arith, c.lower_in-v-in-loop-v.ensures, (lower-is c.args.set _ c.loop-v-test.true).less)

pub loop-v-preserved : goal.loop-v-preserved
loop-v-preserved c = counting-next _ _ _ _ c.loop-v.invariant c.loop-v-test.true c.lower_in-v-in-loop-v.ensures

pub returns : goal.returns
returns c = counting-end _ _ _ c.loop-v.invariant c.loop-v-test.false
