-- `value_of` gives the node's value. Assumes nothing.
use mathlib.Core.Path.{sym, ◌∙◌}
use native.Mathlib.Omega.{arith}
use Rattle.walks.proofs.Here.{Here, here}
use Rattle.walks.proofs.Values.{value-high, value_low, value-end}
use Rattle.walks.proofs.value_of.Goals as goal

-- src/lib.rt:26:22
pub overflow_sub-v : goal.overflow_sub-v
overflow_sub-v c = (here _ _ _ _ c.requires.0 _ c.loop-k-test.true c.loop-k.invariant.0).least

-- src/lib.rt:26:13
pub overflow_shr-word : goal.overflow_shr-word
overflow_shr-word c =
    let h : Here c.args.vars.now c.args.lows.now c.args.highs.now c.args.count c.loop-k.k =
    here _ _ _ _ c.requires.0 _ c.loop-k-test.true c.loop-k.invariant.0 in omega (arith, h)

-- src/lib.rt:24:5
pub loop-k-smaller-then-word-v-eq1 : goal.loop-k-smaller-then-word-v-eq1
loop-k-smaller-then-word-v-eq1 c = (here _ _ _ _ c.requires.0 _ c.loop-k-test.true c.loop-k.invariant.0).high-less

-- src/lib.rt:24:5
pub loop-k-preserved-then-word-v-eq1 : goal.loop-k-preserved-then-word-v-eq1
loop-k-preserved-then-word-v-eq1 c =
    let h : Here c.args.vars.now c.args.lows.now c.args.highs.now c.args.count c.loop-k.k =
    here _ _ _ _ c.requires.0 _ c.loop-k-test.true c.loop-k.invariant.0 in (
      omega (arith, h),
      value-high _ _ _ _ _ _ c.requires.0 c.loop-k-test.true c.loop-k.invariant.0 c.if-word-v-eq1.true
          ∙ c.loop-k.invariant.1,
    )

-- src/lib.rt:24:5
pub loop-k-smaller : goal.loop-k-smaller
loop-k-smaller c = (here _ _ _ _ c.requires.0 _ c.loop-k-test.true c.loop-k.invariant.0).low-less

-- src/lib.rt:24:5
pub loop-k-preserved : goal.loop-k-preserved
loop-k-preserved c =
    let h : Here c.args.vars.now c.args.lows.now c.args.highs.now c.args.count c.loop-k.k =
    here _ _ _ _ c.requires.0 _ c.loop-k-test.true c.loop-k.invariant.0 in (
      omega (arith, h),
      value_low _ _ _ _ _ _ c.requires.0 c.loop-k-test.true c.loop-k.invariant.0 c.if-word-v-eq1.false
          ∙ c.loop-k.invariant.1,
    )

-- src/lib.rt:12:1
pub returns : goal.returns
returns c = sym (value-end _ _ _ c.loop-k-test.false) ∙ c.loop-k.invariant.1
