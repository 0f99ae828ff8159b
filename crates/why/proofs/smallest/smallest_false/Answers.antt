-- `smallest_false`: variable after variable is decided, which keeps the smallest assignment. Assumes nothing.
use mathlib.Core.Path.{refl, ◌∙◌}
use Prim.Native.Nat.{◌-◌}
use native.Mathlib.Omega.{arith}
use Rattle.why.proofs.Deciding.{narrowed-first, narrowed-on, narrowed-last}
use Rattle.why.proofs.smallest.smallest_false.Goals as goal

-- src/smallest.rt:81:5
pub loop-v-init : goal.loop-v-init
loop-v-init c = (refl, narrowed-first _ _ _ c.requires.4)

-- src/smallest.rt:82:13
pub decide-u-requires : goal.decide-u-requires
decide-u-requires c = (
  c.requires.0,
  c.requires.1,
  omega
      (arith, c.requires.2, c.loop-v.invariant.0),
  c.loop-v.invariant.1.least,
  omega
      (arith, c.loop-v-test.true, c.requires.3),
)

-- src/smallest.rt:94:9
pub overflow_add-v : goal.overflow_add-v
overflow_add-v c = omega (
  arith,
  c.loop-v-test.true,
  c.requires.3,
)

-- src/smallest.rt:81:5
pub loop-v-smaller : goal.loop-v-smaller
loop-v-smaller c = omega (arith, c.loop-v-test.true)

-- src/smallest.rt:81:5
pub loop-v-preserved : goal.loop-v-preserved
loop-v-preserved c = (
  c.decide-u.auto.memo ∙ c.loop-v.invariant.0,
  narrowed-on _ c.requires.3 _ _
      c.requires.4.reduced _ _ _
      c.loop-v.invariant.1 c.loop-v-test.true _
      c.decide-u.ensures,
)

-- src/smallest.rt:57:1
pub shape_of-memo : goal.shape_of-memo
shape_of-memo c = c.loop-v.invariant.0

-- src/smallest.rt:57:1
pub returns : goal.returns
returns c = record {
  result_value = narrowed-last _ _ _ _ _ c.loop-v.invariant.1 c.loop-v-test.false;
  by_index =
      c.loop-v.invariant.1.within;
}
