-- The walk over the list: what is to be found is what is left to be found. Assumes nothing.
use mathlib.Core.Path.{refl, sym, ◌∙◌}
use Prim.Native.Nat.{◌-◌}
use native.Mathlib.Omega.{arith}
use borrow.Author.Rules.{rules}
use Rattle.conflict.proofs.Marks.{listed_here, listed-later, listed-none}
use Rattle.conflict.proofs.has_zero.Goals as goal

-- src/lib.rt:17:5
pub loop-i-init : goal.loop-i-init
loop-i-init c = (omega arith, refl)

-- src/lib.rt:19:13
pub returns-then-list-i-eq0 : goal.returns-then-list-i-eq0
returns-then-list-i-eq0 c = sym (c.loop-i.invariant.1 ∙ listed_here _ _ c.loop-i-test.true 0 c.if-list-i-eq0.true)

-- src/lib.rt:17:5
pub loop-i-preserved : goal.loop-i-preserved
loop-i-preserved c = (
  search rules,
  c.loop-i.invariant.1 ∙ listed-later _ _ c.loop-i-test.true 0
      c.if-list-i-eq0.false,
)

-- src/lib.rt:13:1
pub returns : goal.returns
returns c = sym (c.loop-i.invariant.1 ∙ listed-none c.args.list.now c.loop-i.i 0
    (omega (arith, c.loop-i-test.false)))
