-- The walk over the list: what is to be set is what is left to be set. Assumes nothing.
use mathlib.Core.Path.{refl, sym, ◌∙◌}
use Prim.Native.Nat.{◌-◌}
use native.Mathlib.Omega.{arith}
use lib.ListN.{get_or, length-set}
use borrow.Author.Rules.{rules}
use Rattle.conflict.proofs.Marks.{set-step, set-end}
use Rattle.conflict.proofs.set_all.Goals as goal

-- src/lib.rt:32:5
pub loop-i-init : goal.loop-i-init
loop-i-init c = (refl, omega arith, refl)

-- src/lib.rt:33:17
pub overflow_cast-k : goal.overflow_cast-k
overflow_cast-k c = omega (arith, c.type_inv.list c.loop-i.i)

-- src/lib.rt:34:9
pub bounds-marks-k : goal.bounds-marks-k
bounds-marks-k c = rw c.loop-i.invariant.0
    (c.requires c.loop-i.i c.loop-i-test.true)

-- src/lib.rt:32:5
pub loop-i-preserved : goal.loop-i-preserved
loop-i-preserved c =
    let a = c.args in (
      length-set c.loop-i.marks (get_or a.list.now c.loop-i.i 0) a.mark ∙ c.loop-i.invariant.0,
      search rules,
      c.loop-i.invariant.2 ∙ set-step a.mark c.loop-i.marks a.list.now c.loop-i.i c.loop-i-test.true,
    )

-- src/lib.rt:27:1
pub returns : goal.returns
returns c = sym (c.loop-i.invariant.2 ∙ set-end c.args.mark c.loop-i.marks
    c.args.list.now c.loop-i.i (omega (arith, c.loop-i-test.false)))
