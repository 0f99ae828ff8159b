-- The zeros are counted one after another. Assumes nothing.
use mathlib.Core.Path.{◌≡◌, ap, ◌∙◌}
use native.Mathlib.Omega.{arith}
use borrow.Author.Rules.{rules}
use Rattle.good_order.specs.Tested.{zeros_in}
use Rattle.good_order.proofs.Counting.{zeros-more, zeros-as-before}
use Rattle.good_order.proofs.zeros.zeros_between.Goals as goal
use Rattle.good_order.proofs.zeros.zeros_between.Goals.{then-column-i-eq0, else-column-i-eq0}

pub loop-i-preserved : goal.loop-i-preserved
loop-i-preserved c =
    elim c.if-column-i-eq0.branch [
      | then-column-i-eq0 y ↦ (
        search rules,
        search rules,
        omega
            (arith, c.loop-i.invariant.2, zeros-more c.args.column.now c.loop-i.i y.if-column-i-eq0.true),
      )
      | else-column-i-eq0 y ↦ (
        search rules,
        search rules,
        omega
            (arith, c.loop-i.invariant.2, zeros-as-before c.args.column.now c.loop-i.i y.if-column-i-eq0.false),
      )
    ]

pub returns : goal.returns
returns c =
    let e : c.loop-i.i ≡ c.args.to = omega (arith, c.loop-i-test.false) in
    c.loop-i.invariant.2 ∙ ap (zeros_in c.args.column.now) e
