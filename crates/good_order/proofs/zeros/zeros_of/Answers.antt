-- The zeros are counted block by block. Assumes nothing.
use mathlib.Core.Path.{◌≡◌, sym, ap, ◌∙◌}
use lib.ListN.{length}
use native.Mathlib.Omega.{arith}
use borrow.Author.Rules.{rules}
use Rattle.good_order.specs.Tested.{zeros_in}
use Rattle.good_order.proofs.Counting.{zeros-none, zeros-most}
use Rattle.good_order.proofs.zeros.zeros_of.Goals as goal

pub loop-b-init : goal.loop-b-init
loop-b-init c = (search rules, sym (zeros-none c.args.column.now))

pub zeros_between-requires : goal.zeros_between-requires
zeros_between-requires c = (
  omega (arith, c.block_end-end.ensures.0),
  c.block_end-end.ensures.1,
  c.block_end-end.ensures.2,
)

pub overflow_add-zeros : goal.overflow_add-zeros
overflow_add-zeros c =
    omega (
      arith,
      c.loop-b.invariant.1,
      c.zeros_between.ensures,
      zeros-most c.args.column.now c.block_end-end.result,
      c.block_end-end.ensures.1,
    )

pub loop-b-preserved : goal.loop-b-preserved
loop-b-preserved c = (c.block_end-end.ensures.1, omega (arith, c.loop-b.invariant.1, c.zeros_between.ensures))

pub returns : goal.returns
returns c =
    let e : c.loop-b.b ≡ length c.args.column.now = omega (arith, c.loop-b-test.false, c.loop-b.invariant.0) in
    c.loop-b.invariant.1 ∙ ap (zeros_in c.args.column.now) e
