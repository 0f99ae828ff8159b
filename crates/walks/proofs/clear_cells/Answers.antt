-- `clear_cells` leaves zeros. The invariant: the first i cells are zeros. Assumes nothing.
use mathlib.Core.Path.{◌≡◌, refl, ◌∙◌}
use Prim.Native.Nat.{◌+◌, ◌-◌, ◌<◌}
use native.Mathlib.Omega.{arith}
use lib.ListN.{length, length-set}
use borrow.Author.Rules.{rules}
use Rattle.walks.proofs.Memo.{stored}
use Rattle.walks.proofs.clear_cells.Goals as goal

pub loop-i-init : goal.loop-i-init
loop-i-init c = (λ k p. absurd (omega arith), search rules, refl)

pub loop-i-preserved : goal.loop-i-preserved
loop-i-preserved c =
    let inside : c.loop-i.i < length c.loop-i.memo = omega (arith, c.loop-i.invariant.2, c.loop-i-test.true, c.requires) in (
      stored (λ j x. j < c.loop-i.i + 1 → x ≡ 0) c.loop-i.memo c.loop-i.i 0 inside (λ _. refl)
          (λ j n p. c.loop-i.invariant.0 j (omega (arith, n))),
      omega arith,
      length-set c.loop-i.memo c.loop-i.i 0 ∙ c.loop-i.invariant.2,
    )

pub returns : goal.returns
returns c =
    λ k p. c.loop-i.invariant.0 k (omega (arith, c.loop-i-test.false))
