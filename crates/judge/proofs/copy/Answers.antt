-- `copy` leaves the list that it was given. The invariant: the places passed are alike. Assumes nothing.
use mathlib.Core.Path.{◌≡◌, refl, ◌∙◌}
use Prim.Native.Nat.{◌-◌, ◌<◌}
use native.Mathlib.Omega.{arith}
use lib.ListN.{length, get_or, length-set}
use borrow.Author.Rules.{rules}
use Rattle.judge.proofs.Copies.{alike-one, alike_all}
use Rattle.judge.proofs.copy.Goals as goal

pub loop-i-init : goal.loop-i-init
loop-i-init c = (refl, omega arith, λ k p. absurd (omega arith))

pub loop-i-preserved : goal.loop-i-preserved
loop-i-preserved c =
    let from = c.args.from.now in
    let inside : c.loop-i.i < length c.loop-i.to = search rules in (
      length-set c.loop-i.to c.loop-i.i (get_or from c.loop-i.i 0) ∙ c.loop-i.invariant.0,
      omega (arith, c.loop-i-test.true),
      alike-one from c.loop-i.to c.loop-i.i inside c.loop-i.invariant.2,
    )

pub returns : goal.returns
returns c =
    let from = c.args.from.now in
    let len : length c.loop-i.to ≡ length from = c.loop-i.invariant.0 ∙ c.requires in
    alike_all from c.loop-i.to c.loop-i.i len (omega (arith, c.loop-i-test.false)) c.loop-i.invariant.2
