-- `lowest` passes over the members that are not there. Assumes nothing.
use mathlib.Core.Path.{sym, ◌∙◌}
use native.Mathlib.Omega.{arith}
use Rattle.tries.proofs.Struck.{none_more, there-lowest, none-lowest}
use Rattle.tries.proofs.strike.lowest.Goals as goal

pub loop-i-init : goal.loop-i-init
loop-i-init c = (omega arith, λ k p. absurd (omega arith))

pub returns-then-is_there : goal.returns-then-is_there
returns-then-is_there c =
    there-lowest _ _ _ _ _ c.loop-i.invariant.0 c.loop-i.invariant.1 (sym c.is_there.ensures ∙ c.if-is_there.true)

pub loop-i-preserved : goal.loop-i-preserved
loop-i-preserved c =
    let s = c.args in (
      omega (arith, c.loop-i-test.true),
      none_more s.members.now s.struck.now s.g.0 _ c.loop-i.invariant.1
          (sym c.is_there.ensures ∙ c.if-is_there.false),
    )

pub returns : goal.returns
returns c = none-lowest _ _ _ _ _ c.loop-i-test.false c.loop-i.invariant.1
