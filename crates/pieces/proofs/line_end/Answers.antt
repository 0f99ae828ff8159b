-- The walk to the end of a line, step by step (Ends). Assumes nothing.
use mathlib.Core.Path.{◌≡◌, sym, ◌∙◌}
use native.Mathlib.Omega.{arith}
use lib.ListN.{length}
use Rattle.pieces.proofs.Ends.{line-over, line-stops, line-goes}
use Rattle.pieces.proofs.line_end.Goals as goal

pub returns-then-s-i-eq10 : goal.returns-then-s-i-eq10
returns-then-s-i-eq10 c = line-stops _ _ c.loop-i-test.true c.if-s-i-eq10.true ∙ sym c.loop-i.invariant

pub loop-i-preserved : goal.loop-i-preserved
loop-i-preserved c = c.loop-i.invariant ∙ line-goes _ _ c.loop-i-test.true c.if-s-i-eq10.false

pub returns : goal.returns
returns c =
    let e : length c.args.s.now ≡ c.loop-i.i = omega (arith, c.requires, c.loop-i.auto.i-end) in
    e ∙ line-over _ _ c.loop-i-test.false ∙ sym c.loop-i.invariant
