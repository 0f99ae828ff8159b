-- The walk to the end of a token, step by step (Ends). Assumes nothing.
use mathlib.Core.Path.{◌≡◌, sym, ◌∙◌}
use native.Mathlib.Omega.{arith}
use lib.ListN.{length}
use Rattle.pieces.proofs.Ends.{token-over, token-stops, token-goes}
use Rattle.pieces.proofs.token_end.Goals as goal

pub returns-then-parts : goal.returns-then-parts
returns-then-parts c =
    token-stops _ _ c.loop-i-test.true (sym c.if-parts.true ∙ c.parts.ensures) ∙ sym c.loop-i.invariant

pub loop-i-preserved : goal.loop-i-preserved
loop-i-preserved c =
    c.loop-i.invariant ∙ token-goes _ _ c.loop-i-test.true (sym c.if-parts.false ∙ c.parts.ensures)

pub returns : goal.returns
returns c =
    let e : length c.args.s.now ≡ c.loop-i.i = omega (arith, c.requires, c.loop-i.auto.i-end) in
    e ∙ token-over _ _ c.loop-i-test.false ∙ sym c.loop-i.invariant
