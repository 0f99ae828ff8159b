-- The walk over the members: those passed have their turns stored, and their rounds are counted. Assumes nothing.
use native.Mathlib.Omega.{arith}
use borrow.Author.Rules.{rules}
use Rattle.turn_memo.specs.Turns.{here, next}
use Rattle.turn_memo.proofs.pass_stored.Goals as goal

pub loop-i-init : goal.loop-i-init
loop-i-init c = (here, search rules)

pub loop-i-preserved : goal.loop-i-preserved
loop-i-preserved c =
    let w = c.loop-i in
    let h = c.in-Some.ensures in
    (next w.i w.sum c.in-Some.more w.invariant.0 (search rules) h, omega (arith, h.few, w.invariant.1))
