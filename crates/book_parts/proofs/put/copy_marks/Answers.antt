-- `copy_marks`: what is written so far is the front of the marks (Writing). Assumes nothing.
use mathlib.Core.Path.{refl, ◌∙◌}
use native.Mathlib.Omega.{arith}
use Rattle.book_parts.proofs.Writing.{front-start, front-next, front-end, map_same}
use Rattle.book_parts.proofs.put.copy_marks.Goals as goal

pub loop-i-init : goal.loop-i-init
loop-i-init c =
    front-start (λ x. x) _ _ _

pub bounds-struck-i : goal.bounds-struck-i
bounds-struck-i c =
    omega (arith, c.loop-i-test.true, c.requires.0, c.loop-i.invariant.long)

pub loop-i-preserved : goal.loop-i-preserved
loop-i-preserved c =
    front-next (λ x. x) _ _ _ c.requires.0 c.requires.1 _ _ c.loop-i.invariant
    c.loop-i-test.true _ refl

pub shape_of-struck : goal.shape_of-struck
shape_of-struck c =
    c.loop-i.invariant.long

pub returns : goal.returns
returns c =
    front-end (λ x. x) _ _ _ c.requires.0 c.requires.1 _ _ c.loop-i.invariant
    c.loop-i-test.false ∙ map_same _
