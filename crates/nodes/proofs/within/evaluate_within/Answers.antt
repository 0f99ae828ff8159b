-- `evaluate_within` says 7, or lends the arrays' first n places to the evaluation. Assumes nothing.
use native.Mathlib.Omega.{arith}
use Rattle.columns.proofs.First.{first-length}
use Rattle.nodes.proofs.First.{evaluation-past, evaluation-first}
use Rattle.nodes.proofs.within.evaluate_within.Goals as goal

pub returns-then-n-gt-MOST : goal.returns-then-n-gt-MOST
returns-then-n-gt-MOST c = evaluation-past _ _ _ _ _ _ _ _ _ c.if-n-gt-MOST.true

pub slice_bounds-evaluate-end : goal.slice_bounds-evaluate-end
slice_bounds-evaluate-end c = first-length _ _ (omega (arith, c.if-n-gt-MOST.false)) c.requires.0

pub slice_bounds-evaluate-end-2 : goal.slice_bounds-evaluate-end-2
slice_bounds-evaluate-end-2 c = first-length _ _ (omega (arith, c.if-n-gt-MOST.false))
    c.requires.1

pub slice_bounds-evaluate-end-3 : goal.slice_bounds-evaluate-end-3
slice_bounds-evaluate-end-3 c = first-length _ _ (omega (arith, c.if-n-gt-MOST.false)) c.requires.2

pub returns : goal.returns
returns c = evaluation-first _ _ _ _ _ _ _ _ _ _ (omega (arith, c.if-n-gt-MOST.false)) c.evaluate.ensures
