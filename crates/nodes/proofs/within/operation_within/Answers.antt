-- `operation_within` says 7, or lends the arrays' first n places to the operation. Assumes nothing.
use native.Mathlib.Omega.{arith}
use Rattle.columns.proofs.First.{first-length}
use Rattle.nodes.proofs.First.{operation-past, operation-first}
use Rattle.nodes.proofs.within.operation_within.Goals as goal

pub returns-then-n-gt-MOST : goal.returns-then-n-gt-MOST
returns-then-n-gt-MOST c = operation-past _ _ _ _ _ _ _ _ _ _ c.if-n-gt-MOST.true c.requires.0 c.requires.1
    c.requires.2

pub slice_bounds-call-end-2 : goal.slice_bounds-call-end-2
slice_bounds-call-end-2 c = first-length _ _ (omega (arith, c.if-n-gt-MOST.false)) c.requires.0

pub slice_bounds-call-end-4 : goal.slice_bounds-call-end-4
slice_bounds-call-end-4 c = first-length _ _ (omega (arith, c.if-n-gt-MOST.false))
    c.requires.1

pub slice_bounds-call-end-6 : goal.slice_bounds-call-end-6
slice_bounds-call-end-6 c = first-length _ _ (omega (arith, c.if-n-gt-MOST.false))
    c.requires.2

pub returns : goal.returns
returns c =
    operation-first _ _ _ _ _ _ _ _ _ _ _ _ _ _ _ _ _ (omega (arith, c.if-n-gt-MOST.false)) c.requires
    c.call.auto.vars c.call.auto.lows c.call.auto.highs
    c.second-h.ensures.0 c.call.ensures
