-- `at_least_within` says 7, or lends the arrays' first n places to the call. Assumes nothing.
use native.Mathlib.Omega.{arith}
use Rattle.columns.proofs.First.{first-length}
use Rattle.nodes.proofs.First.{at-least-past, at-least-first}
use Rattle.nodes.proofs.within.at_least_within.Goals as goal

pub returns-then-n-gt-MOST : goal.returns-then-n-gt-MOST
returns-then-n-gt-MOST c = at-least-past _ _ _ _ _ _ _ _ _ c.if-n-gt-MOST.true c.requires.0 c.requires.1
    c.requires.2

pub slice_bounds-at_least-end-2 : goal.slice_bounds-at_least-end-2
slice_bounds-at_least-end-2 c = first-length _ _ (omega (arith, c.if-n-gt-MOST.false)) c.requires.0

pub slice_bounds-at_least-end-4 : goal.slice_bounds-at_least-end-4
slice_bounds-at_least-end-4 c = first-length _ _ (omega (arith, c.if-n-gt-MOST.false))
    c.requires.1

pub slice_bounds-at_least-end-6 : goal.slice_bounds-at_least-end-6
slice_bounds-at_least-end-6 c = first-length _ _ (omega (arith, c.if-n-gt-MOST.false))
    c.requires.2

pub returns : goal.returns
returns c =
    at-least-first _ _ _ _ _ _ _ _ _ _ _ _ _ _ _ (omega (arith, c.if-n-gt-MOST.false)) c.requires
    c.at_least.auto.vars c.at_least.auto.lows c.at_least.auto.highs
    c.at_least.ensures
