-- `check_within` says 7, or lends the arrays' first n places to the check. Assumes nothing.
use native.Mathlib.Omega.{arith}
use Rattle.columns.proofs.First.{first-length}
use Rattle.node_check.proofs.First.{check-past, check-first}
use Rattle.node_check.proofs.within.check_within.Goals as goal

pub returns-then-n-gt-MOST : goal.returns-then-n-gt-MOST
returns-then-n-gt-MOST c =
    check-past _ _ _ _ _ _ _ _ _ _ _ _ _ c.if-n-gt-MOST.true c.requires.0 c.requires.1 c.requires.2

pub slice_bounds-check_form-end-2 : goal.slice_bounds-check_form-end-2
slice_bounds-check_form-end-2 c =
    first-length _ _ (omega (arith, c.if-n-gt-MOST.false)) c.requires.0

pub slice_bounds-check_form-end-4 : goal.slice_bounds-check_form-end-4
slice_bounds-check_form-end-4 c =
    first-length _ _ (omega (arith, c.if-n-gt-MOST.false)) c.requires.1

pub slice_bounds-check_form-end-6 : goal.slice_bounds-check_form-end-6
slice_bounds-check_form-end-6 c =
    first-length _ _ (omega (arith, c.if-n-gt-MOST.false)) c.requires.2

pub returns : goal.returns
returns c =
    check-first _ _ _ _ _ _ _ _ _ _ _ _ _ _ _ _ _ _ _ _ _ _ (omega (arith, c.if-n-gt-MOST.false)) c.requires
    c.check_form.auto.vars c.check_form.auto.lows c.check_form.auto.highs
    c.check_form.ensures.result_after
