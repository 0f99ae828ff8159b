-- `members_fit`: at the loop's head what is to be said is what is left to be said (Fitting). Assumes nothing.
use native.Mathlib.Omega.{arith}
use Rattle.book_parts.proofs.Fitting.{fitting-start, fitting-end, member-beyond, mark-beyond, fitting-next}
use Rattle.book_parts.proofs.fits.members_fit.Goals as goal

pub loop-i-init : goal.loop-i-init
loop-i-init c =
    fitting-start _ _ _ _

pub overflow_cast-members : goal.overflow_cast-members
overflow_cast-members c =
    omega (arith, c.shared_slice_known-1.given c.loop-i.i)

pub returns-then-count-members : goal.returns-then-count-members
returns-then-count-members c =
    member-beyond _ _ _ _ c.requires.0 c.requires.1 _ c.loop-i.invariant
    c.loop-i-test.true c.if-count-members.true

pub returns-then-struck-i-ge2 : goal.returns-then-struck-i-ge2
returns-then-struck-i-ge2 c =
    mark-beyond _ _ _ _ c.requires.0 c.requires.1 _ c.loop-i.invariant
    c.loop-i-test.true c.if-struck-i-ge2.true

pub loop-i-preserved : goal.loop-i-preserved
loop-i-preserved c =
    fitting-next _ _ _ _ c.requires.0 c.requires.1 _ c.loop-i.invariant
    c.loop-i-test.true (omega (arith, c.if-count-members.false)) (omega (arith, c.if-struck-i-ge2.false))

pub returns : goal.returns
returns c =
    fitting-end _ _ _ _ c.requires.0 c.requires.1 _ c.loop-i.invariant c.loop-i-test.false
