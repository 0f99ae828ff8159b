-- `members_fit`: at the loop's head what is to be said is what is left to be said (Fitting). Assumes nothing.
use Rattle.book_parts.proofs.Fitting.{Fitting}
use Rattle.book_parts.proofs.fits.members_fit.Given as goal

abbrev pub invariant-loop-i : goal.invariant-loop-i
invariant-loop-i l =
    Fitting l.members l.struck l.m l.count l.i
