-- `copy_marks`: what is written so far is the front of the marks (Writing). Assumes nothing.
use Rattle.book_parts.proofs.Writing.{Front}
use Rattle.book_parts.proofs.put.copy_marks.Given as goal

abbrev pub invariant-loop-i : goal.invariant-loop-i
invariant-loop-i l =
    Front (λ x. x) l.marks l.m l.initial.struck l.i l.struck
