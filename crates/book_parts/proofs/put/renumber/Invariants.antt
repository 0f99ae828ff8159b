-- `renumber`: what is written so far is the front of the members' numbers (Writing). Assumes nothing.
use Rattle.shares.specs.Shares.{number_in}
use Rattle.book_parts.proofs.Writing.{Front}
use Rattle.book_parts.proofs.put.renumber.Given as goal

abbrev pub invariant-loop-i : goal.invariant-loop-i
invariant-loop-i l =
    Front (number_in l.own) l.found l.m l.initial.members l.i l.members
