-- `live_words` gathers the members whose mark is 0, place after place. Assumes nothing.
use Rattle.small.proofs.Gathering.{Gathered}
use Rattle.small.proofs.line.live_words.Given as goal

abbrev pub invariant-loop-i : goal.invariant-loop-i
invariant-loop-i l = Gathered l.struck l.members l.m l.initial.live l.live l.i l.count
