-- `live_members` gathers the members whose mark is 0, place after place. Assumes nothing.
use Rattle.steps.proofs.Strikings.{Gathered}
use Rattle.steps.proofs.strike.live_members.Given as goal

abbrev pub invariant-loop-i : goal.invariant-loop-i
invariant-loop-i l = Gathered l.struck l.members l.m l.initial.live l.live l.i l.count
