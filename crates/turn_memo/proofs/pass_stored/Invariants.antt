-- The walk over the members: those passed have their turns stored, and their rounds are counted. Assumes nothing.
use Prim.Native.Nat.{◌*◌, ◌≤◌}
use Rattle.turn_memo.specs.Turns.{Passes}
use Rattle.turn_memo.proofs.pass_stored.Given as goal

abbrev pub invariant-loop-i : goal.invariant-loop-i
invariant-loop-i l = Passes l.members l.turns l.from l.rounds l.i l.sum × (l.sum ≤ 127 * l.i)
