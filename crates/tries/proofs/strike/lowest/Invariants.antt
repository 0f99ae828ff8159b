-- `lowest` passes over the members that are not there. Assumes nothing.
use Prim.Native.Nat.{◌≤◌}
use Rattle.tries.proofs.Struck.{NoneBelow}
use Rattle.tries.proofs.strike.lowest.Given as goal

abbrev pub invariant-loop-i : goal.invariant-loop-i
invariant-loop-i l = (l.i ≤ l.m) × NoneBelow l.members l.struck l.g.0 l.i
