-- The search from the home on stays among the cells. Assumes nothing.
use Prim.Native.Nat.{◌<◌}
use Rattle.turn_memo.proofs.cell_of.Given as goal

abbrev pub invariant-loop : goal.invariant-loop
invariant-loop l = l.c < 4096
