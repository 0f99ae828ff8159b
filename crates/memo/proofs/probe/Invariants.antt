-- `probe` reads inside the memo and ends: the cells before `to` run out. Assumes nothing.
use Rattle.std.proofs.Common.{◌-◌}
use Rattle.memo.proofs.probe.Given as goal

abbrev pub invariant-loop-c : goal.invariant-loop-c
invariant-loop-c l = Unit {0}

abbrev pub decreases-loop-c : goal.decreases-loop-c
decreases-loop-c l = l.to - l.c
