-- `probe` reads inside the memo and ends: the cells before `to` run out. Assumes nothing.
use Rattle.std.proofs.Common.{◌-◌}
use Rattle.memo.proofs.probe.Goals as goal

pub loop-c-init : goal.loop-c-init
loop-c-init c = tt

pub loop-c-preserved : goal.loop-c-preserved
loop-c-preserved c = tt
