-- The number of variables left falls with each call: `work_out` stands at the lesser variable of its nodes, `join` at that of its sides.
-- Assumes nothing.
use Rattle.std.proofs.Common.{◌+◌, ◌-◌, ◌*◌}
use Rattle.operate.specs.Inner.{top}
use Rattle.operate.proofs.+join_work_out.Given as goal

abbrev pub decreases-join : goal.decreases-join
decreases-join l = 2 * (65 - l.s.x)

abbrev pub decreases-work_out : goal.decreases-work_out
decreases-work_out l = 2 * (65 - top l.vars.now l.f.0 l.g.0) + 1
