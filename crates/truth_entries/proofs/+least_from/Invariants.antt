-- `least_from`: the number of variables left falls. Assumes nothing.
use Rattle.std.proofs.Common.{◌-◌}
use Rattle.truth_entries.proofs.+least_from.Given as goal

abbrev pub decreases-least_from : goal.decreases-least_from
decreases-least_from l = 7 - l.v
