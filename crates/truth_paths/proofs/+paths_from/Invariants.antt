-- `paths_from`: the number of variables left falls. Assumes nothing.
use Rattle.std.proofs.Common.{◌-◌}
use Rattle.truth_paths.proofs.+paths_from.Given as goal

abbrev pub decreases-paths_from : goal.decreases-paths_from
decreases-paths_from l = 7 - l.v
