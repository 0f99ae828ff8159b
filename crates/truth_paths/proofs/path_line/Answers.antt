-- `path_line`: all paths of the root's word, from variable 1 on with no literal. Assumes nothing.
use Rattle.truth_paths.proofs.PathCode.{free-none, line-of-paths}
use native.Mathlib.Omega.{arith}
use Rattle.truth_paths.proofs.path_line.Goals as goal

pub paths_from-requires : goal.paths_from-requires
paths_from-requires c = (c.requires, omega arith, omega arith, free-none c.args.g)

pub returns : goal.returns
returns c = record {
  line_says = line-of-paths c.args.live.now c.args.g c.paths_from.result
      c.paths_from.ensures.path_says;
  rounds_bound = c.paths_from.ensures.rounds_bound;
}
