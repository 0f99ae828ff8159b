-- `one_path`: the turn of one path. The idea: cofactors by the path's literals, then UnitProp, are those of the words' diagrams. Assumes
-- nothing.
use mathlib.Core.Path.{refl}
use Rattle.truth_paths.proofs.PathWays.{path-zero}
use Rattle.truth_paths.proofs.one_path.Goals as goal

pub returns-clause-path_says : goal.returns-clause-path_says
returns-clause-path_says c = path-zero c.args.live.now 0 c.args.path.positive
    c.args.path.negative refl c.all_by_literals.new.to
    c.all_by_literals.ensures c.unit_prop.result
    c.unit_prop.ensures.says
