-- `path_after` gives the first path of the last fork. Assumes nothing.
use mathlib.Core.Path.{ap, ◌∙◌}
use mathlib.Core.Bool.{false}
use native.Mathlib.Omega.{arith}
use Rattle.words.specs.declared.Literals.{Literals}
use Rattle.words.specs.Sets.{no_literals}
use Rattle.table.specs.Nodes.{diagram_at}
use Rattle.walks.specs.Readable.{nodes_in}
use Rattle.paths.specs.Walk.{found, after_from}
use Rattle.paths.proofs.Walks.{first_leaf}
use Rattle.paths.proofs.path_after.Goals as goal

pub returns : goal.returns
returns c =
    let nodes = nodes_in c.args.vars.now c.args.lows.now c.args.highs.now c.args.count in
    ap (found c.fork_from-fork.result.found) c.first_from.ensures ∙ c.fork_from-fork.ensures.result_value
    ∙ ap (λ (u : Literals). after_from (diagram_at nodes c.args.f.0) c.args.word no_literals (found false u))
    (first_leaf nodes 0 no_literals (omega arith))
