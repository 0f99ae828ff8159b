-- `paths_left` takes the node's paths off. Assumes nothing.
use native.Mathlib.Omega.{arith}
use Rattle.walks.specs.Readable.{nodes_in}
use Rattle.paths.proofs.Walks.{count-zero, count-one, count-branch}
use Rattle.paths.proofs.+paths_left.Goals as goal

pub returns-then-f-eq0 : goal.returns-then-f-eq0
returns-then-f-eq0 t c =
    omega (
      arith,
      count-zero (nodes_in c.args.vars.now c.args.lows.now c.args.highs.now c.args.count) c.args.f.0 c.if-f-eq0.true,
    )

pub returns-then-f-eq1 : goal.returns-then-f-eq1
returns-then-f-eq1 t c =
    omega (
      arith,
      count-one (nodes_in c.args.vars.now c.args.lows.now c.args.highs.now c.args.count) c.args.f.0 c.if-f-eq1.true,
    )

pub returns : goal.returns
returns t c =
    omega (
      arith,
      c.paths_left.ensures,
      c.paths_left-rest.ensures,
      count-branch (nodes_in c.args.vars.now c.args.lows.now c.args.highs.now c.args.count) c.args.f.0 c.branch_at-branch.result
          c.branch_at-branch.ensures,
    )
