-- `first_from` goes down the first path. Assumes nothing.
use mathlib.Core.Path.{sym, ap, ◌∙◌}
use mathlib.Core.Bool.{Bool, cond, true, false}
use Prim.Native.Nat.{◌<◌}
use native.Mathlib.Omega.{arith}
use Rattle.words.specs.Sets.{with_literal}
use Rattle.table.specs.Nodes.{diagram_at}
use Rattle.walks.specs.Readable.{nodes_in}
use Rattle.walks.proofs.Here.{ordered-in, length-in}
use Rattle.paths.specs.Walk.{first_from}
use Rattle.paths.proofs.Walks.{one-is, one-not, first_leaf, first-branch}
use Rattle.paths.proofs.+first_from.Goals as goal

pub returns-then-f-lt2 : goal.returns-then-f-lt2
returns-then-f-lt2 t c =
    sym (first_leaf (nodes_in c.args.vars.now c.args.lows.now c.args.highs.now c.args.count) c.args.f.0 c.args.set c.if-f-lt2.true)

pub returns-then-branch-eq1 : goal.returns-then-branch-eq1
returns-then-branch-eq1 t c =
    let nodes = nodes_in c.args.vars.now c.args.lows.now c.args.highs.now c.args.count in
    let l = c.branch_at-branch.result.low.0 in
    let h = c.branch_at-branch.result.high.0 in
    let v = c.branch_at-branch.result.variable in
    c.first_from.ensures ∙ ap (first_from (diagram_at nodes h)) c.with_literal-over.ensures
    ∙ sym (first-branch nodes c.args.f.0 c.branch_at-branch.result c.args.set c.branch_at-branch.ensures
    ∙ ap (λ (x : Bool). cond x (first_from (diagram_at nodes h) (with_literal c.args.set v true))
    (first_from (diagram_at nodes l) (with_literal c.args.set v false))) (one-is nodes l c.if-branch-eq1.true))

pub returns : goal.returns
returns t c =
    let nodes = nodes_in c.args.vars.now c.args.lows.now c.args.highs.now c.args.count in
    let l = c.branch_at-branch.result.low.0 in
    let h = c.branch_at-branch.result.high.0 in
    let v = c.branch_at-branch.result.variable in
    let below : l < c.args.count = omega (arith, c.branch_at-branch.ensures.low-less, c.requires.1) in
    c.first_from-2.ensures ∙ ap (first_from (diagram_at nodes l)) c.with_literal-under.ensures
    ∙ sym (first-branch nodes c.args.f.0 c.branch_at-branch.result c.args.set c.branch_at-branch.ensures
    ∙ ap (λ (x : Bool). cond x (first_from (diagram_at nodes h) (with_literal c.args.set v true))
    (first_from (diagram_at nodes l) (with_literal c.args.set v false)))
    (one-not nodes (ordered-in _ _ _ _ c.requires.0) l
    (omega (arith, length-in c.args.vars.now c.args.lows.now c.args.highs.now c.args.count c.requires.0)) c.if-branch-eq1.false))
