-- `fork_from` goes down the path and keeps the last fork. Assumes nothing.
use mathlib.Core.Path.{sym, ap, ◌∙◌}
use mathlib.Core.Bool.{true, false}
use Prim.Native.Nat.{◌<◌}
use native.Mathlib.Omega.{arith}
use Rattle.words.specs.declared.Literals.{Literals}
use Rattle.words.specs.Sets.{with_literal}
use Rattle.table.specs.Nodes.{diagram_at}
use Rattle.walks.specs.Readable.{nodes_in}
use Rattle.walks.proofs.Here.{ordered-in, length-in}
use Rattle.paths.specs.Walk.{first_from, found, after_from, fork_in}
use Rattle.paths.proofs.Walks.{one-is, one-not, after-leaf, after-high, after-low, after-fork}
use Rattle.paths.proofs.+fork_from.Goals as goal

pub returns-then-f-lt2-clause-result_value : goal.returns-then-f-lt2-clause-result_value
returns-then-f-lt2-clause-result_value t c =
    let nodes = nodes_in c.args.vars.now c.args.lows.now c.args.highs.now c.args.count in
    sym (after-leaf nodes c.args.f.0 c.args.word c.args.set (fork_in nodes c.args.fork) c.if-f-lt2.true)

pub returns-then-in_word-clause-result_value : goal.returns-then-in_word-clause-result_value
returns-then-in_word-clause-result_value t c =
    let nodes = nodes_in c.args.vars.now c.args.lows.now c.args.highs.now c.args.count in
    let r = c.branch_at-branch.result in
    c.fork_from.ensures.result_value
    ∙ ap (λ (u : Literals). after_from (diagram_at nodes r.high.0) c.args.word u (fork_in nodes c.args.fork)) c.with_literal-over.ensures
    ∙ sym (after-high nodes c.args.f.0 c.args.word r c.args.set (fork_in nodes c.args.fork) c.branch_at-branch.ensures
    (sym c.in_word.ensures ∙ c.if-in_word.true))

pub returns-then-branch-eq1-clause-result_value : goal.returns-then-branch-eq1-clause-result_value
returns-then-branch-eq1-clause-result_value t c =
    let nodes = nodes_in c.args.vars.now c.args.lows.now c.args.highs.now c.args.count in
    let r = c.branch_at-branch.result in
    c.fork_from-then-branch-eq1.ensures.result_value
    ∙ ap (λ (u : Literals). after_from (diagram_at nodes r.low.0) c.args.word u (fork_in nodes c.args.fork)) c.with_literal-under.ensures
    ∙ sym (after-low nodes c.args.f.0 c.args.word r c.args.set (fork_in nodes c.args.fork) c.branch_at-branch.ensures
    (sym c.in_word.ensures ∙ c.if-in_word.false) (one-is nodes r.high.0 c.if-branch-eq1.true))

pub returns-clause-result_value : goal.returns-clause-result_value
returns-clause-result_value t c =
    let nodes = nodes_in c.args.vars.now c.args.lows.now c.args.highs.now c.args.count in
    let r = c.branch_at-branch.result in
    let below : r.high.0 < c.args.count = omega (arith, c.branch_at-branch.ensures.high-less, c.requires.1) in
    c.fork_from-2.ensures.result_value
    ∙ ap (λ (u : Literals). after_from (diagram_at nodes r.low.0) c.args.word c.with_literal-under.result
    (found true (first_from (diagram_at nodes r.high.0) u))) c.with_literal-over.ensures
    ∙ ap (λ (u : Literals). after_from (diagram_at nodes r.low.0) c.args.word u
    (found true (first_from (diagram_at nodes r.high.0) (with_literal c.args.set r.variable true)))) c.with_literal-under.ensures
    ∙ sym (after-fork nodes c.args.f.0 c.args.word r c.args.set (fork_in nodes c.args.fork) c.branch_at-branch.ensures
    (sym c.in_word.ensures ∙ c.if-in_word.false)
    (one-not nodes (ordered-in _ _ _ _ c.requires.0) r.high.0
    (omega (arith, length-in c.args.vars.now c.args.lows.now c.args.highs.now c.args.count c.requires.0)) c.if-branch-eq1.false))
