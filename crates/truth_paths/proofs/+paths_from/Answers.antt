-- `paths_from`: the turns of all paths of a word. The idea: a word that depends on v is a node of v over its two sides. Assumes nothing.
use mathlib.Core.Path.{refl, sym, ◌∙◌, subst}
use native.Mathlib.Omega.{arith}
use borrow.Author.Tests.{not-true, not-false}
use Prim.Native.Nat.{ℕ, ◌≤◌}
use Rattle.truth.specs.Tables.{made_true}
use Rattle.words.specs.declared.Literals.{Literals}
use Rattle.truth_paths.specs.Turns.{PathSays}
use Rattle.truth_paths.proofs.PathWords.{node-is, low_free, high-free}
use Rattle.truth_paths.proofs.PathWays.{path-one, path-fails, path-both}
use Rattle.truth_paths.proofs.PathCode.{six_left, free_next, free_at, true-word}
use Rattle.truth_paths.proofs.+paths_from.Goals as goal
use Rattle.truth_paths.proofs.+paths_from.Goals.{Else-w-eq-ONES}

module _ {t : ℕ} (c : Else-w-eq-ONES t) where
  left : c.args.v ≤ 6
  left = six_left c.args.w c.args.v (omega (arith, c.ranges.w)) c.if-w-eq0.false c.if-w-eq-ONES.false c.requires.2 c.requires.3

pub returns-then-w-eq-ONES-clause-path_says : goal.returns-then-w-eq-ONES-clause-path_says
returns-then-w-eq-ONES-clause-path_says t c =
    path-one c.args.live.now c.args.w c.args.path.positive c.args.path.negative c.if-w-eq-ONES.true

pub paths_from-requires : goal.paths_from-requires
paths_from-requires t c = let six : c.args.v ≤ 6 = left (goal.at.paths_from-requires t c).Else-w-eq-ONES in (
  omega (arith, c.decreases, six),
  (
    c.requires.0,
    omega arith,
    omega (arith, six),
    free_next c.args.w c.args.v c.requires.1 (sym c.turn.ensures ∙ c.if-turn-w.true) c.requires.3,
  ),
)

pub paths_from-j-requires : goal.paths_from-j-requires
paths_from-j-requires t c = let six : c.args.v ≤ 6 = left (goal.at.paths_from-j-requires t c).Else-w-eq-ONES in (
  omega (arith, c.decreases, six),
  (
    c.requires.0,
    omega arith,
    omega (arith, six),
    free_at c.make_false-low.result c.args.v
        (low_free c.args.w c.args.v c.requires.1 six (omega (arith, c.ranges.w)) c.make_false-low.result
        (made_true c.args.w c.args.v) c.make_false-low.ensures refl (omega (arith, c.make_false-low.type_inv))
        (true-word c.args.w c.args.v (omega (arith, c.ranges.w))) c.requires.3),
  ),
)

pub returns-then-not-j-clause-path_says : goal.returns-then-not-j-clause-path_says
returns-then-not-j-clause-path_says t c =
    let six : c.args.v ≤ 6 = left (goal.at.returns-then-not-j-clause-path_says t c).Else-w-eq-ONES in
    path-fails c.args.live.now c.args.w c.args.path.positive c.args.path.negative c.args.v c.make_false-low.result (made_true c.args.w c.args.v)
    c.requires.1 (node-is c.args.w c.args.v c.requires.1 six (omega (arith, c.ranges.w)) c.make_false-low.result
    (made_true c.args.w c.args.v) c.make_false-low.ensures refl (omega (arith, c.make_false-low.type_inv))
    (true-word c.args.w c.args.v (omega (arith, c.ranges.w))) c.requires.3
    (λ e. c.if-turn-w.false (c.turn.ensures ∙ e))) c.paths_from-j.result
    (subst (λ (x : Literals). PathSays c.paths_from-j.result c.args.live.now c.make_false-low.result x.positive x.negative)
    c.with_literal-without.ensures c.paths_from-j.ensures.path_says) (not-true _ c.if-not-j.true)

pub paths_from-k-requires : goal.paths_from-k-requires
paths_from-k-requires t c = let six : c.args.v ≤ 6 = left (goal.at.paths_from-k-requires t c).Else-w-eq-ONES in (
  omega (arith, c.decreases, six),
  (
    c.paths_from-j.auto.list ∙ c.requires.0,
    omega arith,
    omega (arith, six),
    free_at c.make_true-high.result c.args.v
        (high-free c.args.w c.args.v c.requires.1 six (omega (arith, c.ranges.w)) c.make_false-low.result
        c.make_true-high.result c.make_false-low.ensures c.make_true-high.ensures (omega (arith, c.make_false-low.type_inv))
        (omega (arith, c.make_true-high.type_inv)) c.requires.3),
  ),
)

pub returns-clause-path_says : goal.returns-clause-path_says
returns-clause-path_says t c =
    let six : c.args.v ≤ 6 = left (goal.at.returns-clause-path_says t c).Else-w-eq-ONES in
    path-both c.args.live.now c.args.w c.args.path.positive c.args.path.negative c.args.v c.make_false-low.result c.make_true-high.result
    c.requires.1 (node-is c.args.w c.args.v c.requires.1 six (omega (arith, c.ranges.w)) c.make_false-low.result
    c.make_true-high.result c.make_false-low.ensures c.make_true-high.ensures (omega (arith, c.make_false-low.type_inv))
    (omega (arith, c.make_true-high.type_inv)) c.requires.3
    (λ e. c.if-turn-w.false (c.turn.ensures ∙ e))) c.paths_from-j.result
    (subst (λ (x : Literals). PathSays c.paths_from-j.result c.args.live.now c.make_false-low.result x.positive x.negative)
    c.with_literal-without.ensures c.paths_from-j.ensures.path_says) (not-false _ c.if-not-j.false) c.paths_from-k.result
    (subst (λ (x : Literals). PathSays c.paths_from-k.result c.args.live.now c.make_true-high.result x.positive x.negative)
    c.with_literal-with.ensures c.paths_from-k.ensures.path_says)
