-- `skip_between` passes what lies between two tokens. The loop: what is to be passed is what is left to be passed. The measure is what is
-- left of the text. Assumes nothing.
use mathlib.Core.Path.{sym, ◌∙◌, ap}
use native.Mathlib.Omega.{arith}
use Rattle.dimacs.specs.Text.{is_comment, line_end}
use Rattle.dimacs.proofs.Between.{left, between_left, left-comment, between-stop, comment-moves}
use Rattle.dimacs.proofs.text.skip_between.Goals as goal

pub loop-at-init : goal.loop-at-init
loop-at-init c = (omega arith, omega arith, between_left _ _)

pub returns-then-not-is_comment : goal.returns-then-not-is_comment
returns-then-not-is_comment c =
    let none = ap (is_comment _) (sym c.past_class-first.ensures.value) ∙ sym c.is_comment.ensures ∙ c.if-not-is_comment.true in
    record {
      value = sym (c.loop-at.invariant.2 ∙ between-stop _ _ _ none ∙ sym c.past_class-first.ensures.value);
      lower_bound =
          (omega (arith, c.loop-at.invariant.0, c.past_class-first.ensures.lower_bound.0), c.past_class-first.ensures.lower_bound.1);
    }

pub loop-at-smaller : goal.loop-at-smaller
loop-at-smaller c =
    let first = c.past_class-first in
    let some = sym c.is_comment.ensures ∙ c.if-not-is_comment.false in
    omega (
      arith,
      comment-moves _ _ some,
      c.past_class-place.ensures.value,
      first.ensures.lower_bound.0,
      first.ensures.lower_bound.1,
      c.loop-at.invariant.1,
      c.past_class-place.ensures.lower_bound.1,
    )

pub loop-at-preserved : goal.loop-at-preserved
loop-at-preserved c =
    let s = c.args.s.now in
    let first = c.past_class-first in
    let some = ap (is_comment _) (sym first.ensures.value) ∙ sym c.is_comment.ensures
    ∙ c.if-not-is_comment.false in (
      omega (arith, c.loop-at.invariant.0, first.ensures.lower_bound.0, c.past_class-place.ensures.lower_bound.0),
      c.past_class-place.ensures.lower_bound.1,
      c.loop-at.invariant.2
          ∙ left-comment _ _ some ∙ ap (left s) (sym (c.past_class-place.ensures.value ∙ ap (line_end s) first.ensures.value)),
    )
