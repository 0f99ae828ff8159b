-- `clause_literals` puts literal after literal, up to the closing 0. The loop: what is to be written is what is left to be written. The
-- measure is what is left of the text, since a token has bytes. Assumes nothing.
use mathlib.Core.Path.{refl, sym, ap, ◌∙◌}
use Prim.Native.Nat.{ℕ, ◌+◌}
use native.Mathlib.Omega.{arith}
use Rattle.dimacs.specs.Clauses.{literal_then}
use Rattle.dimacs.proofs.Tokens.{literal-bounds, closing-said, literal-said, wrong-said}
use Rattle.convert.specs.Convert.{binary_literals}
use Rattle.convert.specs.Inner.{literal_made, poured}
use Rattle.convert.proofs.Pouring.{put_one, leads-literal, leads-closed, leads-refused, long_as}
use Rattle.convert.proofs.Clauses.{text_rest, text-open, text-closing, text-wrong, text-literal}
use Rattle.convert.proofs.from_text.clause_literals.Invariants.{bytes}
use Rattle.convert.proofs.from_text.clause_literals.Goals as goal

pub loop-at-init : goal.loop-at-init
loop-at-init c = (omega arith, refl, λ o r W. W)

pub returns-in-Ok-None : goal.returns-in-Ok-None
returns-in-Ok-None c =
    leads-closed binary_literals (poured c.args.out.now c.args.many) (text_rest c.args.text.now c.args.first c.args.from) _ _
    c.loop-at.invariant.2 _ _ _ _
    (text-closing _ _ _ c.loop-at-test.true (closing-said _ _ c.in-Ok-None.ensures c.in-Ok-None.field-0-is))
    (c.put.ensures ∙ sym (put_one _ 0))

pub returns-in-Err : goal.returns-in-Err
returns-in-Err c =
    leads-refused binary_literals (poured c.args.out.now c.args.many) (text_rest c.args.text.now c.args.first c.args.from) _ _
    c.loop-at.invariant.2 _ _ c.loop-at.out
    (text-wrong _ _ _ c.loop-at-test.true _ (wrong-said _ _ c.in-Err.ensures)) refl

pub put_groups-bytes-requires : goal.put_groups-bytes-requires
put_groups-bytes-requires c = (literal-bounds _ _ _ _ (literal-said _ _ _ c.in-Ok-Some.ensures c.in-Ok-Some.field-0-is)).most

pub overflow_add-end : goal.overflow_add-end
overflow_add-end c =
    let l = text-literal c.args.text.now c.args.first c.loop-at.at c.loop-at-test.true _ _ (c.loop-at.at + c.token_length.result)
    (literal-said _ _ _ c.in-Ok-Some.ensures c.in-Ok-Some.field-0-is) (ap (λ (k : ℕ). c.loop-at.at + k) c.token_length.ensures) in
    omega (arith, l.within)

pub skip_between-at-requires : goal.skip_between-at-requires
skip_between-at-requires c =
    let l = text-literal c.args.text.now c.args.first c.loop-at.at c.loop-at-test.true _ _ (c.loop-at.at + c.token_length.result)
    (literal-said _ _ _ c.in-Ok-Some.ensures c.in-Ok-Some.field-0-is) (ap (λ (k : ℕ). c.loop-at.at + k) c.token_length.ensures) in
    l.within

pub loop-at-smaller : goal.loop-at-smaller
loop-at-smaller c =
    let l = text-literal c.args.text.now c.args.first c.loop-at.at c.loop-at-test.true _ _ (c.loop-at.at + c.token_length.result)
    (literal-said _ _ _ c.in-Ok-Some.ensures c.in-Ok-Some.field-0-is) (ap (λ (k : ℕ). c.loop-at.at + k) c.token_length.ensures) in
    omega (arith, l.moves, c.skip_between-at.ensures.lower_bound.0, c.skip_between-at.ensures.lower_bound.1)

pub loop-at-preserved : goal.loop-at-preserved
loop-at-preserved c =
    let l = text-literal c.args.text.now c.args.first c.loop-at.at c.loop-at-test.true _ _ (c.loop-at.at + c.token_length.result)
    (literal-said _ _ _ c.in-Ok-Some.ensures c.in-Ok-Some.field-0-is) (ap (λ (k : ℕ). c.loop-at.at + k) c.token_length.ensures) in
    let m = literal_made c.in-Ok-Some.l.variable c.in-Ok-Some.l.positive in (
      c.skip_between-at.ensures.lower_bound.1,
      long_as _ _ _ c.put_groups-bytes.ensures ∙ c.loop-at.invariant.1,
      leads-literal binary_literals (poured c.args.out.now c.args.many) (text_rest c.args.text.now c.args.first c.args.from) _ _
          c.loop-at.invariant.2 m (bytes m)
          (text_rest c.args.text.now c.args.first c.skip_between-at.result)
          (λ ls. refl)
          (l.goes ∙ ap (λ (p : ℕ). literal_then m (text_rest c.args.text.now c.args.first p)) (sym c.skip_between-at.ensures.value)) _
          c.put_groups-bytes.ensures,
    )

pub returns : goal.returns
returns c =
    leads-refused binary_literals (poured c.args.out.now c.args.many) (text_rest c.args.text.now c.args.first c.args.from) _ _
    c.loop-at.invariant.2 _
    _ c.loop-at.out (text-open _ _ _ c.loop-at-test.false) refl
