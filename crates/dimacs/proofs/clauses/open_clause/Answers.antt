-- `open_clause` reads to the closing 0. The loop: what is to be read is what is left to be read, with the literals so far. The measure is
-- what is left of the text, since a literal has bytes. Assumes nothing.
use mathlib.Core.Path.{refl, sym, ◌∙◌}
use native.Mathlib.Omega.{arith}
use Rattle.dimacs.proofs.Tokens.{literal-bounds, closing-said, literal-said, wrong-said}
use Rattle.dimacs.proofs.OpenClause.{rest-open, rest-closing, rest-wrong, rest-literal, literal-moves}
use Rattle.dimacs.proofs.clauses.open_clause.Goals as goal

pub loop-at-init : goal.loop-at-init
loop-at-init c = (omega arith, refl)

pub returns-in-Ok-None : goal.returns-in-Ok-None
returns-in-Ok-None c = sym
    (c.loop-at.invariant.1
    ∙ rest-closing _ _ _ _ _ c.loop-at-test.true _ c.past_class-end.ensures.value (closing-said _ _ c.in-Ok-None.ensures c.in-Ok-None.field-0-is))

pub returns-in-Err : goal.returns-in-Err
returns-in-Err c = sym
    (c.loop-at.invariant.1
    ∙ rest-wrong _ _ _ _ _ c.loop-at-test.true _ c.past_class-end.ensures.value _ (wrong-said _ _ c.in-Err.ensures))

pub with_literal-literals-requires : goal.with_literal-literals-requires
with_literal-literals-requires c = let l = literal-bounds _ _ _ _ (literal-said _ _ _ c.in-Ok-Some.ensures c.in-Ok-Some.field-0-is) in
    (l.least, omega (arith, l.most))

pub loop-at-smaller : goal.loop-at-smaller
loop-at-smaller c = omega (
  arith,
  literal-moves _ _ _ _ _ _ c.loop-at-test.true c.past_class-end.ensures.value (literal-said _ _ _ c.in-Ok-Some.ensures c.in-Ok-Some.field-0-is),
)

pub loop-at-preserved : goal.loop-at-preserved
loop-at-preserved c = (
  omega arith,
  c.loop-at.invariant.1
      ∙ rest-literal _ _ _ _ _ c.loop-at-test.true _ c.past_class-end.ensures.value _ _ _
      _ (literal-said _ _ _ c.in-Ok-Some.ensures c.in-Ok-Some.field-0-is) c.skip_between-at.ensures.value
      c.with_literal-literals.ensures,
)

pub returns : goal.returns
returns c = sym (c.loop-at.invariant.1 ∙ rest-open _ _ _ _ _ c.loop-at-test.false)
