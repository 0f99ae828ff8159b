-- `open_groups` reads to the zero byte. The loop: what is to be read is what is left to be read, with the literals so far. The measure is
-- what is left of the proof, since groups have bytes. Assumes nothing.
use mathlib.Core.Path.{refl, sym, ap, ◌∙◌}
use Prim.Native.Nat.{ℕ}
use native.Mathlib.Omega.{arith}
use Rattle.std.specs.Prelude.{Err}
use Rattle.dimacs.specs.Inner.{refusal_at}
use Rattle.commands.proofs.OpenGroups.{rest-open, rest-closing, rest-wrong, rest-literal, literal-in}
use Rattle.commands.proofs.binary.open_groups.Goals as goal

pub loop-at-init : goal.loop-at-init
loop-at-init c = (omega arith, refl)

pub returns-in-Ok-None : goal.returns-in-Ok-None
returns-in-Ok-None c = sym
    (c.loop-at.invariant.1
    ∙ rest-closing _ _ _ _ c.groups_at-groups.ensures _ _ c.loop-at-test.true _ c.in-Ok-None.is
    (rw c.in-Ok-None.is at c.in-Ok-None.field-0-is))

pub returns-in-Err : goal.returns-in-Err
returns-in-Err c = sym
    (c.loop-at.invariant.1
    ∙ rest-wrong _ _ _ _ c.groups_at-groups.ensures _ _ c.loop-at-test.true _ c.in-Err.is
    ∙ ap (λ (m : ℕ). Err (refusal_at c.in-Err.number m)) (sym c.fault_place.ensures))

pub with_literal-literals-requires : goal.with_literal-literals-requires
with_literal-literals-requires c =
    let l = literal-in c.args.s.now c.args.variables c.loop-at.at _ c.groups_at-groups.ensures _ _ c.in-Ok-Some.is
    (rw c.in-Ok-Some.is at c.in-Ok-Some.field-0-is) in
    (l.least, omega (arith, l.most))

pub loop-at-smaller : goal.loop-at-smaller
loop-at-smaller c =
    let l = literal-in c.args.s.now c.args.variables c.loop-at.at _ c.groups_at-groups.ensures _ _ c.in-Ok-Some.is
    (rw c.in-Ok-Some.is at c.in-Ok-Some.field-0-is) in
    omega (arith, l.moves)

pub loop-at-preserved : goal.loop-at-preserved
loop-at-preserved c =
    let l = literal-in c.args.s.now c.args.variables c.loop-at.at _ c.groups_at-groups.ensures _ _ c.in-Ok-Some.is
    (rw c.in-Ok-Some.is at c.in-Ok-Some.field-0-is) in (
      l.within,
      c.loop-at.invariant.1
          ∙ rest-literal _ _ _ _ c.groups_at-groups.ensures _ _ c.loop-at-test.true _ _ _ c.in-Ok-Some.is
          (rw c.in-Ok-Some.is at c.in-Ok-Some.field-0-is)
          c.with_literal-literals.ensures,
    )

pub returns : goal.returns
returns c = sym (c.loop-at.invariant.1 ∙ rest-open _ _ _ _ _ c.loop-at-test.false)
