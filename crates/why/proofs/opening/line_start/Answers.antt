-- `line_start`: what is to be found is what is left to be found. The measure is what is left of the records. Assumes nothing.
use mathlib.Core.Path.{◌≡◌, sym, ap, ◌∙◌}
use Prim.Native.Nat.{ℕ, ◌-◌}
use native.Mathlib.Omega.{arith}
use Rattle.commands.proofs.Stream.{record-short}
use Rattle.why.specs.Again.{line_start}
use Rattle.why.proofs.Again.{walk-most, start-goes, start-ends}
use Rattle.why.proofs.opening.line_start.Goals as goal

pub loop-at-init : goal.loop-at-init
loop-at-init c =
    let none-off : c.args.to - 0 ≡ c.args.to = omega arith in
    (c.requires.1, ap (λ (k : ℕ). line_start k c.args.proof.now 0 0 c.args.to) none-off)

pub record_from-record-requires : goal.record_from-record-requires
record_from-record-requires c = omega (arith, c.loop-at-test.true, c.requires.0)

pub overflow_add-next : goal.overflow_add-next
overflow_add-next c = omega (
  arith,
  c.loop-at-test.true,
  c.requires.0,
  c.record_length.ensures,
  record-short c.record_from-record.result,
)

pub loop-at-smaller : goal.loop-at-smaller
loop-at-smaller c =
    let g = start-goes _ _ _ _ c.loop-at.invariant.0 c.loop-at-test.true _
    c.record_from-record.ensures _ c.record_length.ensures _ c.start_behind-start.ensures in
    omega (arith, g.0, walk-most _ _ _ g.1, c.loop-at-test.true)

pub loop-at-preserved : goal.loop-at-preserved
loop-at-preserved c =
    let g = start-goes _ _ _ _ c.loop-at.invariant.0 c.loop-at-test.true _
    c.record_from-record.ensures _ c.record_length.ensures _ c.start_behind-start.ensures in
    (g.1, sym g.2 ∙ c.loop-at.invariant.1)

pub returns : goal.returns
returns c = sym (start-ends _ _ _ _ c.loop-at-test.false) ∙ c.loop-at.invariant.1
