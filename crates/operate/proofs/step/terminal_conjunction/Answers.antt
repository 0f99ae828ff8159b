-- `terminal_conjunction` tests the numbers in the definition's order. Assumes nothing.
use borrow.Author.Tests.{eq-eqb, ne_eqb}
use Rattle.operate.specs.Inner.{terminal_of}
use mathlib.Core.Logic.{⊎_elim}
use Rattle.operate.proofs.step.terminal_conjunction.Goals as goal

pub returns-then-f-eq0 : goal.returns-then-f-eq0
unfolding terminal_of
returns-then-f-eq0 c =
    ⊎_elim (λ h. rw (eq-eqb c.args.f.0 0 h)) (λ h. rw (ne_eqb c.args.f.0 0 h.0, eq-eqb c.args.g.0 0 h.1)) c.then-f-eq0.either

pub returns-then-f-eq1 : goal.returns-then-f-eq1
unfolding terminal_of
returns-then-f-eq1 c =
    rw (ne_eqb _ _ c.if-f-eq0.false, ne_eqb _ _ c.if-g-eq0.false, eq-eqb _ _ c.if-f-eq1.true)

pub returns-then-g-eq1 : goal.returns-then-g-eq1
unfolding terminal_of
returns-then-g-eq1 c =
    ⊎_elim
    (λ h. rw (
      ne_eqb _ _ c.if-f-eq0.false,
      ne_eqb _ _ c.if-g-eq0.false,
      ne_eqb _ _ c.if-f-eq1.false,
      eq-eqb c.args.g.0 1 h,
    ))
    (λ h. rw (
      ne_eqb _ _ c.if-f-eq0.false,
      ne_eqb _ _ c.if-g-eq0.false,
      ne_eqb _ _ c.if-f-eq1.false,
      ne_eqb c.args.g.0 1 h.0,
      eq-eqb c.args.f.0 c.args.g.0 h.1,
    ))
    c.then-g-eq1.either

pub returns : goal.returns
unfolding terminal_of
returns c =
    rw (
      ne_eqb _ _ c.if-f-eq0.false,
      ne_eqb _ _ c.if-g-eq0.false,
      ne_eqb _ _ c.if-f-eq1.false,
      ne_eqb _ _ c.if-g-eq1.false,
      ne_eqb _ _ c.if-f-g.false,
    )
