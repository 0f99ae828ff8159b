-- `terminal` tests the numbers in the definition's order. Assumes nothing.
use borrow.Author.Tests.{eq-eqb, ne_eqb, lt-ltb, le-ltb}
use Rattle.operate.specs.Inner.{terminal_of}
use mathlib.Core.Logic.{⊎_elim}
use Rattle.operate.proofs.step.terminal.Goals as goal

pub returns-then-f-eq0 : goal.returns-then-f-eq0
unfolding terminal_of
returns-then-f-eq0 c =
    rw (c.in-Negation.is, eq-eqb _ _ c.if-f-eq0.true)

pub returns-then-f-eq1 : goal.returns-then-f-eq1
unfolding terminal_of
returns-then-f-eq1 c =
    rw (c.in-Negation.is, ne_eqb _ _ c.if-f-eq0.false, eq-eqb _ _ c.if-f-eq1.true)

pub returns-then-f-lt2 : goal.returns-then-f-lt2
unfolding terminal_of
returns-then-f-lt2 c =
    ⊎_elim (λ h. rw (c.in-Cofactor.is, lt-ltb c.args.f.0 2 h))
    (λ h. rw (c.in-Cofactor.is, le-ltb c.args.f.0 2 h.0, eq-eqb c.args.g.0 1 h.1)) c.then-f-lt2.either

pub returns-then-f-g : goal.returns-then-f-g
unfolding terminal_of
returns-then-f-g c =
    rw (
      c.in-Cofactor.is,
      le-ltb _ _ c.if-f-lt2.false,
      ne_eqb _ _ c.if-g-eq1.false,
      eq-eqb _ _ c.if-f-g.true,
    )

pub returns-then-f-lt2-2 : goal.returns-then-f-lt2-2
unfolding terminal_of
returns-then-f-lt2-2 c =
    rw (c.in-Literals.is, lt-ltb _ _ c.if-f-lt2-2.true)

pub returns-in-Conjunction : goal.returns-in-Conjunction
unfolding terminal_of
returns-in-Conjunction c =
    rw c.in-Conjunction.is c.terminal_conjunction.ensures

pub returns-else-f-eq1 : goal.returns-else-f-eq1
unfolding terminal_of
returns-else-f-eq1 c =
    rw (c.in-Negation.is, ne_eqb _ _ c.if-f-eq0.false, ne_eqb _ _ c.if-f-eq1.false)

pub returns-else-f-g : goal.returns-else-f-g
unfolding terminal_of
returns-else-f-g c =
    rw (
      c.in-Cofactor.is,
      le-ltb _ _ c.if-f-lt2.false,
      ne_eqb _ _ c.if-g-eq1.false,
      ne_eqb _ _ c.if-f-g.false,
    )

pub returns-else-f-lt2-2 : goal.returns-else-f-lt2-2
unfolding terminal_of
returns-else-f-lt2-2 c =
    rw (c.in-Literals.is, le-ltb _ _ c.if-f-lt2-2.false)
