-- `lent_fits` is the definition's test. Assumes nothing.
use mathlib.Core.Path.{sym, ◌∙◌}
use borrow.Author.Tests.{le-leb, lt-leb, eq-eqb, ne_eqb, not-true, not-false}
use Rattle.check_call.proofs.Sizes.{unfit-columns, fit-columns}
use Rattle.check_call.proofs.lent_fits.Goals as goal

pub returns-then-not-size_fits : goal.returns-then-not-size_fits
returns-then-not-size_fits c =
    sym (unfit-columns _ _ _ _ (sym c.size_fits.ensures ∙ not-true _ c.if-not-size_fits.true-raw))

pub returns-then-members-lt2048 : goal.returns-then-members-lt2048
returns-then-members-lt2048 c =
    sym (fit-columns _ _ _ _ (sym c.size_fits.ensures ∙ not-false _ c.if-not-size_fits.false-raw)
    ∙ rw (lt-leb _ _ c.if-members-lt2048.true))

pub returns-then-struck-members : goal.returns-then-struck-members
returns-then-struck-members c =
    sym (fit-columns _ _ _ _ (sym c.size_fits.ensures ∙ not-false _ c.if-not-size_fits.false-raw)
    ∙ rw (le-leb _ _ c.if-members-lt2048.false, eq-eqb _ _ c.if-struck-members.true))

pub returns-else-struck-members : goal.returns-else-struck-members
returns-else-struck-members c =
    sym (fit-columns _ _ _ _ (sym c.size_fits.ensures ∙ not-false _ c.if-not-size_fits.false-raw)
    ∙ rw (le-leb _ _ c.if-members-lt2048.false, ne_eqb _ _ c.if-struck-members.false))
