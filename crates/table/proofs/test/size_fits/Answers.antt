-- `size_fits` is the definition's test. Assumes nothing.
use Rattle.std.proofs.Common.{sym, eq-eqb, ne_eqb, le-leb}
use borrow.Author.Tests.{lt-leb}
use Rattle.table.specs.Columns.{size_fits}
use Rattle.table.proofs.test.size_fits.Goals as goal

pub returns-then-lows-vars : goal.returns-then-lows-vars
unfolding size_fits
returns-then-lows-vars c = sym (rw (ne_eqb _ _ c.if-lows-vars.true))

pub returns-then-highs-vars : goal.returns-then-highs-vars
unfolding size_fits
returns-then-highs-vars c =
    sym (rw (eq-eqb _ _ c.if-lows-vars.false, ne_eqb _ _ c.if-highs-vars.true))

pub returns-then-vars-lt2 : goal.returns-then-vars-lt2
unfolding size_fits
returns-then-vars-lt2 c =
    sym (rw (eq-eqb _ _ c.if-lows-vars.false, eq-eqb _ _ c.if-highs-vars.false, lt-leb _ _ c.if-vars-lt2.true))

pub returns-then-vars-gt-MOST : goal.returns-then-vars-gt-MOST
unfolding size_fits
returns-then-vars-gt-MOST c =
    sym (rw (
      eq-eqb _ _ c.if-lows-vars.false,
      eq-eqb _ _ c.if-highs-vars.false,
      le-leb _ _ c.if-vars-lt2.false,
      lt-leb _ _ c.if-vars-gt-MOST.true,
    ))

pub returns-then-heads-vars : goal.returns-then-heads-vars
unfolding size_fits
returns-then-heads-vars c =
    sym (rw (
      eq-eqb _ _ c.if-lows-vars.false,
      eq-eqb _ _ c.if-highs-vars.false,
      le-leb _ _ c.if-vars-lt2.false,
      le-leb _ _ c.if-vars-gt-MOST.false,
      eq-eqb _ _ c.if-heads-vars.true,
    ))

pub returns-else-heads-vars : goal.returns-else-heads-vars
unfolding size_fits
returns-else-heads-vars c =
    sym (rw (
      eq-eqb _ _ c.if-lows-vars.false,
      eq-eqb _ _ c.if-highs-vars.false,
      le-leb _ _ c.if-vars-lt2.false,
      le-leb _ _ c.if-vars-gt-MOST.false,
      ne_eqb _ _ c.if-heads-vars.false,
    ))
