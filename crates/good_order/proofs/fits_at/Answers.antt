-- `fits_at` is the definition's test: each refusal makes one part of it false. Assumes nothing.
use mathlib.Core.Path.{sym, ◌∙◌}
use native.Mathlib.Omega.{arith}
use borrow.Author.Tests.{not-true, not-false}
use Rattle.table.proofs.Places.{fits_read, unfit-zero, unfit-great, unfit-low, unfit-high, unfit-equal, unfit-above, fit-above}
use Rattle.good_order.proofs.fits_at.Goals as goal

pub returns-then-v-lt1 : goal.returns-then-v-lt1
returns-then-v-lt1 c =
    sym (fits_read _ _ _ c.requires.0 c.requires.1 _ ∙ unfit-zero _ _ _ _ _ c.if-v-lt1.true)

pub returns-then-v-gt64 : goal.returns-then-v-gt64
returns-then-v-gt64 c =
    sym (fits_read _ _ _ c.requires.0 c.requires.1 _ ∙ unfit-great _ _ _ _ _ c.if-v-gt64.true)

pub overflow_cast-l : goal.overflow_cast-l
overflow_cast-l c =
    omega (arith, c.shared_slice_known-5-1.given c.args.k)

pub returns-then-k-l : goal.returns-then-k-l
returns-then-k-l c =
    sym (fits_read _ _ _ c.requires.0 c.requires.1 _ ∙ unfit-low _ _ _ _ _ c.if-k-l.true)

pub overflow_cast-h : goal.overflow_cast-h
overflow_cast-h c =
    omega (arith, c.shared_slice_known-6-1.given c.args.k)

pub returns-then-k-h : goal.returns-then-k-h
returns-then-k-h c =
    sym (fits_read _ _ _ c.requires.0 c.requires.1 _ ∙ unfit-high _ _ _ _ _ c.if-k-h.true)

pub returns-then-l-h : goal.returns-then-l-h
returns-then-l-h c =
    sym (fits_read _ _ _ c.requires.0 c.requires.1 _ ∙ unfit-equal _ _ _ _ _ c.if-l-h.true)

pub stands_above-requires : goal.stands_above-requires
stands_above-requires c =
    (c.requires.0, c.requires.1, omega (arith, c.if-k-l.false, c.requires.2))

pub returns-then-not-stands_above : goal.returns-then-not-stands_above
returns-then-not-stands_above c =
    sym (fits_read _ _ _ c.requires.0 c.requires.1 _
    ∙ unfit-above _ _ _ _ _ (sym c.stands_above.ensures ∙ not-true _ c.if-not-stands_above.true-raw))

pub stands_above-requires-2 : goal.stands_above-requires-2
stands_above-requires-2 c =
    (c.requires.0, c.requires.1, omega (arith, c.if-k-h.false, c.requires.2))

pub returns : goal.returns
returns c =
    c.stands_above-2.ensures ∙ sym (fits_read _ _ _ c.requires.0 c.requires.1 _
    ∙ fit-above _ _ _ _ _ c.if-v-lt1.false c.if-v-gt64.false c.if-k-l.false
    c.if-k-h.false c.if-l-h.false
    (sym c.stands_above.ensures ∙ not-false _ c.if-not-stands_above.false-raw))
