-- `call`: the tests, then everything emptied. Assumes nothing.
use mathlib.Core.Path.{sym, ◌∙◌}
use borrow.Author.Tests.{not-true, not-false}
use Rattle.book_open.proofs.Opening.{first-unfit, second-unfit, shares-unfit, opens}
use Rattle.book_open.proofs.call.Goals as goal

pub returns-then-not-book_fits : goal.returns-then-not-book_fits
returns-then-not-book_fits c =
    first-unfit _ _ _ _ _ _ _ _ _ _ _ _ _ (sym c.book_fits.ensures ∙ not-true _ c.if-not-book_fits.true-raw)
    _
    c.unopened.ensures

pub returns-then-not-book_fits-2 : goal.returns-then-not-book_fits-2
returns-then-not-book_fits-2 c =
    second-unfit _ _ _ _ _ _ _ _ _ _ _ _ _ (sym c.book_fits.ensures
    ∙ not-false _ c.if-not-book_fits.false-raw)
    (sym c.book_fits-2.ensures ∙ not-true _ c.if-not-book_fits-2.true-raw) _ c.unopened-then-not-book_fits-2.ensures

pub returns-then-not-shares_fit : goal.returns-then-not-shares_fit
returns-then-not-shares_fit c =
    shares-unfit _ _ _ _ _ _ _ _ _ _ _ _ _ (sym c.book_fits.ensures
    ∙ not-false _ c.if-not-book_fits.false-raw)
    (sym c.book_fits-2.ensures ∙ not-false _ c.if-not-book_fits-2.false-raw)
    (sym c.shares_fit.ensures ∙ not-true _ c.if-not-shares_fit.true-raw) _ c.unopened-then-not-shares_fit.ensures

pub shape_of-vars : goal.shape_of-vars
shape_of-vars c =
    c.empty.auto.vars

pub shape_of-lows : goal.shape_of-lows
shape_of-lows c =
    c.empty.auto.lows

pub shape_of-highs : goal.shape_of-highs
shape_of-highs c =
    c.empty.auto.highs

pub shape_of-heads : goal.shape_of-heads
shape_of-heads c =
    c.empty.auto.heads

pub shape_of-links : goal.shape_of-links
shape_of-links c =
    c.empty.auto.links

pub shape_of-own : goal.shape_of-own
shape_of-own c =
    c.clear_lists.auto.own

pub shape_of-members : goal.shape_of-members
shape_of-members c =
    c.clear_lists.auto.members

pub shape_of-struck : goal.shape_of-struck
shape_of-struck c =
    c.clear_lists.auto.struck

pub shape_of-ownsecond : goal.shape_of-ownsecond
shape_of-ownsecond c =
    c.clear_lists-2.auto.own

pub shape_of-memberssecond : goal.shape_of-memberssecond
shape_of-memberssecond c =
    c.clear_lists-2.auto.members

pub shape_of-strucksecond : goal.shape_of-strucksecond
shape_of-strucksecond c =
    c.clear_lists-2.auto.struck

pub shape_of-scratch : goal.shape_of-scratch
shape_of-scratch c =
    c.empty.auto.members

pub returns : goal.returns
returns c =
    opens _ _ _ _ _ _ _ _ _ _ _ _ _ (sym c.book_fits.ensures ∙ not-false _ c.if-not-book_fits.false-raw)
    (sym c.book_fits-2.ensures ∙ not-false _ c.if-not-book_fits-2.false-raw)
    (sym c.shares_fit.ensures ∙ not-false _ c.if-not-shares_fit.false-raw) _ _ _ _ _ c.empty.ensures.vars_after
    c.empty.ensures.lows_after c.empty.ensures.highs_after c.empty.ensures.heads_after c.empty.ensures.links_after _ _ _ _ _ _ _
    c.clear_lists.ensures.own_after
    c.clear_lists.ensures.members_after
    c.clear_lists.ensures.struck_after c.clear_lists-2.ensures.own_after c.clear_lists-2.ensures.members_after
    c.clear_lists-2.ensures.struck_after c.empty.ensures.members_after _ _
    c.as_opened.ensures c.as_opened-2.ensures
