-- `order_fits` is the definition's test: each refusal contradicts good order, and a table that passes is in good order. Assumes nothing.
use mathlib.Core.Path.{sym, ◌∙◌}
use native.Mathlib.Omega.{arith}
use borrow.Author.Tests.{not-true, not-false}
use borrow.Author.Rules.{rules}
use Rattle.table.proofs.Sizes.{sized}
use Rattle.table.proofs.Places.{too_few, too_many, bad-start, bad-rest}
use Rattle.good_order.proofs.Right.{refused, nodes-pass}
use Rattle.good_order.proofs.Testing.{lent, no-order, decided}
use Rattle.good_order.proofs.order_fits.Goals as goal

pub returns-then-count-lt2 : goal.returns-then-count-lt2
returns-then-count-lt2 c = sym (no-order _ _ _ _ (too_few _ _ _ (sized _ _ _ _ _ c.requires).lows
    (sized _ _ _ _ _ c.requires).highs _ c.if-count-lt2.true))

pub returns-then-vars-count : goal.returns-then-vars-count
returns-then-vars-count c = sym (no-order _ _ _ _ (too_many _ _ _ (sized _ _ _ _ _ c.requires).lows
    (sized _ _ _ _ _ c.requires).highs _ c.if-vars-count.true))

pub blank_between-requires : goal.blank_between-requires
blank_between-requires c = (
  (sized _ _ _ _ _ c.requires).lows,
  (sized _ _ _ _ _ c.requires).highs,
  (sized _ _ _ _ _ c.requires).least,
  omega arith,
)

pub returns-then-not-blank_between : goal.returns-then-not-blank_between
returns-then-not-blank_between c = sym (no-order _ _ _ _ (bad-start _ _ _ (sized _ _ _ _ _ c.requires).lows
    (sized _ _ _ _ _ c.requires).highs _ c.if-count-lt2.false c.if-vars-count.false
    (sym c.blank_between.ensures ∙ not-true _ c.if-not-blank_between.true-raw)))

pub blank_between-requires-2 : goal.blank_between-requires-2
blank_between-requires-2 c = (
  (sized _ _ _ _ _ c.requires).lows,
  (sized _ _ _ _ _ c.requires).highs,
  omega arith,
  search rules,
)

pub returns-then-not-blank_between-2 : goal.returns-then-not-blank_between-2
returns-then-not-blank_between-2 c = sym (no-order _ _ _ _ (bad-rest _ _ _ (sized _ _ _ _ _ c.requires).lows
    (sized _ _ _ _ _ c.requires).highs _ c.if-count-lt2.false c.if-vars-count.false
    (sym c.blank_between-2.ensures ∙ not-true _ c.if-not-blank_between-2.true-raw)))

pub places_empty-requires : goal.places_empty-requires
places_empty-requires c = (
  omega arith,
  omega
      (arith, (sized _ _ _ _ _ c.requires).least, (sized _ _ _ _ _ c.requires).links),
)

pub returns-then-not-places_empty : goal.returns-then-not-places_empty
returns-then-not-places_empty c = sym (refused _ (lent _ _ _ _ _ _ c.requires c.if-count-lt2.false c.if-vars-count.false)
    (λ R. c.places_empty.ensures.no (not-true _ c.if-not-places_empty.true-raw) R.first))

pub places_empty-requires-2 : goal.places_empty-requires-2
places_empty-requires-2 c = (
  omega (arith, c.if-vars-count.false, (sized _ _ _ _ _ c.requires).links),
  omega arith,
)

pub returns-then-not-places_empty-2 : goal.returns-then-not-places_empty-2
returns-then-not-places_empty-2 c = sym (refused _ (lent _ _ _ _ _ _ c.requires c.if-count-lt2.false c.if-vars-count.false)
    (λ R. c.places_empty-2.ensures.no (not-true _ c.if-not-places_empty-2.true-raw)
    (λ k a b. R.past k a (omega (arith, (sized _ _ _ _ _ c.requires).links)))))

pub nodes_fit-requires : goal.nodes_fit-requires
nodes_fit-requires c = (lent _ _ _ _ _ _ c.requires c.if-count-lt2.false c.if-vars-count.false)

pub returns-then-not-nodes_fit : goal.returns-then-not-nodes_fit
returns-then-not-nodes_fit c = sym (refused _ (lent _ _ _ _ _ _ c.requires c.if-count-lt2.false c.if-vars-count.false)
    (λ R. c.nodes_fit.ensures.no (not-true _ c.if-not-nodes_fit.true-raw)
    (nodes-pass _ (lent _ _ _ _ _ _ c.requires c.if-count-lt2.false c.if-vars-count.false) R)))

pub index_fits-requires : goal.index_fits-requires
index_fits-requires c = record {
  lent_sizes = (lent _ _ _ _ _ _ c.requires c.if-count-lt2.false c.if-vars-count.false);
  nodes_fit =
      c.nodes_fit.ensures.yes (not-false _ c.if-not-nodes_fit.false-raw);
}

pub returns : goal.returns
returns c = decided _ (lent _ _ _ _ _ _ c.requires c.if-count-lt2.false
    c.if-vars-count.false) (sym c.blank_between.ensures
    ∙ not-false _ c.if-not-blank_between.false-raw)
    (sym c.blank_between-2.ensures ∙ not-false _ c.if-not-blank_between-2.false-raw)
    (c.places_empty.ensures.yes (not-false _ c.if-not-places_empty.false-raw))
    (c.places_empty-2.ensures.yes (not-false _ c.if-not-places_empty-2.false-raw))
    (c.nodes_fit.ensures.yes (not-false _ c.if-not-nodes_fit.false-raw)) _ c.index_fits.ensures
