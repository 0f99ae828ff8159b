-- `at_least` says what the definition says, by the refusals in their order. Assumes nothing.
use mathlib.Core.Path.{sym, ap, ◌∙◌}
use mathlib.Core.Bool.{true}
use Rattle.table.specs.Columns.{columns_made}
use Rattle.table.proofs.InOrder.{lent-good}
use Rattle.single.specs.Single.{counted_of}
use Rattle.single.proofs.Counts.{least-7, least-26, least-made}
use Rattle.single.proofs.least.at_least.Goals as goal

pub returns-then-not-size_fits : goal.returns-then-not-size_fits
returns-then-not-size_fits c =
    ap (counted_of (columns_made c.args.vars.now c.args.lows.now c.args.highs.now c.args.heads.now c.args.links.now)) c.refused.ensures
    ∙ least-7 (columns_made c.args.vars.now c.args.lows.now c.args.highs.now c.args.heads.now c.args.links.now) c.args.count c.args.set
    c.args.k
    (sym c.size_fits.ensures ∙ c.if-not-size_fits.true)

pub order_fits-requires : goal.order_fits-requires
order_fits-requires c = sym c.size_fits.ensures ∙ c.if-not-size_fits.false

pub returns-then-not-order_fits : goal.returns-then-not-order_fits
returns-then-not-order_fits c =
    ap (counted_of (columns_made c.args.vars.now c.args.lows.now c.args.highs.now c.args.heads.now c.args.links.now))
    c.refused-then-not-order_fits.ensures
    ∙ least-26 (columns_made c.args.vars.now c.args.lows.now c.args.highs.now c.args.heads.now c.args.links.now) c.args.count c.args.set
    c.args.k (sym c.size_fits.ensures ∙ c.if-not-size_fits.false)
    (sym c.order_fits.ensures ∙ c.if-not-order_fits.true)

pub made-requires : goal.made-requires
made-requires c = lent-good _ _ _ _ _ _ (sym c.size_fits.ensures ∙ c.if-not-size_fits.false)
    (sym c.order_fits.ensures ∙ c.if-not-order_fits.false)

pub returns : goal.returns
returns c =
    c.made.ensures ∙ least-made (columns_made c.args.vars.now c.args.lows.now c.args.highs.now c.args.heads.now c.args.links.now)
    c.args.count c.args.set c.args.k (sym c.size_fits.ensures ∙ c.if-not-size_fits.false)
    (sym c.order_fits.ensures ∙ c.if-not-order_fits.false)
