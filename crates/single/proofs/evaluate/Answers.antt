-- `evaluate` says what its definition says, by the refusals in their order. Assumes nothing.
use mathlib.Core.Path.{sym, ap, ◌∙◌}
use mathlib.Core.Bool.{Bool}
use Rattle.table.specs.Columns.{columns_made}
use Rattle.single.proofs.Refusals.{evaluated-7, evaluated-26, evaluated-13, evaluated-0, readable}
use Rattle.single.proofs.evaluate.Goals as goal

pub returns-then-not-size_fits : goal.returns-then-not-size_fits
returns-then-not-size_fits c =
    evaluated-7 _ _ _ _ (sym c.size_fits.ensures ∙ c.if-not-size_fits.true)

pub order_fits-requires : goal.order_fits-requires
order_fits-requires c =
    (sym c.size_fits.ensures ∙ c.if-not-size_fits.false)

pub returns-then-not-order_fits : goal.returns-then-not-order_fits
returns-then-not-order_fits c =
    evaluated-26 _ _ _ _ (sym c.size_fits.ensures ∙ c.if-not-size_fits.false)
    (sym c.order_fits.ensures ∙ c.if-not-order_fits.true)

pub returns-then-count-node : goal.returns-then-count-node
returns-then-count-node c =
    evaluated-13 _ _ _ _ (sym c.size_fits.ensures ∙ c.if-not-size_fits.false)
    (sym c.order_fits.ensures ∙ c.if-not-order_fits.false) c.if-count-node.true

pub value_of-yes-requires : goal.value_of-yes-requires
value_of-yes-requires c = (
  readable (columns_made c.args.vars.now c.args.lows.now
      c.args.highs.now c.args.heads.now c.args.links.now) _
      (sym c.size_fits.ensures ∙ c.if-not-size_fits.false)
      (sym c.order_fits.ensures ∙ c.if-not-order_fits.false),
  c.if-count-node.false,
)

pub returns : goal.returns
returns c =
    ap (λ (b : Bool). record { number = 0; yes = b; count = c.args.count }) c.value_of-yes.ensures
    ∙ evaluated-0 _ _ _ _ (sym c.size_fits.ensures ∙ c.if-not-size_fits.false)
    (sym c.order_fits.ensures ∙ c.if-not-order_fits.false) c.if-count-node.false
