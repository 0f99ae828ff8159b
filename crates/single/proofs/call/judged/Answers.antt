-- `judged` says what the definition says, by the refusals in their order. Assumes nothing.
use mathlib.Core.Path.{sym, ◌∙◌}
use Rattle.table.proofs.InOrder.{lent-good}
use Rattle.operate.proofs.RightMemo.{memo-fresh}
use Rattle.single.proofs.Operands.{allowed-by}
use Rattle.single.proofs.Calls.{called-26, called-13-first, called-13-second, called-second, called-made}
use Rattle.single.proofs.call.judged.Goals as goal

pub order_fits-requires : goal.order_fits-requires
order_fits-requires c =
    c.requires.0

pub returns-then-not-order_fits : goal.returns-then-not-order_fits
returns-then-not-order_fits c =
    called-26 _ _ _ _ _ c.requires.0 (sym c.order_fits.ensures ∙ c.if-not-order_fits.true)

pub returns-then-count-f : goal.returns-then-count-f
returns-then-count-f c =
    called-13-first _ _ _ _ _ c.requires.0
    (sym c.order_fits.ensures ∙ c.if-not-order_fits.false) c.if-count-f.true

pub returns-then-count-g : goal.returns-then-count-g
returns-then-count-g c =
    called-13-second _ _ _ _ _ c.requires.0
    (sym c.order_fits.ensures ∙ c.if-not-order_fits.false) c.if-count-f.false
    c.if-count-g.true

pub returns-then-number-ne0 : goal.returns-then-number-ne0
returns-then-number-ne0 c =
    called-second _ _ _ _ _ c.requires.0
    (sym c.order_fits.ensures ∙ c.if-not-order_fits.false) c.if-count-f.false
    c.if-count-g.false _ c.operand_refusal-number.ensures c.if-number-ne0.true

pub made-requires : goal.made-requires
made-requires c =
    record {
      operands = record {
        good = lent-good _ _ _ _ _ _ c.requires.0
            (sym c.order_fits.ensures ∙ c.if-not-order_fits.false);
        f-inside = c.if-count-f.false;
        g_inside = c.if-count-g.false;
        allowed = allowed-by _ _ c.requires.3
            (sym c.operand_refusal-number.ensures ∙ c.if-number-ne0.false);
      };
      right = memo-fresh _ c.requires.2 c.requires.1 _ _;
    }

pub returns : goal.returns
returns c =
    c.made.ensures ∙ called-made _ _ _ _ _ c.requires.0
    (sym c.order_fits.ensures ∙ c.if-not-order_fits.false)
    c.if-count-f.false c.if-count-g.false
    (sym c.operand_refusal-number.ensures ∙ c.if-number-ne0.false)
