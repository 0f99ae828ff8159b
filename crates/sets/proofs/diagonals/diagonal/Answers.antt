-- `diagonal` places at least k of the last d + k variables, and leaves the row for the next diagonal. Assumes nothing.
use mathlib.Core.Path.{refl, ◌∙◌}
use lib.ListN.{length-set}
use Rattle.sets.proofs.Rows.{along-start, along-good, along-next, next_row, variable-least, variable-most}
use Rattle.sets.proofs.Rows.{row-full}
use Rattle.sets.proofs.diagonals.diagonal.Goals as goal

pub loop-j-init : goal.loop-j-init
loop-j-init c = (along-start _ _ _ _ _ c.requires.0 c.requires.1 _ c.requires.2, refl, refl, refl, refl, refl, refl)

pub lower_in-v-requires : goal.lower_in-v-requires
lower_in-v-requires c = (
  variable-least _ _ _ _ _ c.requires.0 c.requires.1 _ _ _ _ _ c.loop-j.invariant.0 c.loop-j-test.true,
  variable-most _ _ _ _ _ c.requires.0 c.requires.1 _ _ _ _ _ c.loop-j.invariant.0 c.loop-j-test.true,
)

pub put-p-requires : goal.put-p-requires
put-p-requires c = along-good _ _ _ _ _ c.requires.0 c.requires.1 _ _ _ _ _ c.loop-j.invariant.0

pub returns-then-p-clause-result_after : goal.returns-then-p-clause-result_after
returns-then-p-clause-result_after c =
    row-full _ _ _ _ _ c.requires.0 c.requires.1 _ _ _ _ _ c.loop-j.invariant.0 c.loop-j-test.true _ c.lower_in-v.ensures _
    c.put-p.ensures c.if-p.true

pub loop-j-preserved : goal.loop-j-preserved
loop-j-preserved c = (
  along-next _ _ _ _ _ c.requires.0 c.requires.1 _ _ _ _ _ c.loop-j.invariant.0 c.loop-j-test.true _ c.lower_in-v.ensures _
      c.put-p.ensures c.if-p.false,
  c.put-p.auto.vars ∙ c.loop-j.auto.vars,
  c.put-p.auto.lows ∙ c.loop-j.auto.lows,
  c.put-p.auto.highs ∙ c.loop-j.auto.highs,
  c.put-p.auto.heads ∙ c.loop-j.auto.heads,
  c.put-p.auto.links ∙ c.loop-j.auto.links,
  length-set c.loop-j.row _ _ ∙ c.loop-j.auto.row,
)

pub returns-clause-row : goal.returns-clause-row
returns-clause-row c = λ f. next_row _ _ _ _ _ c.requires.0 c.requires.1 _ _ _ _ _ c.loop-j.invariant.0 c.loop-j-test.false
