-- `diagonals` places at least k of the set's variables. Assumes nothing.
use mathlib.Core.Path.{refl, ◌∙◌}
use Rattle.sets.proofs.Rows.{before-start, before-end, before-next, before-least, before-most, diagonal-full}
use Rattle.sets.proofs.diagonals.diagonals.Goals as goal

pub loop-d-init : goal.loop-d-init
loop-d-init c = (
  before-start _ c.requires.good.0 _ _ _ c.requires.good.1 c.requires.good.2 c.requires.good.3 _ c.requires.first_row.room
      c.requires.first_row.one c.requires.first_row.zeros,
  refl,
  refl,
  refl,
  refl,
  refl,
  refl,
)

pub returns-then-p : goal.returns-then-p
returns-then-p c =
    diagonal-full _ c.requires.good.0 _ _ _ c.requires.good.1 c.requires.good.2 _ _ _ _ _ c.loop-d.invariant.0 c.loop-d-test.true _
    c.diagonal-p.ensures.result_after c.if-p.true

pub lower_in-v-requires : goal.lower_in-v-requires
lower_in-v-requires c = (
  before-least _ c.requires.good.0 _ _ _ c.requires.good.1 c.requires.good.2 _ _ _ _ _ c.loop-d.invariant.0 c.loop-d-test.true,
  before-most _ c.requires.good.0 _ _ _ c.requires.good.1 c.requires.good.2 _ _ _ _ _ c.loop-d.invariant.0 c.loop-d-test.true,
)

pub loop-d-preserved : goal.loop-d-preserved
loop-d-preserved c = (
  before-next _ c.requires.good.0 _ _ _ c.requires.good.1 c.requires.good.2 _ _ _ _ _ c.loop-d.invariant.0 c.loop-d-test.true _
      c.diagonal-p.ensures.result_after c.if-p.false _ (c.diagonal-p.ensures.row c.if-p.false) _ c.lower_in-v.ensures,
  c.diagonal-p.auto.vars ∙ c.loop-d.auto.vars,
  c.diagonal-p.auto.lows ∙ c.loop-d.auto.lows,
  c.diagonal-p.auto.highs ∙ c.loop-d.auto.highs,
  c.diagonal-p.auto.heads ∙ c.loop-d.auto.heads,
  c.diagonal-p.auto.links ∙ c.loop-d.auto.links,
  c.diagonal-p.auto.row ∙ c.loop-d.auto.row,
)

pub returns : goal.returns
returns c =
    before-end _ c.requires.good.0 _ _ _ c.requires.good.1 c.requires.good.2 _ _ _ _ _ c.loop-d.invariant.0 c.loop-d-test.false
