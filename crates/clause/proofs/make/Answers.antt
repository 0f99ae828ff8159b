-- `make` places the clause's diagram: at the start of each turn the clause of the later variables is placed (Making). Assumes nothing.
use mathlib.Core.Path.{sym, ◌∙◌}
use Rattle.clause.proofs.Making.{make-start, make-end, make-both, make-turn}
use Rattle.clause.proofs.make.Goals as goal

pub returns-then-shared : goal.returns-then-shared
returns-then-shared c = make-both _ c.requires _ (sym c.shared.ensures ∙ c.if-shared.true)

pub loop-v-init : goal.loop-v-init
loop-v-init c = make-start _ c.requires _

pub returns-then-made : goal.returns-then-made
returns-then-made c =
    (make-turn _ c.requires c.args.literals (sym c.shared.ensures ∙ c.if-shared.false) _ c.loop-v-test.true _ c.loop-v.invariant _ _
    c.side-low.ensures c.side-high.ensures _ c.put-made.ensures).last c.if-made.true

pub loop-v-preserved : goal.loop-v-preserved
loop-v-preserved c =
    (make-turn _ c.requires c.args.literals (sym c.shared.ensures ∙ c.if-shared.false) _ c.loop-v-test.true _ c.loop-v.invariant _ _
    c.side-low.ensures c.side-high.ensures _ c.put-made.ensures).next c.if-made.false

pub returns : goal.returns
returns c = make-end _ c.requires c.args.literals _ c.loop-v-test.false _ c.loop-v.invariant
