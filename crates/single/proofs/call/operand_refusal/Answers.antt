-- `operand_refusal` gives 27 or 15 where its definition does. Assumes nothing.
use mathlib.Core.Path.{sym, ◌∙◌}
use Rattle.single.proofs.Shares.{shares-is}
use Rattle.single.proofs.Operands.{conjunction-none, negation-none, cofactor-27, cofactor-none, literals-15, literals-none}
use Rattle.single.proofs.call.operand_refusal.Goals as goal

pub returns-then-g-eq0 : goal.returns-then-g-eq0
returns-then-g-eq0 c =
    cofactor-27 _ _ c.in-Cofactor.is c.if-g-eq0.true

pub returns-then-shared : goal.returns-then-shared
returns-then-shared c =
    literals-15 _ _ _ _ c.in-Literals.is (sym (shares-is _ _) ∙ sym c.shared.ensures ∙ c.if-shared.true)

pub returns-in-Conjunction : goal.returns-in-Conjunction
returns-in-Conjunction c =
    conjunction-none _ _ c.in-Conjunction.is

pub returns-in-Negation : goal.returns-in-Negation
returns-in-Negation c =
    negation-none _ _ c.in-Negation.is

pub returns-else-g-eq0 : goal.returns-else-g-eq0
returns-else-g-eq0 c =
    cofactor-none _ _ c.in-Cofactor.is c.if-g-eq0.false

pub returns-else-shared : goal.returns-else-shared
returns-else-shared c =
    literals-none _ _ _ _ c.in-Literals.is (sym (shares-is _ _) ∙ sym c.shared.ensures ∙ c.if-shared.false)
