-- `with_node` adds the variable where all are asked for, else where one of the two numbers is 0. Assumes nothing.
use mathlib.Core.Path.{sym, ◌∙◌}
use Rattle.supports.proofs.ForcedWords.{with_all, with-some}
use Rattle.supports.proofs.with_node.Goals as goal

pub returns-then-all : goal.returns-then-all
returns-then-all c = c.with_variable.ensures ∙ sym (with_all _ _ _ _ _ c.if-all.true)

pub returns : goal.returns
returns c = c.with_forced.ensures ∙ sym (with-some _ _ _ _ _ c.if-all.false)
