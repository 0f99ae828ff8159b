-- `decide`: a variable that is decided stays; else it is false where the node is still 0 somewhere. Assumes nothing.
use mathlib.Core.Path.{sym, ◌∙◌}
use Rattle.why.proofs.Deciding.{decided-positive, decided-negative, decided-high, decided-low}
use Rattle.why.proofs.smallest.decide.Goals as goal

-- src/smallest.rt:34:9
pub returns-then-in_word : goal.returns-then-in_word
returns-then-in_word c = decided-positive _ _ _ _ (sym c.in_word.ensures ∙ c.if-in_word.true)

-- src/smallest.rt:37:9
pub returns-then-in_word-2 : goal.returns-then-in_word-2
returns-then-in_word-2 c = decided-negative _ _ _ _ (sym c.in_word.ensures ∙ c.if-in_word.false)
    (sym c.in_word-2.ensures ∙ c.if-in_word-2.true)

-- src/smallest.rt:45:9
pub returns-then-is_one : goal.returns-then-is_one
returns-then-is_one c = decided-high _ _ _ _ (sym c.in_word.ensures ∙ c.if-in_word.false)
    (sym c.in_word-2.ensures
    ∙ c.if-in_word-2.false) _ _
    c.with_variable-off.ensures
    (sym c.is_one.ensures ∙ c.if-is_one.true) c.with_variable.ensures

-- src/smallest.rt:14:1
pub returns : goal.returns
returns c = decided-low _ _ _ _ (sym c.in_word.ensures
    ∙ c.if-in_word.false)
    (sym c.in_word-2.ensures
    ∙ c.if-in_word-2.false) _ c.with_variable-off.ensures
    (sym c.is_one.ensures ∙ c.if-is_one.false)
