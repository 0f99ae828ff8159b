use mathlib.Core.Path.{sym, ◌∙◌}
use Rattle.pieces.proofs.Ends.{clause-struck, clause-added, clause-none}
use Rattle.pieces.proofs.clause_end.Goals as goal

-- src/lib.rt:111:13
pub returns-then-is_letter : goal.returns-then-is_letter
returns-then-is_letter c = clause-struck _ _ _ _ c.if-at-s.true
    (sym c.is_letter.ensures ∙ c.if-is_letter.true) c.skip_between-from.ensures.value
    c.closed_end.ensures

-- src/lib.rt:113:9
pub returns-then-at-s : goal.returns-then-at-s
returns-then-at-s c = clause-added _ _ _ c.if-at-s.true
    (sym c.is_letter.ensures ∙ c.if-is_letter.false) c.closed_end-then-at-s.ensures

-- src/lib.rt:104:1
pub returns : goal.returns
returns c = clause-none _ _ c.if-at-s.false
