-- `text_at`: the end, a clause struck or a clause added, each by the law of that case. Assumes nothing.
use mathlib.Core.Path.{sym, ◌∙◌}
use Rattle.commands.proofs.Stream.{text-finished, text-adding}
use Rattle.commands.proofs.text.text_at.Goals as goal

pub returns-then-at-s : goal.returns-then-at-s
returns-then-at-s c =
    text-adding _ _ _ _ c.if-at-s.true
    (sym c.is_letter.ensures ∙ c.if-is_letter.false) c.clause_at-then-at-s.ensures

pub returns : goal.returns
returns c = text-finished _ _ _ c.if-at-s.false
