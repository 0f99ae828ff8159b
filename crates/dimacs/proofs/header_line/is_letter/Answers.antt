-- `is_letter`: a word of one byte, which is the letter. Assumes nothing.
use mathlib.Core.Path.{sym, ◌∙◌}
use mathlib.Core.Bool.{and-true}
use mathlib.Core.List.{[], ◌∷◌}
use native.Mathlib.Omega.{arith}
use Rattle.dimacs.proofs.Lines.{word-not, word-is}
use Rattle.dimacs.proofs.header_line.is_letter.Goals as goal

pub returns-then-end-at-ne1 : goal.returns-then-end-at-ne1
returns-then-end-at-ne1 c = sym (word-not _ _ _ (_ ∷ []) c.past_class-end.ensures.value c.if-end-at-ne1.true)

pub returns : goal.returns
returns c = sym (word-is _ _ _ (_ ∷ []) c.past_class-end.ensures.value (omega arith) c.if-end-at-ne1.false ∙ and-true _)
