-- `clause_line`: the opening byte, then the clause's literals. Assumes nothing.
use mathlib.Core.Path.{refl, sym, ◌∙◌, subst}
use mathlib.Core.Bool.{true, false}
use Rattle.convert.specs.Convert.{binary_literals, binary_line}
use Rattle.convert.specs.Inner.{Opened, poured, LineWritten}
use Rattle.convert.proofs.Clauses.{text_rest}
use Rattle.convert.proofs.Lines.{opened_one, text-striking, text-adding}
use Rattle.convert.proofs.from_text.clause_line.Goals as goal

pub returns-then-is_letter : goal.returns-then-is_letter
returns-then-is_letter c =
    let a = c.args in
    subst (λ (y : Opened). LineWritten binary_line (poured a.out.now a.many) c.clause_literals.new.out y c.clause_literals.result)
    (text-striking _ _ _ c.skip_between-from.ensures.value
    (sym c.is_letter.ensures ∙ c.if-is_letter.true))
    (opened_one binary_line binary_literals true (poured a.out.now a.many) c.clause_literals.new.out
    (text_rest a.text.now a.at c.skip_between-from.result) c.clause_literals.result 100 (λ ls. refl) _
    c.put-opened.ensures c.clause_literals.ensures)

pub returns : goal.returns
returns c =
    let a = c.args in
    subst (λ (y : Opened). LineWritten binary_line (poured a.out.now a.many) c.clause_literals-2.new.out y c.clause_literals-2.result)
    (text-adding _ _ (sym c.is_letter.ensures ∙ c.if-is_letter.false))
    (opened_one binary_line binary_literals false (poured a.out.now a.many) c.clause_literals-2.new.out
    (text_rest a.text.now a.at a.at) c.clause_literals-2.result 97 (λ ls. refl) _
    c.put-opened-2.ensures c.clause_literals-2.ensures)
