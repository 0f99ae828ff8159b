-- `clause_line`: the literals of an added clause, `d` and those of a struck one, or 9. Assumes nothing.
use mathlib.Core.Path.{refl, subst}
use Prim.Native.Nat.{◌+◌}
use mathlib.Core.Bool.{true, false}
use Rattle.std.specs.Prelude.{Err}
use Rattle.dimacs.specs.Inner.{refusal_at}
use Rattle.convert.specs.Convert.{text_literals, text_line}
use Rattle.convert.specs.Inner.{Opened, poured, LineWritten}
use Rattle.convert.proofs.Clauses.{binary_rest}
use Rattle.convert.proofs.Lines.{opened-none, opened-two, binary-adding, binary-striking, binary-unknown}
use Rattle.convert.proofs.from_binary.clause_line.Goals as goal

pub returns-then-kind-eq97 : goal.returns-then-kind-eq97
returns-then-kind-eq97 c =
    let a = c.args in
    subst (λ (y : Opened). LineWritten text_line (poured a.out.now a.many) c.clause_literals.new.out y c.clause_literals.result)
    (binary-adding _ _ c.if-kind-eq97.true)
    (opened-none text_line text_literals false (poured a.out.now a.many) c.clause_literals.new.out
    (binary_rest a.binary.now a.at (a.at + 1)) c.clause_literals.result (λ ls. refl) c.clause_literals.ensures)

pub returns-then-kind-eq100 : goal.returns-then-kind-eq100
returns-then-kind-eq100 c =
    let a = c.args in
    subst (λ (y : Opened). LineWritten text_line (poured a.out.now a.many) c.clause_literals-then-kind-eq100.new.out y
    c.clause_literals-then-kind-eq100.result)
    (binary-striking _ _ c.if-kind-eq97.false c.if-kind-eq100.true)
    (opened-two text_line text_literals true (poured a.out.now a.many) c.clause_literals-then-kind-eq100.new.out
    (binary_rest a.binary.now a.at (a.at + 1)) c.clause_literals-then-kind-eq100.result 100 32 (λ ls. refl) _ _
    c.put-letter.ensures c.put-opened.ensures c.clause_literals-then-kind-eq100.ensures)

pub returns : goal.returns
returns c =
    let a = c.args in
    subst (λ (x : Opened). LineWritten text_line (poured a.out.now a.many) a.out.now x (Err (refusal_at 9 a.at)))
    (binary-unknown _ _ c.if-kind-eq97.false c.if-kind-eq100.false) (refl, refl)
