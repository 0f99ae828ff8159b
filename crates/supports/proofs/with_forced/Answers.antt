-- `with_forced` adds the variable where one of the two numbers is 0: on each way the code's tests are the definition's. Assumes nothing.
use mathlib.Core.Path.{sym, ◌∙◌}
use mathlib.Core.Logic.{⊎_elim}
use lib.Dec.{eqb}
use borrow.Author.Tests.{ne_eqb}
use Rattle.meaning.proofs.Booleans.{or_left, or_right, eq-eqb}
use Rattle.supports.proofs.ForcedWords.{with-zero, with_none}
use Rattle.supports.proofs.with_forced.Goals as goal

-- src/lib.rt:17:9
pub returns-then-low-eq0 : goal.returns-then-low-eq0
returns-then-low-eq0 c =
    let a = c.args in
    let l = eqb a.low.0 0 in
    let h = eqb a.high.0 0 in
    c.with_variable.ensures
    ∙ sym (with-zero a.word a.v a.low.0 a.high.0
    (⊎_elim (λ w. or_left l h (eq-eqb _ _ w)) (λ w. or_right l h (eq-eqb _ _ w.1)) c.then-low-eq0.either))

-- src/lib.rt:15:1
pub returns : goal.returns
returns c =
    let a = c.args in
    sym (with_none a.word a.v a.low.0 a.high.0 (ne_eqb _ _ c.if-low-eq0.false) (ne_eqb _ _ c.if-high-eq0.false))
