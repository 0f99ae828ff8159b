-- What the home tells is held (Cells), since it is a live cell. Assumes nothing.
use Rattle.std.proofs.Common.{sym, subst, arith, ltb-false}
use Rattle.memo.specs.Memo.{Tells}
use Rattle.memo.proofs.Cells.{cell-tells}
use Rattle.memo.proofs.memo_home.Goals as goal

pub returns : goal.returns
returns c =
    let a = c.args in
    let y = c.told_by.ensures in
    subst (Tells a.memo.now a.f.0 a.g.0) (sym y.0)
    (cell-tells a.memo.now c.home_of-c.result a.f.0 a.g.0
    (omega (arith, c.if-n-c.false)) y.1 (ltb-false _ _ c.if-f-lt2.false-raw))
