-- `restart` leaves zeros in the live cells (Cells). Assumes nothing.
use Rattle.std.proofs.Common.{arith, length-set}
use Rattle.memo.proofs.Cells.{memo-zeros}
use Rattle.memo.proofs.restart.Goals as goal

pub bounds-memo-2 : goal.bounds-memo-2
bounds-memo-2 c =
    omega (arith, length-set c.clear_places.new.memo 0 c.args.n, c.clear_places.auto.memo, c.requires.0)

pub returns : goal.returns
returns c =
    memo-zeros c.clear_places.new.memo c.args.n c.args.step (omega (arith, c.clear_places.auto.memo, c.requires.0)) c.requires.1
    (λ k p. c.clear_places.ensures.empty k (omega arith) p)
