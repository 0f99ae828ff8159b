-- `move_all` moves one cell after the other. The invariant: all cells have been moved about (Cells). Assumes nothing.
use Rattle.std.proofs.Common.{arith}
use Rattle.memo.proofs.Cells.{moved_same, moved_twice}
use Rattle.memo.proofs.move_all.Goals as goal

pub loop-c-init : goal.loop-c-init
loop-c-init c = (omega arith, moved_same _ _)

pub loop-c-preserved : goal.loop-c-preserved
loop-c-preserved c =
    (omega (arith, c.loop-c.invariant.0), moved_twice _ c.loop-c.memo _ _ c.loop-c.invariant.1 c.move_one.ensures)

pub returns : goal.returns
returns c = c.loop-c.invariant.1
