-- `clear_memo` leaves no live cell. Assumes nothing.
use Rattle.std.proofs.Common.{set, arith, length-set, get_or-set_same}
use Rattle.memo.proofs.Cells.{memo-none}
use Rattle.memo.proofs.clear_memo.Goals as goal

pub bounds-memo-1 : goal.bounds-memo-1
bounds-memo-1 c = omega (arith, length-set c.args.memo.now 2 1, c.requires)

pub bounds-memo-0 : goal.bounds-memo-0
bounds-memo-0 c =
    let memo = set c.args.memo.now 2 1 in omega (arith, length-set memo 1 0, length-set c.args.memo.now 2 1, c.requires)

pub returns : goal.returns
returns c =
    let first = set c.args.memo.now 2 1 in
    let memo = set first 1 0 in
    memo-none (set memo 0 0) (omega (arith, length-set memo 0 0, length-set first 1 0, length-set c.args.memo.now 2 1, c.requires))
    (get_or-set_same memo 0 0 0 (omega (arith, length-set first 1 0, length-set c.args.memo.now 2 1, c.requires)))
