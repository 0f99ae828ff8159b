-- `memo_put` stores the packed entry in a live cell (Cells), or leaves the memo. Assumes nothing.
use Rattle.std.proofs.Common.{arith, length-set, rules}
use Rattle.memo.proofs.Cells.{follows_same, follows-stores, memo-stored}
use Rattle.memo.proofs.memo_put.Goals as goal

pub returns-then-not-is_held : goal.returns-then-not-is_held
returns-then-not-is_held c = follows-stores (follows_same (search rules))

pub returns-then-n-c : goal.returns-then-n-c
returns-then-n-c c = follows-stores c.make_room.ensures

pub bounds-memo-c : goal.bounds-memo-c
bounds-memo-c c =
    let m = c.make_room in
    omega (
      arith,
      length-set m.new.memo 1 c.wrapping_add_u64.result,
      m.ensures.shaped.room,
      c.if-n-c.false,
    )

pub returns : goal.returns
returns c =
    let m = c.make_room in
    memo-stored c.args.memo.now m.new.memo m.ensures c.wrapping_add_u64.result
    c.cell_for-c.result c.args.f.0 c.args.g.0 c.args.r.0 c.if-n-c.false
    (omega (arith, c.struct_known-2-1.given)) (omega (arith, c.struct_known-3-1.given))
