-- `make_room` leaves the memo as it is, or with its results in other cells, or empty. Assumes nothing.
use Rattle.std.proofs.Common.{refl, ⊎_elim, arith}
use Rattle.memo.proofs.Cells.{empty-follows}
use Rattle.memo.proofs.make_room.Goals as goal

pub grow-requires : goal.grow-requires
grow-requires c =
    let all = c.lesser-all in
    let less = c.if-n-all.true in (
      omega (arith, c.lesser-more.ensures.1, all.ensures.0, c.requires.room),
      omega (arith, c.lesser-more.ensures.1, all.ensures.1),
      ⊎_elim (λ p. omega (arith, p)) (λ p. omega (arith, p, less)) c.lesser-more.ensures.2,
      refl,
    )

pub returns-then-n-all : goal.returns-then-n-all
returns-then-n-all c = empty-follows _ _ c.restart.ensures

pub returns : goal.returns
returns c = empty-follows _ _ c.restart-2.ensures
