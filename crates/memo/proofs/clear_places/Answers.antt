-- `clear_places` leaves the places empty. The invariant: those passed are (Cells). Assumes nothing.
use Rattle.std.proofs.Common.{◌-◌, ◌<◌, length, arith, rules}
use Rattle.memo.proofs.Cells.{cleared-none, cleared_more, cleared-less}
use Rattle.memo.proofs.clear_places.Goals as goal

pub loop-i-init : goal.loop-i-init
loop-i-init c = (omega arith, cleared-none _ _)

pub loop-i-preserved : goal.loop-i-preserved
loop-i-preserved c =
    let inside : c.loop-i.i < length c.loop-i.memo = search rules in
    (omega (arith, c.loop-i.invariant.0), cleared_more _ c.loop-i.memo _ c.loop-i.i c.loop-i.invariant.0 inside c.loop-i.invariant.1)

pub returns : goal.returns
returns c = cleared-less _ c.loop-i.memo _ c.loop-i.i _ (omega (arith, c.loop-i-test.false)) c.loop-i.invariant.1
