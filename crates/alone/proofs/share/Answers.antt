-- `share`: at the start of each turn what is to be shared is what is left to be shared (Giving). Assumes nothing.
use native.Mathlib.Omega.{arith}
use Rattle.alone.proofs.Giving.{give-start, give-end, low-has, high-has, place-has, give-next}
use Rattle.alone.proofs.share.Goals as goal

pub loop-j-init : goal.loop-j-init
loop-j-init c =
    give-start _ _ _ _ _ _ c.requires

pub offset_bounds-ownlows-j : goal.offset_bounds-ownlows-j
offset_bounds-ownlows-j c =
    omega (arith, c.loop-j-test.true, c.requires.readable)

pub bounds-ownlows-j : goal.bounds-ownlows-j
bounds-ownlows-j c =
    omega (arith, c.loop-j-test.true, c.requires.readable)

pub number_in-low-requires : goal.number_in-low-requires
number_in-low-requires c =
    low-has _ _ _ _ _ _ c.requires _ _ _ c.loop-j.invariant
    c.loop-j-test.true

pub offset_bounds-ownhighs-j : goal.offset_bounds-ownhighs-j
offset_bounds-ownhighs-j c =
    omega (arith, c.loop-j-test.true, c.requires.readable)

pub bounds-ownhighs-j : goal.bounds-ownhighs-j
bounds-ownhighs-j c =
    omega (arith, c.loop-j-test.true, c.requires.readable)

pub number_in-high-requires : goal.number_in-high-requires
number_in-high-requires c =
    high-has _ _ _ _ _ _ c.requires _ _ _ c.loop-j.invariant
    c.loop-j-test.true

pub bounds-ownvars-j : goal.bounds-ownvars-j
bounds-ownvars-j c =
    omega (arith, c.loop-j-test.true, c.requires.readable)

pub put-p-requires : goal.put-p-requires
put-p-requires c =
    c.loop-j.invariant.good

pub overflow_sub-own : goal.overflow_sub-own
overflow_sub-own c =
    c.loop-j.invariant.least

pub offset_bounds-own-j : goal.offset_bounds-own-j
offset_bounds-own-j c =
    omega (arith, c.loop-j-test.true, c.requires.readable)

pub bounds-own-j : goal.bounds-own-j
bounds-own-j c =
    place-has _ _ _ _ _ _ c.requires _ _ _ c.loop-j.invariant
    c.loop-j-test.true

pub loop-j-preserved : goal.loop-j-preserved
loop-j-preserved c =
    give-next _ _ _ _ _ _ c.requires _ _ _ c.loop-j.invariant
    c.loop-j-test.true _ _ c.number_in-low.ensures
    c.number_in-high.ensures _ c.put-p.ensures

pub shape_of-vars : goal.shape_of-vars
shape_of-vars c =
    omega (arith, c.loop-j.invariant.good, c.loop-j.invariant.same_size, c.requires.good)

pub shape_of-lows : goal.shape_of-lows
shape_of-lows c =
    omega (arith, c.loop-j.invariant.good, c.loop-j.invariant.same_size, c.requires.good)

pub shape_of-highs : goal.shape_of-highs
shape_of-highs c =
    omega (arith, c.loop-j.invariant.good, c.loop-j.invariant.same_size, c.requires.good)

pub shape_of-heads : goal.shape_of-heads
shape_of-heads c =
    omega (arith, c.loop-j.invariant.good, c.loop-j.invariant.same_size, c.requires.good)

pub shape_of-links : goal.shape_of-links
shape_of-links c =
    omega (arith, c.loop-j.invariant.good, c.loop-j.invariant.same_size, c.requires.good)

pub shape_of-own : goal.shape_of-own
shape_of-own c =
    c.loop-j.invariant.long

pub returns : goal.returns
returns c =
    give-end _ _ _ _ _ _ c.requires _ _ _ c.loop-j.invariant c.loop-j-test.false
