-- `adopt`: at the start of each turn what is to be placed is what is left to be placed (Adopting). Assumes nothing.
use native.Mathlib.Omega.{arith}
use Rattle.alone.proofs.Adopting.{adopt-start, adopt-full, adopt-next, adopt-end}
use Rattle.alone.proofs.adopt.Goals as goal

pub loop-i-init : goal.loop-i-init
loop-i-init c =
    adopt-start _ _ _ _ _ _ _ c.requires

pub copy_number-p-requires : goal.copy_number-p-requires
copy_number-p-requires c =
    c.loop-i.invariant.ready

pub shape_of-ownvars-then-p : goal.shape_of-ownvars-then-p
shape_of-ownvars-then-p c =
    omega (
      arith,
      c.copy_number-p.auto,
      c.loop-i.invariant.ready.good,
      c.loop-i.invariant.same_size,
      c.loop-i.invariant.long,
      c.requires.good,
    )

pub shape_of-ownlows-then-p : goal.shape_of-ownlows-then-p
shape_of-ownlows-then-p c =
    omega (
      arith,
      c.copy_number-p.auto,
      c.loop-i.invariant.ready.good,
      c.loop-i.invariant.same_size,
      c.loop-i.invariant.long,
      c.requires.good,
    )

pub shape_of-ownhighs-then-p : goal.shape_of-ownhighs-then-p
shape_of-ownhighs-then-p c =
    omega (
      arith,
      c.copy_number-p.auto,
      c.loop-i.invariant.ready.good,
      c.loop-i.invariant.same_size,
      c.loop-i.invariant.long,
      c.requires.good,
    )

pub shape_of-ownheads-then-p : goal.shape_of-ownheads-then-p
shape_of-ownheads-then-p c =
    omega (
      arith,
      c.copy_number-p.auto,
      c.loop-i.invariant.ready.good,
      c.loop-i.invariant.same_size,
      c.loop-i.invariant.long,
      c.requires.good,
    )

pub shape_of-ownlinks-then-p : goal.shape_of-ownlinks-then-p
shape_of-ownlinks-then-p c =
    omega (
      arith,
      c.copy_number-p.auto,
      c.loop-i.invariant.ready.good,
      c.loop-i.invariant.same_size,
      c.loop-i.invariant.long,
      c.requires.good,
    )

pub shape_of-known-then-p : goal.shape_of-known-then-p
shape_of-known-then-p c =
    omega (
      arith,
      c.copy_number-p.auto,
      c.loop-i.invariant.ready.good,
      c.loop-i.invariant.same_size,
      c.loop-i.invariant.long,
      c.requires.good,
    )

pub returns-then-p : goal.returns-then-p
returns-then-p c =
    adopt-full _ _ _ _ _ _ _ _ _ _ c.loop-i.invariant
    c.loop-i-test.true _ c.copy_number-p.ensures.result_after c.copy_number-p.new.known
    c.copy_number-p.auto.known c.copy_number-p.ensures.fact c.if-p.true

pub loop-i-preserved : goal.loop-i-preserved
loop-i-preserved c =
    adopt-next _ _ _ _ _ _ _ _ _ _ c.loop-i.invariant
    c.loop-i-test.true _ c.copy_number-p.ensures.result_after c.copy_number-p.new.known
    c.copy_number-p.auto.known c.copy_number-p.ensures.fact c.if-p.false

pub shape_of-ownvars : goal.shape_of-ownvars
shape_of-ownvars c =
    omega (
      arith,
      c.loop-i.invariant.ready.good,
      c.loop-i.invariant.same_size,
      c.loop-i.invariant.long,
      c.requires.good,
    )

pub shape_of-ownlows : goal.shape_of-ownlows
shape_of-ownlows c =
    omega (
      arith,
      c.loop-i.invariant.ready.good,
      c.loop-i.invariant.same_size,
      c.loop-i.invariant.long,
      c.requires.good,
    )

pub shape_of-ownhighs : goal.shape_of-ownhighs
shape_of-ownhighs c =
    omega (
      arith,
      c.loop-i.invariant.ready.good,
      c.loop-i.invariant.same_size,
      c.loop-i.invariant.long,
      c.requires.good,
    )

pub shape_of-ownheads : goal.shape_of-ownheads
shape_of-ownheads c =
    omega (
      arith,
      c.loop-i.invariant.ready.good,
      c.loop-i.invariant.same_size,
      c.loop-i.invariant.long,
      c.requires.good,
    )

pub shape_of-ownlinks : goal.shape_of-ownlinks
shape_of-ownlinks c =
    omega (
      arith,
      c.loop-i.invariant.ready.good,
      c.loop-i.invariant.same_size,
      c.loop-i.invariant.long,
      c.requires.good,
    )

pub shape_of-known : goal.shape_of-known
shape_of-known c =
    omega (
      arith,
      c.loop-i.invariant.ready.good,
      c.loop-i.invariant.same_size,
      c.loop-i.invariant.long,
      c.requires.good,
    )

pub returns : goal.returns
returns c =
    adopt-end _ _ _ _ _ _ _ _ _ _ c.loop-i.invariant c.loop-i-test.false
