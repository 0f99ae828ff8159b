-- `adopt_members`: as `adopt`, and each number that was copied is found at its place (Adopting). Assumes nothing.
use mathlib.Core.Path.{refl, ◌∙◌}
use native.Mathlib.Omega.{arith}
use lib.ListN.{length-set}
use Rattle.alone.proofs.Adopting.{adopt-start, adopt-full, adopt-next, adopt-end, found_none, found-next, found-end}
use Rattle.alone.proofs.adopt_members.Goals as goal

pub loop-i-init : goal.loop-i-init
loop-i-init c =
    (adopt-start _ _ _ _ _ _ _ c.requires.0, found_none _ _ _ _, refl)

pub copy_number-p-requires : goal.copy_number-p-requires
copy_number-p-requires c =
    c.loop-i.invariant.0.ready

pub shape_of-ownvars-then-p : goal.shape_of-ownvars-then-p
shape_of-ownvars-then-p c =
    let v = c.loop-i.invariant in
    omega (arith, c.copy_number-p.auto, v.0.ready.good, v.0.same_size, v.0.long, c.requires.0.good)

pub shape_of-ownlows-then-p : goal.shape_of-ownlows-then-p
shape_of-ownlows-then-p c =
    let v = c.loop-i.invariant in
    omega (arith, c.copy_number-p.auto, v.0.ready.good, v.0.same_size, v.0.long, c.requires.0.good)

pub shape_of-ownhighs-then-p : goal.shape_of-ownhighs-then-p
shape_of-ownhighs-then-p c =
    let v = c.loop-i.invariant in
    omega (arith, c.copy_number-p.auto, v.0.ready.good, v.0.same_size, v.0.long, c.requires.0.good)

pub shape_of-ownheads-then-p : goal.shape_of-ownheads-then-p
shape_of-ownheads-then-p c =
    let v = c.loop-i.invariant in
    omega (arith, c.copy_number-p.auto, v.0.ready.good, v.0.same_size, v.0.long, c.requires.0.good)

pub shape_of-ownlinks-then-p : goal.shape_of-ownlinks-then-p
shape_of-ownlinks-then-p c =
    let v = c.loop-i.invariant in
    omega (arith, c.copy_number-p.auto, v.0.ready.good, v.0.same_size, v.0.long, c.requires.0.good)

pub shape_of-known-then-p : goal.shape_of-known-then-p
shape_of-known-then-p c =
    let v = c.loop-i.invariant in
    omega (arith, c.copy_number-p.auto, v.0.ready.good, v.0.same_size, v.0.long, c.requires.0.good)

pub shape_of-found-then-p : goal.shape_of-found-then-p
shape_of-found-then-p c =
    c.loop-i.invariant.2

pub returns-then-p : goal.returns-then-p
returns-then-p c = (
  adopt-full _ _ _ _ _ _ _ _ _ _ c.loop-i.invariant.0
      c.loop-i-test.true _ c.copy_number-p.ensures.result_after c.copy_number-p.new.known
      c.copy_number-p.auto.known c.copy_number-p.ensures.fact c.if-p.true,
  tt,
)

pub bounds-found-i : goal.bounds-found-i
bounds-found-i c =
    omega (arith, c.loop-i-test.true, c.loop-i.invariant.2, c.requires.1)

pub loop-i-preserved : goal.loop-i-preserved
loop-i-preserved c =
    let v = c.loop-i.invariant in (
      adopt-next _ _ _ _ _ _ _ _ _ _ c.loop-i.invariant.0 c.loop-i-test.true _
          c.copy_number-p.ensures.result_after c.copy_number-p.new.known c.copy_number-p.auto.known
          c.copy_number-p.ensures.fact c.if-p.false,
      found-next _ _ _ _ _ _ _ _ _ _ c.loop-i.invariant.0
          c.loop-i-test.true _ c.copy_number-p.ensures.result_after c.copy_number-p.new.known
          c.copy_number-p.auto.known c.copy_number-p.ensures.fact c.if-p.false _ _
          (omega (arith, c.loop-i-test.true, c.loop-i.invariant.2, c.requires.1)) v.1,
      length-set c.loop-i.found c.loop-i.i c.copy_number-p.result.node.0 ∙ v.2,
    )

pub shape_of-ownvars : goal.shape_of-ownvars
shape_of-ownvars c =
    let v = c.loop-i.invariant in omega
    (arith, v.0.ready.good, v.0.same_size, v.0.long, c.requires.0.good)

pub shape_of-ownlows : goal.shape_of-ownlows
shape_of-ownlows c =
    let v = c.loop-i.invariant in omega
    (arith, v.0.ready.good, v.0.same_size, v.0.long, c.requires.0.good)

pub shape_of-ownhighs : goal.shape_of-ownhighs
shape_of-ownhighs c =
    let v = c.loop-i.invariant in omega
    (arith, v.0.ready.good, v.0.same_size, v.0.long, c.requires.0.good)

pub shape_of-ownheads : goal.shape_of-ownheads
shape_of-ownheads c =
    let v = c.loop-i.invariant in omega
    (arith, v.0.ready.good, v.0.same_size, v.0.long, c.requires.0.good)

pub shape_of-ownlinks : goal.shape_of-ownlinks
shape_of-ownlinks c =
    let v = c.loop-i.invariant in omega
    (arith, v.0.ready.good, v.0.same_size, v.0.long, c.requires.0.good)

pub shape_of-known : goal.shape_of-known
shape_of-known c =
    let v = c.loop-i.invariant in omega
    (arith, v.0.ready.good, v.0.same_size, v.0.long, c.requires.0.good)

pub shape_of-found : goal.shape_of-found
shape_of-found c =
    c.loop-i.invariant.2

pub returns : goal.returns
returns c =
    let v = c.loop-i.invariant in (
      adopt-end _ _ _ _ _ _ _ _ _ _ v.0 c.loop-i-test.false,
      found-end _ _ _ _ _ _ v.1
          (omega (arith, v.0.within, c.loop-i-test.false)),
    )
