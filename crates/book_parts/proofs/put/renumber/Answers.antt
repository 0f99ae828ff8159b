-- `renumber`: what is written so far is the front of the members' numbers (Writing). Assumes nothing.
use native.Mathlib.Omega.{arith}
use Rattle.book_parts.proofs.Writing.{front-start, front-next, front-end}
use Rattle.book_parts.proofs.put.renumber.Goals as goal

pub loop-i-init : goal.loop-i-init
loop-i-init c =
    front-start _ _ _ _

pub number_in-k-requires : goal.number_in-k-requires
number_in-k-requires c =
    c.requires.by_index _ c.loop-i-test.true

pub bounds-members-i : goal.bounds-members-i
bounds-members-i c =
    omega (
      arith,
      c.loop-i-test.true,
      c.requires.m_in_bounds.0,
      c.loop-i.invariant.long,
    )

pub loop-i-preserved : goal.loop-i-preserved
loop-i-preserved c =
    front-next _ _ _ _ c.requires.m_in_bounds.0 c.requires.m_in_bounds.1 _ _ c.loop-i.invariant
    c.loop-i-test.true _ c.number_in-k.ensures

pub shape_of-members : goal.shape_of-members
shape_of-members c =
    c.loop-i.invariant.long

pub returns : goal.returns
returns c =
    front-end _ _ _ _ c.requires.m_in_bounds.0 c.requires.m_in_bounds.1 _ _ c.loop-i.invariant
    c.loop-i-test.false
