-- `cause_again`: a memo and marks of its own, both zeros. Assumes nothing.
use native.Mathlib.Omega.{arith}
use lib.ListN.{length}
use Rattle.table.proofs.Zeros.{part-zeros, length_part, length_whole}
use Rattle.cause_again.proofs.Causing.{zeros-roomy}
use Rattle.cause_again.proofs.cause_again.Goals as goal

pub slice_bounds-cause_over-end : goal.slice_bounds-cause_over-end
slice_bounds-cause_over-end c =
    length_whole 65600

pub slice_bounds-marks-end : goal.slice_bounds-marks-end
slice_bounds-marks-end c =
    omega (arith, c.requires.0.most)

pub slice_bounds-cause_over-end-2 : goal.slice_bounds-cause_over-end-2
slice_bounds-cause_over-end-2 c =
    length_part _ 65536 c.requires.0.most

pub cause_over-requires : goal.cause_over-requires
cause_over-requires c = (
  c.requires.0,
  c.requires.1,
  c.requires.2,
  c.requires.3,
  part-zeros (length c.args.vars.now) 65536 c.requires.0.most,
  zeros-roomy 65600 c.args.vars.now c.requires.0.most (omega arith),
  c.requires.4,
  c.requires.5,
)

pub shape_of-vars : goal.shape_of-vars
shape_of-vars c =
    c.cause_over.auto.vars

pub shape_of-lows : goal.shape_of-lows
shape_of-lows c =
    c.cause_over.auto.lows

pub shape_of-highs : goal.shape_of-highs
shape_of-highs c =
    c.cause_over.auto.highs

pub shape_of-heads : goal.shape_of-heads
shape_of-heads c =
    c.cause_over.auto.heads

pub shape_of-links : goal.shape_of-links
shape_of-links c =
    c.cause_over.auto.links

pub shape_of-members : goal.shape_of-members
shape_of-members c =
    c.cause_over.auto.members

pub shape_of-scratch : goal.shape_of-scratch
shape_of-scratch c =
    c.cause_over.auto.scratch

pub shape_of-struck : goal.shape_of-struck
shape_of-struck c =
    c.cause_over.auto.struck

pub shape_of-fixed : goal.shape_of-fixed
shape_of-fixed c =
    c.cause_over.auto.fixed

pub returns : goal.returns
returns c =
    record { fixed_after = c.cause_over.ensures.fixed_after; returned_after = c.cause_over.ensures.returned_after }
