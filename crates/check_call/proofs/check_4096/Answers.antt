-- The check over a local memo and marks for up to 4,096 places: the lent part of the marks is zeros. Assumes nothing.
use native.Mathlib.Omega.{arith}
use lib.ListN.{length}
use Rattle.table.proofs.Zeros.{part-zeros, length_part, length_whole}
use Rattle.check_call.proofs.check_4096.Goals as goal

pub slice_bounds-run-end : goal.slice_bounds-run-end
slice_bounds-run-end c =
    length_whole 32768

pub slice_bounds-run-end-2 : goal.slice_bounds-run-end-2
slice_bounds-run-end-2 c =
    length_part _ 4096 (omega (arith, c.requires.1))

pub run-requires : goal.run-requires
run-requires c =
    record {
      scratch_value = c.requires.0;
      marks_value = (
        part-zeros (length c.args.vars.now) 4096 (omega (arith, c.requires.1)),
        omega (arith, length_whole 32768, c.requires.1),
      );
    }

pub shape_of-vars : goal.shape_of-vars
shape_of-vars c =
    c.run.auto.vars

pub shape_of-lows : goal.shape_of-lows
shape_of-lows c =
    c.run.auto.lows

pub shape_of-highs : goal.shape_of-highs
shape_of-highs c =
    c.run.auto.highs

pub shape_of-heads : goal.shape_of-heads
shape_of-heads c =
    c.run.auto.heads

pub shape_of-links : goal.shape_of-links
shape_of-links c =
    c.run.auto.links

pub shape_of-members : goal.shape_of-members
shape_of-members c =
    c.run.auto.members

pub shape_of-scratch : goal.shape_of-scratch
shape_of-scratch c =
    c.run.auto.scratch

pub shape_of-struck : goal.shape_of-struck
shape_of-struck c =
    c.run.auto.struck

pub returns : goal.returns
returns c =
    c.run.ensures
