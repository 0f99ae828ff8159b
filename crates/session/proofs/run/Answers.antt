-- `run` leaves the outcome of the whole check: the lists are emptied first, the scratch list last. Assumes nothing.
use mathlib.Core.Path.{sym, ap, ◌∙◌}
use native.Mathlib.Omega.{arith}
use lib.ListN.{length}
use Rattle.conflict.specs.Marks.{unmarked}
use Rattle.verdict.specs.Check.{zeros}
use Rattle.session.proofs.Finish.{lent-sized, emptied-opened, run_is}
use Rattle.session.proofs.run.Goals as goal

pub run_header-said-requires : goal.run_header-said-requires
run_header-said-requires c =
    let a = c.args in
    let z = lent-sized _ _ _ _ c.requires.scratch_value in record {
      opened = emptied-opened (length a.vars.now) (length a.members.now) z.columns.least z.columns.most z.member-room _ _ _ _ _ _
          c.empty.ensures.vars_after (c.empty.ensures.lows_after ∙ ap zeros z.columns.lows)
          (c.empty.ensures.highs_after ∙ ap zeros z.columns.highs)
          (c.empty.ensures.heads_after ∙ ap zeros z.columns.heads)
          (c.empty.ensures.links_after ∙ ap zeros z.columns.links) c.empty.ensures.members_after;
      in_bounds = (
        z.scratch-room,
        c.requires.marks_value.0 ∙ ap unmarked (sym c.empty.auto.vars),
        omega (arith, c.requires.marks_value.1, c.empty.auto.vars),
        c.clear_bytes.ensures ∙ ap zeros (z.marks ∙ sym c.empty.auto.members),
      );
    }

pub shape_of-vars : goal.shape_of-vars
shape_of-vars c =
    c.run_header-said.auto.vars ∙ c.empty.auto.vars

pub shape_of-lows : goal.shape_of-lows
shape_of-lows c =
    c.run_header-said.auto.lows ∙ c.empty.auto.lows

pub shape_of-highs : goal.shape_of-highs
shape_of-highs c =
    c.run_header-said.auto.highs ∙ c.empty.auto.highs

pub shape_of-heads : goal.shape_of-heads
shape_of-heads c =
    c.run_header-said.auto.heads ∙ c.empty.auto.heads

pub shape_of-links : goal.shape_of-links
shape_of-links c =
    c.run_header-said.auto.links ∙ c.empty.auto.links

pub shape_of-memo : goal.shape_of-memo
shape_of-memo c =
    c.run_header-said.auto.memo

pub shape_of-marks : goal.shape_of-marks
shape_of-marks c =
    c.run_header-said.auto.marks

pub shape_of-members : goal.shape_of-members
shape_of-members c =
    c.run_header-said.auto.members ∙ c.empty.auto.members

pub shape_of-scratch : goal.shape_of-scratch
shape_of-scratch c =
    c.clear_numbers.auto.numbers ∙ c.run_header-said.auto.scratch

pub shape_of-struck : goal.shape_of-struck
shape_of-struck c =
    c.run_header-said.auto.struck ∙ c.clear_bytes.auto.bytes

pub returns : goal.returns
returns c =
    let a = c.args in
    run_is a.mode (length a.vars.now) (length a.members.now) (length a.scratch.now) a.formula.now a.proof.now _ _ _ _
    _ _ _ _
    c.run_header-said.ensures c.empty.auto.vars c.empty.auto.members
    c.clear_numbers.ensures c.run_header-said.auto.scratch
