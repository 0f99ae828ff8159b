-- `book_step`: each test is one of the definition's, in its order; what is left is the check's own step (Reading). Assumes nothing.
use mathlib.Core.Path.{sym, ◌∙◌}
use Rattle.state.specs.States.{lent_of}
use Rattle.book_parts.proofs.Reading.{beyond-stops, line-stops, record-steps}
use Rattle.book_parts.proofs.line.book_step.Goals as goal

pub returns-then-is_beyond : goal.returns-then-is_beyond
returns-then-is_beyond c =
    record { fact = beyond-stops _ _ _ _ c.requires.0 _ _ (sym c.is_beyond.ensures ∙ c.if-is_beyond.true); marks_after = c.requires.1 }

pub returns-then-is_followed_line : goal.returns-then-is_followed_line
returns-then-is_followed_line c =
    let q =
    sym c.is_beyond.ensures ∙ c.if-is_beyond.false in record {
      fact = line-stops _ _ _ _ c.requires.0 _ _ q (sym c.is_followed_line.ensures ∙ c.if-is_followed_line.true) _
          c.record_length.ensures;
      marks_after = c.requires.1;
    }

pub record_step-requires : goal.record_step-requires
record_step-requires c =
    (c.requires.0, c.requires.1, c.requires.2)

pub shape_of-vars : goal.shape_of-vars
shape_of-vars c =
    c.record_step.auto.vars

pub shape_of-lows : goal.shape_of-lows
shape_of-lows c =
    c.record_step.auto.lows

pub shape_of-highs : goal.shape_of-highs
shape_of-highs c =
    c.record_step.auto.highs

pub shape_of-heads : goal.shape_of-heads
shape_of-heads c =
    c.record_step.auto.heads

pub shape_of-links : goal.shape_of-links
shape_of-links c =
    c.record_step.auto.links

pub shape_of-memo : goal.shape_of-memo
shape_of-memo c =
    c.record_step.auto.memo

pub shape_of-marks : goal.shape_of-marks
shape_of-marks c =
    c.record_step.auto.marks

pub shape_of-members : goal.shape_of-members
shape_of-members c =
    c.record_step.auto.members

pub shape_of-scratch : goal.shape_of-scratch
shape_of-scratch c =
    c.record_step.auto.scratch

pub shape_of-struck : goal.shape_of-struck
shape_of-struck c =
    c.record_step.auto.struck

pub returns : goal.returns
returns c =
    let q =
    sym c.is_beyond.ensures ∙ c.if-is_beyond.false in record {
      fact = record-steps _ _ _ _ c.requires.0 _ _ q
          (sym c.is_followed_line.ensures ∙ c.if-is_followed_line.false)
          (lent_of c.record_step.new.vars c.record_step.new.lows c.record_step.new.highs c.record_step.new.heads c.record_step.new.links
          c.record_step.new.members c.record_step.new.scratch
          c.record_step.new.struck) _ c.record_step.ensures.fact;
      marks_after = c.record_step.ensures.marks_after;
    }
