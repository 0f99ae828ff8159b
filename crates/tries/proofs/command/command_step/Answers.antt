-- `command_step`: the step of the command's kind; one law a kind (Commands). Assumes nothing.
use mathlib.Core.Path.{refl}
use native.Mathlib.Omega.{arith}
use Rattle.steps.proofs.Lines.{held-64}
use Rattle.tries.proofs.Commands.{says-recorded, says-added, says-struck, says-wrong, says-finished, says-as, ok-of, pivot-of}
use Rattle.tries.proofs.command.command_step.Goals as goal

pub record_step-requires : goal.record_step-requires
record_step-requires c =
    (c.requires.0, c.requires.1, c.requires.2)

pub clause_step-requires : goal.clause_step-requires
clause_step-requires c = (
  held-64 _ _ _ c.requires.0,
  c.requires.1,
  c.requires.2,
  pivot-of _ _ (ok-of _ _ _ c.in-Ok-Added.is (rw c.in-Ok-Added.is at c.in-Ok-Added.field-0-is)) c.requires.3,
)

pub strike_clause-requires : goal.strike_clause-requires
strike_clause-requires c =
    let H = c.requires.0 in (
      H.entries.good,
      omega (arith, H.many, H.lines),
      omega (arith, H.many, H.lines, H.room),
      omega (arith, H.many, H.lines, H.room, H.marked),
    )

pub shape_of-vars-in-Ok-Recorded : goal.shape_of-vars-in-Ok-Recorded
shape_of-vars-in-Ok-Recorded c =
    c.record_step.auto.vars

pub shape_of-lows-in-Ok-Recorded : goal.shape_of-lows-in-Ok-Recorded
shape_of-lows-in-Ok-Recorded c =
    c.record_step.auto.lows

pub shape_of-highs-in-Ok-Recorded : goal.shape_of-highs-in-Ok-Recorded
shape_of-highs-in-Ok-Recorded c =
    c.record_step.auto.highs

pub shape_of-heads-in-Ok-Recorded : goal.shape_of-heads-in-Ok-Recorded
shape_of-heads-in-Ok-Recorded c =
    c.record_step.auto.heads

pub shape_of-links-in-Ok-Recorded : goal.shape_of-links-in-Ok-Recorded
shape_of-links-in-Ok-Recorded c =
    c.record_step.auto.links

pub shape_of-memo-in-Ok-Recorded : goal.shape_of-memo-in-Ok-Recorded
shape_of-memo-in-Ok-Recorded c =
    c.record_step.auto.memo

pub shape_of-marks-in-Ok-Recorded : goal.shape_of-marks-in-Ok-Recorded
shape_of-marks-in-Ok-Recorded c =
    c.record_step.auto.marks

pub shape_of-members-in-Ok-Recorded : goal.shape_of-members-in-Ok-Recorded
shape_of-members-in-Ok-Recorded c =
    c.record_step.auto.members

pub shape_of-scratch-in-Ok-Recorded : goal.shape_of-scratch-in-Ok-Recorded
shape_of-scratch-in-Ok-Recorded c =
    c.record_step.auto.scratch

pub shape_of-struck-in-Ok-Recorded : goal.shape_of-struck-in-Ok-Recorded
shape_of-struck-in-Ok-Recorded c =
    c.record_step.auto.struck

pub returns-in-Ok-Recorded : goal.returns-in-Ok-Recorded
returns-in-Ok-Recorded c =
    record {
      stepped = says-as _ _ _ _ _ _ _ _
          (ok-of _ _ _ c.in-Ok-Recorded.is (rw c.in-Ok-Recorded.is at c.in-Ok-Recorded.field-0-is))
          (says-recorded _ _ _ _ _ _ _ _ c.record_step.ensures.fact);
      marks_after =
          c.record_step.ensures.marks_after;
    }

pub shape_of-vars-in-Ok-Added : goal.shape_of-vars-in-Ok-Added
shape_of-vars-in-Ok-Added c =
    c.clause_step.auto.vars

pub shape_of-lows-in-Ok-Added : goal.shape_of-lows-in-Ok-Added
shape_of-lows-in-Ok-Added c =
    c.clause_step.auto.lows

pub shape_of-highs-in-Ok-Added : goal.shape_of-highs-in-Ok-Added
shape_of-highs-in-Ok-Added c =
    c.clause_step.auto.highs

pub shape_of-heads-in-Ok-Added : goal.shape_of-heads-in-Ok-Added
shape_of-heads-in-Ok-Added c =
    c.clause_step.auto.heads

pub shape_of-links-in-Ok-Added : goal.shape_of-links-in-Ok-Added
shape_of-links-in-Ok-Added c =
    c.clause_step.auto.links

pub shape_of-memo-in-Ok-Added : goal.shape_of-memo-in-Ok-Added
shape_of-memo-in-Ok-Added c =
    c.clause_step.auto.memo

pub shape_of-marks-in-Ok-Added : goal.shape_of-marks-in-Ok-Added
shape_of-marks-in-Ok-Added c =
    c.clause_step.auto.marks

pub shape_of-members-in-Ok-Added : goal.shape_of-members-in-Ok-Added
shape_of-members-in-Ok-Added c =
    c.clause_step.auto.members

pub shape_of-scratch-in-Ok-Added : goal.shape_of-scratch-in-Ok-Added
shape_of-scratch-in-Ok-Added c =
    c.clause_step.auto.scratch

pub shape_of-struck-in-Ok-Added : goal.shape_of-struck-in-Ok-Added
shape_of-struck-in-Ok-Added c =
    refl

pub returns-in-Ok-Added : goal.returns-in-Ok-Added
returns-in-Ok-Added c =
    let H = c.requires.0 in record {
      stepped = says-as _ _ _ _ _ _ _ _ (ok-of _ _ _ c.in-Ok-Added.is (rw c.in-Ok-Added.is at c.in-Ok-Added.field-0-is))
          (says-added _ _ _ _ _ _ _ (λ profile ls. c.clause_step.ensures.stepped profile _ ls H));
      marks_after = c.clause_step.ensures.marks_after;
    }

pub returns-in-Ok-Struck : goal.returns-in-Ok-Struck
returns-in-Ok-Struck c =
    record {
      stepped = says-as _ _ _ _ _ _ _ _ (ok-of _ _ _ c.in-Ok-Struck.is (rw c.in-Ok-Struck.is at c.in-Ok-Struck.field-0-is))
          (says-struck _ _ _ _ _ _ _ (λ ls. c.strike_clause.ensures _ c.args.scratch.now ls c.requires.0));
      marks_after = c.requires.1;
    }

pub returns-in-Ok-Finished : goal.returns-in-Ok-Finished
returns-in-Ok-Finished c = record {
  stepped = says-as _ _ _ _ _ _ _ _
      (ok-of _ _ _ c.in-Ok-Finished.is (rw c.in-Ok-Finished.is at c.in-Ok-Finished.field-0-is))
      (says-finished _ _ _ _ _ _ (c.finish_step.ensures _ _));
  marks_after = c.requires.1;
}

pub returns-in-Err : goal.returns-in-Err
returns-in-Err c =
    record { stepped = says-as _ _ _ _ _ _ _ _ c.in-Err.is (says-wrong _ _ _ _ _); marks_after = c.requires.1 }
