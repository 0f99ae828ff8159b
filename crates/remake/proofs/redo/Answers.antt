-- `redo`: a striking stays; a record that was taken goes on. Assumes nothing.
use mathlib.Core.Path.{sym, ◌∙◌}
use lib.ListN.{length}
use Rattle.state.specs.States.{lent_of}
use Rattle.remake.proofs.Redoing.{remade-strike, remade-next, remade-stop, remade-spent}
use Rattle.remake.proofs.redo.Goals as goal

pub returns-then-is_strike : goal.returns-then-is_strike
returns-then-is_strike c =
    let a = c.args in record {
      fact = remade-strike a.variables (length a.vars.now)
          (lent_of a.vars.now a.lows.now a.highs.now a.heads.now a.links.now a.members.now a.scratch.now
          a.struck.now) a.st c.requires.0 a.r (sym c.is_strike.ensures ∙ c.if-is_strike.true);
      marks_after = c.requires.1;
    }

pub record_step-requires : goal.record_step-requires
record_step-requires c =
    c.requires

pub shape_of-vars-in-Next : goal.shape_of-vars-in-Next
shape_of-vars-in-Next c =
    c.record_step.auto.vars

pub shape_of-lows-in-Next : goal.shape_of-lows-in-Next
shape_of-lows-in-Next c =
    c.record_step.auto.lows

pub shape_of-highs-in-Next : goal.shape_of-highs-in-Next
shape_of-highs-in-Next c =
    c.record_step.auto.highs

pub shape_of-heads-in-Next : goal.shape_of-heads-in-Next
shape_of-heads-in-Next c =
    c.record_step.auto.heads

pub shape_of-links-in-Next : goal.shape_of-links-in-Next
shape_of-links-in-Next c =
    c.record_step.auto.links

pub shape_of-memo-in-Next : goal.shape_of-memo-in-Next
shape_of-memo-in-Next c =
    c.record_step.auto.memo

pub shape_of-marks-in-Next : goal.shape_of-marks-in-Next
shape_of-marks-in-Next c =
    c.record_step.auto.marks

pub shape_of-members-in-Next : goal.shape_of-members-in-Next
shape_of-members-in-Next c =
    c.record_step.auto.members

pub shape_of-scratch-in-Next : goal.shape_of-scratch-in-Next
shape_of-scratch-in-Next c =
    c.record_step.auto.scratch

pub shape_of-struck-in-Next : goal.shape_of-struck-in-Next
shape_of-struck-in-Next c =
    c.record_step.auto.struck

pub returns-in-Next : goal.returns-in-Next
returns-in-Next c =
    let a = c.args in
    record {
      fact = remade-next a.variables (length a.vars.now)
          (lent_of a.vars.now a.lows.now a.highs.now a.heads.now a.links.now a.members.now a.scratch.now
          a.struck.now) a.st c.requires.0 a.r
          (sym c.is_strike.ensures ∙ c.if-is_strike.false)
          (lent_of c.record_step.new.vars c.record_step.new.lows c.record_step.new.highs c.record_step.new.heads c.record_step.new.links
          c.record_step.new.members c.record_step.new.scratch c.record_step.new.struck) c.record_step.result
          c.record_step.ensures.fact _ c.in-Next.is;
      marks_after = c.record_step.ensures.marks_after;
    }

pub shape_of-vars-in-Stop : goal.shape_of-vars-in-Stop
shape_of-vars-in-Stop c =
    c.record_step.auto.vars

pub shape_of-lows-in-Stop : goal.shape_of-lows-in-Stop
shape_of-lows-in-Stop c =
    c.record_step.auto.lows

pub shape_of-highs-in-Stop : goal.shape_of-highs-in-Stop
shape_of-highs-in-Stop c =
    c.record_step.auto.highs

pub shape_of-heads-in-Stop : goal.shape_of-heads-in-Stop
shape_of-heads-in-Stop c =
    c.record_step.auto.heads

pub shape_of-links-in-Stop : goal.shape_of-links-in-Stop
shape_of-links-in-Stop c =
    c.record_step.auto.links

pub shape_of-memo-in-Stop : goal.shape_of-memo-in-Stop
shape_of-memo-in-Stop c =
    c.record_step.auto.memo

pub shape_of-marks-in-Stop : goal.shape_of-marks-in-Stop
shape_of-marks-in-Stop c =
    c.record_step.auto.marks

pub shape_of-members-in-Stop : goal.shape_of-members-in-Stop
shape_of-members-in-Stop c =
    c.record_step.auto.members

pub shape_of-scratch-in-Stop : goal.shape_of-scratch-in-Stop
shape_of-scratch-in-Stop c =
    c.record_step.auto.scratch

pub shape_of-struck-in-Stop : goal.shape_of-struck-in-Stop
shape_of-struck-in-Stop c =
    c.record_step.auto.struck

pub returns-in-Stop : goal.returns-in-Stop
returns-in-Stop c =
    let a = c.args in
    record {
      fact = remade-stop a.variables (length a.vars.now)
          (lent_of a.vars.now a.lows.now a.highs.now a.heads.now a.links.now a.members.now a.scratch.now
          a.struck.now) a.st c.requires.0 a.r
          (sym c.is_strike.ensures ∙ c.if-is_strike.false)
          (lent_of c.record_step.new.vars c.record_step.new.lows c.record_step.new.highs c.record_step.new.heads c.record_step.new.links
          c.record_step.new.members c.record_step.new.scratch c.record_step.new.struck) c.record_step.result
          c.record_step.ensures.fact _ _ c.in-Stop.is _ _;
      marks_after = c.record_step.ensures.marks_after;
    }

pub shape_of-vars-in-Spent : goal.shape_of-vars-in-Spent
shape_of-vars-in-Spent c =
    c.record_step.auto.vars

pub shape_of-lows-in-Spent : goal.shape_of-lows-in-Spent
shape_of-lows-in-Spent c =
    c.record_step.auto.lows

pub shape_of-highs-in-Spent : goal.shape_of-highs-in-Spent
shape_of-highs-in-Spent c =
    c.record_step.auto.highs

pub shape_of-heads-in-Spent : goal.shape_of-heads-in-Spent
shape_of-heads-in-Spent c =
    c.record_step.auto.heads

pub shape_of-links-in-Spent : goal.shape_of-links-in-Spent
shape_of-links-in-Spent c =
    c.record_step.auto.links

pub shape_of-memo-in-Spent : goal.shape_of-memo-in-Spent
shape_of-memo-in-Spent c =
    c.record_step.auto.memo

pub shape_of-marks-in-Spent : goal.shape_of-marks-in-Spent
shape_of-marks-in-Spent c =
    c.record_step.auto.marks

pub shape_of-members-in-Spent : goal.shape_of-members-in-Spent
shape_of-members-in-Spent c =
    c.record_step.auto.members

pub shape_of-scratch-in-Spent : goal.shape_of-scratch-in-Spent
shape_of-scratch-in-Spent c =
    c.record_step.auto.scratch

pub shape_of-struck-in-Spent : goal.shape_of-struck-in-Spent
shape_of-struck-in-Spent c =
    c.record_step.auto.struck

pub returns-in-Spent : goal.returns-in-Spent
returns-in-Spent c =
    let a = c.args in
    record {
      fact = remade-spent a.variables (length a.vars.now)
          (lent_of a.vars.now a.lows.now a.highs.now a.heads.now a.links.now a.members.now a.scratch.now
          a.struck.now) a.st c.requires.0 a.r
          (sym c.is_strike.ensures ∙ c.if-is_strike.false)
          (lent_of c.record_step.new.vars c.record_step.new.lows c.record_step.new.highs c.record_step.new.heads c.record_step.new.links
          c.record_step.new.members c.record_step.new.scratch c.record_step.new.struck) c.record_step.result
          c.record_step.ensures.fact _ _ c.in-Spent.is _ _;
      marks_after = c.record_step.ensures.marks_after;
    }
