-- `try_line`: dropping what judging made gives the table back. Assumes nothing.
use mathlib.Core.Path.{◌∙◌}
use Rattle.table.specs.Indexed.{Table, table_of}
use Rattle.steps.proofs.Lines.{tried}
use Rattle.steps.proofs.line.try_line.Reads as reads
use Rattle.steps.proofs.line.try_line.Lts as lts
use Rattle.steps.proofs.line.try_line.Tie as tie
use Rattle.steps.proofs.line.try_line.Goals as goal

-- the table that judging leaves
module _ (c : lts.After-judge_live tie.the-claims reads.Pre reads.Post tie.handed_clauses) where
  abbrev judged : Table
  judged = table_of c.judge_live-j.new.vars c.judge_live-j.new.lows c.judge_live-j.new.highs c.judge_live-j.new.heads
      c.judge_live-j.new.links c.judge_live-j.result.count

pub judge_live-j-requires : goal.judge_live-j-requires
judge_live-j-requires c = c.requires

pub drop_to-requires : goal.drop_to-requires
drop_to-requires c =
    let j = c.judge_live-j.ensures.fact in
    (j.extended.good, c.requires.0.ready.good.least, j.extended.more)

pub shape_of-vars : goal.shape_of-vars
shape_of-vars c = c.drop_to.auto.vars ∙ c.judge_live-j.auto.vars

pub shape_of-lows : goal.shape_of-lows
shape_of-lows c = c.drop_to.auto.lows ∙ c.judge_live-j.auto.lows

pub shape_of-highs : goal.shape_of-highs
shape_of-highs c = c.drop_to.auto.highs ∙ c.judge_live-j.auto.highs

pub shape_of-heads : goal.shape_of-heads
shape_of-heads c = c.drop_to.auto.heads ∙ c.judge_live-j.auto.heads

pub shape_of-links : goal.shape_of-links
shape_of-links c = c.drop_to.auto.links ∙ c.judge_live-j.auto.links

pub shape_of-memo : goal.shape_of-memo
shape_of-memo c = c.judge_live-j.auto.memo

pub shape_of-marks : goal.shape_of-marks
shape_of-marks c = c.judge_live-j.auto.marks

pub shape_of-scratch : goal.shape_of-scratch
shape_of-scratch c = c.judge_live-j.auto.scratch

pub returns : goal.returns
returns c =
    let c12 = c.before.before.before.before.before.before.before.before.before.before.before.before in
    let c24 = c12.before.before.before.before.before.before.before.before.before.before.before.before in
    record {
      fact = tried _ c.requires.0.ready.good _ _
          (judged c24.before.before.before.before.before.before.before.before.before) _ c.judge_live-j.ensures.fact
          c.drop_to.ensures;
      marks_after = c.judge_live-j.ensures.marks_after;
    }
