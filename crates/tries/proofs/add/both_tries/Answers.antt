-- `both_tries`: the first try decides, or the second over the same table. Assumes nothing.
use mathlib.Core.Path.{refl, sym, ap, ◌∙◌}
use native.Mathlib.Omega.{arith}
use Rattle.table.specs.Indexed.{Table, table_of}
use Rattle.conflict.specs.Marks.{unmarked}
use Rattle.tries.specs.Tries.{no_room, once}
use Rattle.tries.proofs.Trying.{both-twice, again}
use Rattle.tries.proofs.add.both_tries.Reads as reads
use Rattle.tries.proofs.add.both_tries.Lts as lts
use Rattle.tries.proofs.add.both_tries.Tie as tie
use Rattle.tries.proofs.add.both_tries.Goals as goal

-- the table that the first try leaves
module _ (a : lts.After-try_line tie.the-claims reads.Pre reads.Post tie.handed_clauses) where
  abbrev left : Table
  left = table_of a.try_line-first.new.vars a.try_line-first.new.lows a.try_line-first.new.highs a.try_line-first.new.heads
      a.try_line-first.new.links a.args.st.count

pub returns-then-made : goal.returns-then-made
returns-then-made c = record { fact = (refl, no_room c.if-made.true); marks_after = c.requires.1 }

pub try_line-first-requires : goal.try_line-first-requires
try_line-first-requires c = (c.requires.0, c.requires.1, c.requires.2, c.requires.3, c.requires.4, c.requires.5, tt)

pub shape_of-vars-then-is_decided : goal.shape_of-vars-then-is_decided
shape_of-vars-then-is_decided c = c.try_line-first.auto.vars

pub shape_of-lows-then-is_decided : goal.shape_of-lows-then-is_decided
shape_of-lows-then-is_decided c = c.try_line-first.auto.lows

pub shape_of-highs-then-is_decided : goal.shape_of-highs-then-is_decided
shape_of-highs-then-is_decided c = c.try_line-first.auto.highs

pub shape_of-heads-then-is_decided : goal.shape_of-heads-then-is_decided
shape_of-heads-then-is_decided c = c.try_line-first.auto.heads

pub shape_of-links-then-is_decided : goal.shape_of-links-then-is_decided
shape_of-links-then-is_decided c = c.try_line-first.auto.links

pub shape_of-memo-then-is_decided : goal.shape_of-memo-then-is_decided
shape_of-memo-then-is_decided c = c.try_line-first.auto.memo

pub shape_of-marks-then-is_decided : goal.shape_of-marks-then-is_decided
shape_of-marks-then-is_decided c = c.try_line-first.auto.marks

pub shape_of-scratch-then-is_decided : goal.shape_of-scratch-then-is_decided
shape_of-scratch-then-is_decided c = c.try_line-first.auto.scratch

pub returns-then-is_decided : goal.returns-then-is_decided
returns-then-is_decided c =
    record {
      fact = (
        c.try_line-first.ensures.fact.0,
        once _ c.if-made.false c.try_line-first.ensures.fact.1
            (sym c.is_decided.ensures ∙ c.if-is_decided.true),
      );
      marks_after = c.try_line-first.ensures.marks_after;
    }

pub second_try-second-requires : goal.second_try-second-requires
second_try-second-requires c =
    let c12 = c.before.before.before.before.before.before.before.before.before.before.before.before in
    let c24 = c12.before.before.before.before.before.before.before.before.before.before.before.before in (
      again _ (left c24.before.before.before) _ _ _ _ c.try_line-first.ensures.fact.0 c.try_line-first.auto.memo c.requires.0,
      c.try_line-first.ensures.marks_after ∙ ap unmarked (sym c.try_line-first.auto.vars),
      c.requires.2,
      c.requires.3,
      omega (arith, c.requires.4, c.try_line-first.auto.scratch),
      c.requires.5,
      c.requires.6,
    )

pub shape_of-vars : goal.shape_of-vars
shape_of-vars c = c.second_try-second.auto.vars ∙ c.try_line-first.auto.vars

pub shape_of-lows : goal.shape_of-lows
shape_of-lows c = c.second_try-second.auto.lows ∙ c.try_line-first.auto.lows

pub shape_of-highs : goal.shape_of-highs
shape_of-highs c = c.second_try-second.auto.highs ∙ c.try_line-first.auto.highs

pub shape_of-heads : goal.shape_of-heads
shape_of-heads c = c.second_try-second.auto.heads ∙ c.try_line-first.auto.heads

pub shape_of-links : goal.shape_of-links
shape_of-links c = c.second_try-second.auto.links ∙ c.try_line-first.auto.links

pub shape_of-memo : goal.shape_of-memo
shape_of-memo c = c.second_try-second.auto.memo
    ∙ c.try_line-first.auto.memo

pub shape_of-marks : goal.shape_of-marks
shape_of-marks c = c.second_try-second.auto.marks
    ∙ c.try_line-first.auto.marks

pub shape_of-scratch : goal.shape_of-scratch
shape_of-scratch c = c.second_try-second.auto.scratch
    ∙ c.try_line-first.auto.scratch

pub returns : goal.returns
returns c =
    let c12 = c.before.before.before.before.before.before.before.before.before.before.before.before in
    let c24 = c12.before.before.before.before.before.before.before.before.before.before.before.before in
    let c36 = c24.before.before.before.before.before.before.before.before.before.before.before.before in
    let e = c24.before.before.before in record {
      fact = (
        c.second_try-second.ensures.fact.0 ∙ c.try_line-first.ensures.fact.0,
        both-twice _ _ _ _ c.try_line-first.result c.second_try-second.result c.if-made.false c.try_line-first.ensures.fact.1
            (sym e.is_decided.ensures ∙ c.if-is_decided.false)
            (left c36.before.before.before.before.before.before.before.before.before) c.try_line-first.ensures.fact.0
            c.second_try-second.ensures.fact.1 _ c.greater-peak.ensures,
      );
      marks_after = c.second_try-second.ensures.marks_after ∙ ap unmarked c.try_line-first.auto.vars;
    }
