-- `judge_line` judges by the line's rule, over the members in use. Assumes nothing.
use Rattle.paths.specs.Rounds.{most_rounds}
use Rattle.steps.specs.Tests.{FewPaths}
use mathlib.Core.Path.{◌≡◌, sym, subst}
use Prim.Native.Nat.{ℕ}
use native.Mathlib.Omega.{arith}
use lib.ListN.{length, take, replicate, length-replicate}
use lib.Seq.{length-take-le, length_front}
use Rattle.meaning.specs.Rules.{Line}
use Rattle.table.specs.Nodes.{diagram_at}
use Rattle.table.specs.Indexed.{Table, table_of, nodes_of}
use Rattle.table.specs.Lists.{diagrams_of}
use Rattle.records.specs.declared.Rule.{Rule}
use Rattle.judge.specs.Lines.{LineSays}
use Rattle.verdict.specs.Taken.{line_by}
use Rattle.steps.proofs.Lines.{says-most}
use Rattle.steps.proofs.line.judge_line.Reads as reads
use Rattle.steps.proofs.line.judge_line.Lts as lts
use Rattle.steps.proofs.line.judge_line.Tie as tie
use Rattle.steps.proofs.line.judge_line.Goals as goal

module _ (s : lts.Start tie.the-claims reads.Pre reads.Post tie.handed_clauses) where
  abbrev before : Table
  before = table_of s.args.vars.now s.args.lows.now s.args.highs.now s.args.heads.now s.args.links.now
      s.args.st.count

  -- how many members there are
  abbrev m : ℕ
  m = length s.args.live.now

  abbrev said : Rule → Line
  said rule = line_by 64 rule s.args.st.witness.positive s.args.st.witness.negative
      (diagrams_of (nodes_of before) s.args.live.now) (diagram_at (nodes_of before) s.args.g.0)

  scratch-length : length (take m s.args.scratch.now) ≡ m
  scratch-length = length-take-le m s.args.scratch.now (omega (arith, s.requires.2, s.requires.3))

  -- the lists made here
  own-length : length (take m (replicate {A = ℕ} 2048 0)) ≡ m
  own-length = length-take-le m (replicate {A = ℕ} 2048 0) (omega (arith, length-replicate {A = ℕ} 2048 0, s.requires.2))

pub slice_bounds-rup-end : goal.slice_bounds-rup-end
slice_bounds-rup-end c =
    let c12 = c.before.before.before.before.before.before.before.before.before.before.before.before in
    sym (own-length c12.before.before.before.before.before.before.before)

pub slice_bounds-rup-end-in-Rup-2 : goal.slice_bounds-rup-end-in-Rup-2
slice_bounds-rup-end-in-Rup-2 c =
    let c12 = c.before.before.before.before.before.before.before.before.before.before.before.before in
    sym (scratch-length c12.before.before.before.before.before.before.before.before)

pub slice_bounds-rup-end-in-Rup-3 : goal.slice_bounds-rup-end-in-Rup-3
slice_bounds-rup-end-in-Rup-3 c =
    let c12 = c.before.before.before.before.before.before.before.before.before.before.before.before in
    sym (own-length c12.before.before.before.before.before.before.before.before.before)

pub rup-requires : goal.rup-requires
rup-requires c =
    let c12 = c.before.before.before.before.before.before.before.before.before.before.before.before in
    record {
      fact = (
        c.requires.0,
        c.requires.1,
        scratch-length
            c12.before.before.before.before.before.before.before.before.before,
        c.requires.2,
      );
      memberwords_len = (
        own-length
            c12.before.before.before.before.before.before.before.before.before,
        own-length c12.before.before.before.before.before.before.before.before.before,
      );
    }

pub slice_bounds-pr-end : goal.slice_bounds-pr-end
slice_bounds-pr-end c =
    let c12 = c.before.before.before.before.before.before.before.before.before.before.before.before in
    sym (own-length c12.before.before.before.before.before.before.before)

pub slice_bounds-pr-end-in-Pr-2 : goal.slice_bounds-pr-end-in-Pr-2
slice_bounds-pr-end-in-Pr-2 c =
    let c12 = c.before.before.before.before.before.before.before.before.before.before.before.before in
    sym (scratch-length c12.before.before.before.before.before.before.before.before)

pub slice_bounds-pr-end-in-Pr-3 : goal.slice_bounds-pr-end-in-Pr-3
slice_bounds-pr-end-in-Pr-3 c =
    let c12 = c.before.before.before.before.before.before.before.before.before.before.before.before in
    sym (own-length c12.before.before.before.before.before.before.before.before.before)

pub slice_bounds-pr-end-in-Pr-4 : goal.slice_bounds-pr-end-in-Pr-4
slice_bounds-pr-end-in-Pr-4 c =
    let c12 = c.before.before.before.before.before.before.before.before.before.before.before.before in
    sym (own-length c12.before.before.before.before.before.before.before.before.before.before)

pub slice_bounds-pr-end-in-Pr-5 : goal.slice_bounds-pr-end-in-Pr-5
slice_bounds-pr-end-in-Pr-5 c =
    let c12 = c.before.before.before.before.before.before.before.before.before.before.before.before in
    sym (own-length c12.before.before.before.before.before.before.before.before.before.before.before)

pub pr-requires : goal.pr-requires
pr-requires c =
    let c12 = c.before.before.before.before.before.before.before.before.before.before.before.before in
    let c24 = c12.before.before.before.before.before.before.before.before.before.before.before.before in
    record {
      fact = (
        c.requires.0,
        c.requires.1,
        scratch-length
            c24,
        own-length c24,
        c.requires.2,
      );
      memberwords_len = (
        own-length
            c24,
        own-length c24,
        own-length c24,
      );
    }

pub slice_bounds-path-end : goal.slice_bounds-path-end
slice_bounds-path-end c =
    let c12 = c.before.before.before.before.before.before.before.before.before.before.before.before in
    sym (own-length c12.before.before.before.before.before.before.before)

pub slice_bounds-path-end-in-Path-2 : goal.slice_bounds-path-end-in-Path-2
slice_bounds-path-end-in-Path-2 c =
    let c12 = c.before.before.before.before.before.before.before.before.before.before.before.before in
    sym (scratch-length c12.before.before.before.before.before.before.before.before)

pub slice_bounds-path-end-in-Path-3 : goal.slice_bounds-path-end-in-Path-3
slice_bounds-path-end-in-Path-3 c =
    let c12 = c.before.before.before.before.before.before.before.before.before.before.before.before in
    sym (own-length c12.before.before.before.before.before.before.before.before.before)

pub path-requires : goal.path-requires
path-requires c =
    let c12 = c.before.before.before.before.before.before.before.before.before.before.before.before in
    record {
      fact = (
        c.requires.0,
        c.requires.1,
        scratch-length c12.before.before.before.before.before.before.before.before.before,
        c.requires.2,
        subst (λ (x : Rule). FewPaths x (diagram_at
            (nodes_of (before c12.before.before.before.before.before.before.before.before.before)) c.args.g.0))
            c.in-Path.is c.requires.4,
      );
      memberwords_len = (
        own-length
            c12.before.before.before.before.before.before.before.before.before,
        own-length c12.before.before.before.before.before.before.before.before.before,
      );
    }

pub shape_of-vars-in-Rup : goal.shape_of-vars-in-Rup
shape_of-vars-in-Rup c =
    c.rup.auto.vars

pub shape_of-lows-in-Rup : goal.shape_of-lows-in-Rup
shape_of-lows-in-Rup c =
    c.rup.auto.lows

pub shape_of-highs-in-Rup : goal.shape_of-highs-in-Rup
shape_of-highs-in-Rup c =
    c.rup.auto.highs

pub shape_of-heads-in-Rup : goal.shape_of-heads-in-Rup
shape_of-heads-in-Rup c =
    c.rup.auto.heads

pub shape_of-links-in-Rup : goal.shape_of-links-in-Rup
shape_of-links-in-Rup c =
    c.rup.auto.links

pub shape_of-memo-in-Rup : goal.shape_of-memo-in-Rup
shape_of-memo-in-Rup c =
    c.rup.auto.memo

pub shape_of-marks-in-Rup : goal.shape_of-marks-in-Rup
shape_of-marks-in-Rup c =
    c.rup.auto.marks

pub shape_of-scratch-in-Rup : goal.shape_of-scratch-in-Rup
shape_of-scratch-in-Rup c =
    let c12 = c.before.before.before.before.before.before.before.before.before.before.before.before in
    let c24 = c12.before.before.before.before.before.before.before.before.before.before.before.before in
    let c36 = c24.before.before.before.before.before.before.before.before.before.before.before.before in
    length_front c.args.scratch.now c.rup.new.list
    (m c36.before.before.before.before) c.rup.auto.list

pub returns-in-Rup : goal.returns-in-Rup
returns-in-Rup c =
    let c12 = c.before.before.before.before.before.before.before.before.before.before.before.before in
    let c24 = c12.before.before.before.before.before.before.before.before.before.before.before.before in
    let c36 = c24.before.before.before.before.before.before.before.before.before.before.before.before in
    record {
      fact = subst (λ (x : Rule). LineSays (before
          c36.before.before.before.before) (said c36.before.before.before.before x) most_rounds c.rup.result
          (table_of c.rup.new.vars c.rup.new.lows c.rup.new.highs c.rup.new.heads c.rup.new.links c.rup.result.count))
          (sym c.in-Rup.is)
          (says-most (before c36.before.before.before.before) _ _ most_rounds c.rup.result _ (omega arith) c.rup.ensures.fact_2);
      marks_after = c.rup.ensures.marks_after;
    }

pub shape_of-vars-in-Pr : goal.shape_of-vars-in-Pr
shape_of-vars-in-Pr c =
    c.pr.auto.vars

pub shape_of-lows-in-Pr : goal.shape_of-lows-in-Pr
shape_of-lows-in-Pr c =
    c.pr.auto.lows

pub shape_of-highs-in-Pr : goal.shape_of-highs-in-Pr
shape_of-highs-in-Pr c =
    c.pr.auto.highs

pub shape_of-heads-in-Pr : goal.shape_of-heads-in-Pr
shape_of-heads-in-Pr c =
    c.pr.auto.heads

pub shape_of-links-in-Pr : goal.shape_of-links-in-Pr
shape_of-links-in-Pr c =
    c.pr.auto.links

pub shape_of-memo-in-Pr : goal.shape_of-memo-in-Pr
shape_of-memo-in-Pr c =
    c.pr.auto.memo

pub shape_of-marks-in-Pr : goal.shape_of-marks-in-Pr
shape_of-marks-in-Pr c =
    c.pr.auto.marks

pub shape_of-scratch-in-Pr : goal.shape_of-scratch-in-Pr
shape_of-scratch-in-Pr c =
    let c12 = c.before.before.before.before.before.before.before.before.before.before.before.before in
    let c24 = c12.before.before.before.before.before.before.before.before.before.before.before.before in
    let c36 = c24.before.before.before.before.before.before.before.before.before.before.before.before in
    length_front c.args.scratch.now c.pr.new.first
    (m c36.before.before.before.before.before.before.before.before.before) c.pr.auto.first

pub returns-in-Pr : goal.returns-in-Pr
returns-in-Pr c =
    let c12 = c.before.before.before.before.before.before.before.before.before.before.before.before in
    let c24 = c12.before.before.before.before.before.before.before.before.before.before.before.before in
    let c36 = c24.before.before.before.before.before.before.before.before.before.before.before.before in
    record {
      fact = subst (λ (x : Rule). LineSays (before
          c36.before.before.before.before.before.before.before.before.before)
          (said c36.before.before.before.before.before.before.before.before.before x) most_rounds c.pr.result
          (table_of c.pr.new.vars c.pr.new.lows c.pr.new.highs c.pr.new.heads c.pr.new.links c.pr.result.count))
          (sym c.in-Pr.is)
          (says-most (before c36.before.before.before.before.before.before.before.before.before) _ _ most_rounds c.pr.result _
          (omega (arith, c.requires.2)) c.pr.ensures.fact_2);
      marks_after = c.pr.ensures.marks_after;
    }

pub shape_of-vars-in-Path : goal.shape_of-vars-in-Path
shape_of-vars-in-Path c =
    c.path.auto.vars

pub shape_of-lows-in-Path : goal.shape_of-lows-in-Path
shape_of-lows-in-Path c =
    c.path.auto.lows

pub shape_of-highs-in-Path : goal.shape_of-highs-in-Path
shape_of-highs-in-Path c =
    c.path.auto.highs

pub shape_of-heads-in-Path : goal.shape_of-heads-in-Path
shape_of-heads-in-Path c =
    c.path.auto.heads

pub shape_of-links-in-Path : goal.shape_of-links-in-Path
shape_of-links-in-Path c =
    c.path.auto.links

pub shape_of-memo-in-Path : goal.shape_of-memo-in-Path
shape_of-memo-in-Path c =
    c.path.auto.memo

pub shape_of-marks-in-Path : goal.shape_of-marks-in-Path
shape_of-marks-in-Path c =
    c.path.auto.marks

pub shape_of-scratch-in-Path : goal.shape_of-scratch-in-Path
shape_of-scratch-in-Path c =
    let c12 = c.before.before.before.before.before.before.before.before.before.before.before.before in
    let c24 = c12.before.before.before.before.before.before.before.before.before.before.before.before in
    let c36 = c24.before.before.before.before.before.before.before.before.before.before.before.before in
    length_front c.args.scratch.now c.path.new.list
    (m c36.before.before.before.before) c.path.auto.list

pub returns-in-Path : goal.returns-in-Path
returns-in-Path c =
    let c12 = c.before.before.before.before.before.before.before.before.before.before.before.before in
    let c24 = c12.before.before.before.before.before.before.before.before.before.before.before.before in
    let c36 = c24.before.before.before.before.before.before.before.before.before.before.before.before in
    record {
      fact = subst (λ (x : Rule). LineSays (before
          c36.before.before.before.before) (said c36.before.before.before.before x) most_rounds c.path.result
          (table_of c.path.new.vars c.path.new.lows c.path.new.highs c.path.new.heads c.path.new.links c.path.result.count))
          (sym c.in-Path.is)
          c.path.ensures.fact_2;
      marks_after = c.path.ensures.marks_after;
    }
