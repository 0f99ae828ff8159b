-- `judge_live` judges over the members that are not struck: they are gathered, and the line is judged over them. Assumes nothing.
use mathlib.Core.Path.{◌≡◌, sym, subst}
use mathlib.Core.List.{List}
use Prim.Native.Nat.{ℕ, ◌≤◌}
use native.Mathlib.Omega.{arith}
use lib.ListN.{length, take}
use lib.Seq.{length-take-le}
use Rattle.meaning.specs.Rules.{Line}
use Rattle.table.specs.Nodes.{diagram_at}
use Rattle.table.specs.Indexed.{Table, table_of, nodes_of}
use Rattle.table.specs.Lists.{diagrams_of}
use Rattle.verdict.specs.Steps.{unstruck}
use Rattle.verdict.specs.Taken.{line_by}
use Rattle.judge.specs.Lines.{Negatable, LineSays}
use Rattle.paths.specs.Rounds.{most_rounds}
use Rattle.steps.proofs.Strikings.{unstruck-inside}
use Rattle.steps.proofs.line.judge_live.Reads as reads
use Rattle.steps.proofs.line.judge_live.Lts as lts
use Rattle.steps.proofs.line.judge_live.Tie as tie
use Rattle.steps.proofs.line.judge_live.Goals as goal

module _ (s : lts.Start tie.the-claims reads.Pre reads.Post tie.handed_clauses) where
  abbrev before : Table
  before = table_of s.args.vars.now s.args.lows.now s.args.highs.now s.args.heads.now s.args.links.now
      s.args.st.count

  -- the members that are not struck
  abbrev live : List ℕ
  live = unstruck (take s.args.st.members s.args.struck.now) (take s.args.st.members s.args.members.now)

  abbrev said : List ℕ → Line
  said ms = line_by 64 s.args.rule s.args.st.witness.positive s.args.st.witness.negative (diagrams_of (nodes_of before) ms)
      (diagram_at (nodes_of before) s.args.g.0)

  ready : Negatable before live s.args.memo.now s.args.g.0
  ready = record {
    ready = record {
      good = s.requires.0.ready.good;
      inside = unstruck-inside s.args.st.count (take s.args.st.members s.args.struck.now)
          (take s.args.st.members s.args.members.now) s.requires.0.ready.inside;
      room = s.requires.0.ready.room;
    };
    inside = s.requires.0.inside;
    not-one = s.requires.0.not-one;
  }

module _ (c : lts.After-live_members tie.the-claims reads.Pre reads.Post tie.handed_clauses) where
  abbrev gathered : List ℕ
  gathered = take c.live_members-m.result c.live_members-m.new.live

  few : c.live_members-m.result ≤ 2048
  few = omega (arith, c.live_members-m.ensures.0, c.requires.2)

  gathered-is : gathered ≡ live c.before.before.before.before.before.before.before.before.before.before.before.before
  gathered-is = c.live_members-m.ensures.1

  gathered-length : length gathered ≡ c.live_members-m.result
  gathered-length = length-take-le c.live_members-m.result c.live_members-m.new.live
      (omega (arith, few, c.live_members-m.auto.live))

pub live_members-m-requires : goal.live_members-m-requires
live_members-m-requires c = (
  omega (arith, c.requires.2, c.requires.3),
  omega (arith, c.requires.2, c.requires.3, c.requires.5),
  omega (arith, c.requires.2),
)

pub slice_bounds-live-end : goal.slice_bounds-live-end
slice_bounds-live-end c = omega (arith, few c.before.before.before.before.before.before.before.before.before, c.live_members-m.auto.live)

pub slice_bounds-judge_line-end : goal.slice_bounds-judge_line-end
slice_bounds-judge_line-end c = sym (gathered-length c.before.before.before.before.before.before.before.before.before.before)

pub judge_line-requires : goal.judge_line-requires
judge_line-requires c =
    let c12 = c.before.before.before.before.before.before.before.before.before.before.before.before in (
      subst (λ (ms : List ℕ). Negatable
          (before c12.before.before.before.before.before.before.before.before.before.before.before) ms c.args.memo.now c.args.g.0)
          (sym (gathered-is c.before.before.before.before.before.before.before.before.before.before.before))
          (ready c12.before.before.before.before.before.before.before.before.before.before.before),
      c.requires.1,
      omega (
        arith,
        gathered-length c.before.before.before.before.before.before.before.before.before.before.before,
        few c.before.before.before.before.before.before.before.before.before.before.before,
      ),
      c.requires.4,
      c.requires.6,
    )

pub shape_of-vars : goal.shape_of-vars
shape_of-vars c = c.judge_line.auto.vars

pub shape_of-lows : goal.shape_of-lows
shape_of-lows c = c.judge_line.auto.lows

pub shape_of-highs : goal.shape_of-highs
shape_of-highs c = c.judge_line.auto.highs

pub shape_of-heads : goal.shape_of-heads
shape_of-heads c = c.judge_line.auto.heads

pub shape_of-links : goal.shape_of-links
shape_of-links c = c.judge_line.auto.links

pub shape_of-memo : goal.shape_of-memo
shape_of-memo c = c.judge_line.auto.memo

pub shape_of-marks : goal.shape_of-marks
shape_of-marks c = c.judge_line.auto.marks

pub shape_of-scratch : goal.shape_of-scratch
shape_of-scratch c = c.judge_line.auto.scratch

pub returns : goal.returns
returns c =
    let c12 = c.before.before.before.before.before.before.before.before.before.before.before.before in
    let c24 = c12.before.before.before.before.before.before.before.before.before.before.before.before in
    let c36 = c24.before.before.before.before.before.before.before.before.before.before.before.before in
    record {
      fact = subst (λ (ms : List ℕ). LineSays (before
          c36.before.before.before.before) (said c36.before.before.before.before ms) most_rounds c.judge_line.result
          (table_of c.judge_line.new.vars c.judge_line.new.lows c.judge_line.new.highs c.judge_line.new.heads c.judge_line.new.links
          c.judge_line.result.count))
          (gathered-is c24.before.before.before.before) c.judge_line.ensures.fact;
      marks_after = c.judge_line.ensures.marks_after;
    }
