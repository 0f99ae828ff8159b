-- `turn_traced`: h is made, the members by not-h are traced, and the nodes are dropped. Assumes nothing.
use mathlib.Core.Path.{◌≡◌, ◌∙◌}
use native.Mathlib.Omega.{arith}
use lib.ListN.{length}
use Rattle.table.specs.Indexed.{Table, table_of, Outcome, outcome_of}
use Rattle.operate.specs.declared.Operation.TheVariants.{Literals}
use Rattle.operate.specs.Inner.{applied}
use Rattle.operate.proofs.RightMemo.{empty_right}
use Rattle.judge.proofs.Turning.{literals-ready, turn-ready, turn-worded}
use Rattle.tell.proofs.Turns.{every-support}
use Rattle.tell.proofs.Traced.{turn-other, turn-room, turn-calm, turn-fixed, turn-undone, turn_more}
use Rattle.tell.proofs.pr.turn_traced.Reads as reads
use Rattle.tell.proofs.pr.turn_traced.Lts as lts
use Rattle.tell.proofs.pr.turn_traced.Tie as tie
use Rattle.tell.proofs.pr.turn_traced.Goals as goal

module _ (s : lts.Start tie.the-claims reads.Pre reads.Post tie.handed_clauses) where
  abbrev before : Table
  before = table_of s.args.vars.now s.args.lows.now s.args.highs.now s.args.heads.now s.args.links.now
      s.args.count

module _ (a : lts.After-apply tie.the-claims reads.Pre reads.Post tie.handed_clauses) where
  abbrev made : Outcome
  made = outcome_of a.apply-h.new.vars a.apply-h.new.lows a.apply-h.new.highs a.apply-h.new.heads a.apply-h.new.links
      a.apply-h.result

  made-is :
      let a12 = a.before.before.before.before.before.before.before.before.before.before.before.before in
      made ≡ applied (before
      a12.before.before.before.before.before.before.before.before.before.before) (Literals a.args.witness.positive a.args.witness.negative)
      a.args.f.0 1
  made-is = a.apply-h.ensures.result_after

  memo-length : length a.apply-h.new.memo ≡ length a.args.memo.now
  memo-length = a.apply-h.auto.memo ∙ a.clear_memo.auto.memo

module _ (b : lts.After-trace_by tie.the-claims reads.Pre reads.Post tie.handed_clauses) where
  abbrev table₁ : Table
  table₁ = table_of b.trace_by-t.new.vars b.trace_by-t.new.lows b.trace_by-t.new.highs b.trace_by-t.new.heads b.trace_by-t.new.links
      b.trace_by-t.result.count

pub clear_memo-requires : goal.clear_memo-requires
clear_memo-requires c =
    omega (arith, c.requires.fact.0.room)

pub apply-h-requires : goal.apply-h-requires
apply-h-requires c =
    let c12 = c.before.before.before.before.before.before.before.before.before.before.before.before in
    literals-ready (before c12.before.before.before.before.before.before.before.before.before.before) c.args.first.now c.args.memo.now
    c.requires.fact.0 c.args.f.0 c.args.witness.positive
    c.args.witness.negative c.requires.fact.3 c.clear_memo.new.memo
    (empty_right c.clear_memo.ensures (Literals c.args.witness.positive c.args.witness.negative)
    (before c12.before.before.before.before.before.before.before.before.before.before))

pub trace_by-t-requires : goal.trace_by-t-requires
trace_by-t-requires c =
    let c12 = c.before.before.before.before.before.before.before.before.before.before.before.before in
    let c24 = c12.before.before.before.before.before.before.before.before.before.before.before.before in
    let c36 = c24.before.before.before.before.before.before.before.before.before.before.before.before in
    let other = turn-other (before
    c36.before.before.before.before.before.before.before.before.before) c.args.first.now c.args.memo.now c.requires.fact.0 c.args.f.0
    c.args.witness.positive
    c.args.witness.negative c.requires.fact.3 c.requires.fact.7 in
    let room = turn-room (before
    c36.before.before.before.before.before.before.before.before.before) c.args.first.now c.args.memo.now c.requires.fact.0 c.args.f.0
    c.args.witness.positive
    c.args.witness.negative c.requires.fact.3 c.requires.fact.7
    (made c12.before.before.before.before.before.before.before.before.before.before.before)
    (made-is c12.before.before.before.before.before.before.before.before.before.before.before) in record {
      fact = (
        turn-ready (before c36.before.before.before.before.before.before.before.before.before) c.args.first.now c.args.memo.now
            c.requires.fact.0 c.args.f.0 c.args.witness.positive
            c.args.witness.negative c.requires.fact.3 other
            (made c12.before.before.before.before.before.before.before.before.before.before.before)
            (made-is c12.before.before.before.before.before.before.before.before.before.before.before) room c.apply-h.new.memo
            (memo-length c12.before.before.before.before.before.before.before.before.before.before.before),
        c.requires.fact.1,
        c.requires.fact.2,
        turn-calm (before c36.before.before.before.before.before.before.before.before.before) c.args.first.now c.args.memo.now
            c.requires.fact.0 c.args.f.0 c.args.witness.positive
            c.args.witness.negative c.requires.fact.3 c.requires.fact.7
            (made c12.before.before.before.before.before.before.before.before.before.before.before)
            (made-is c12.before.before.before.before.before.before.before.before.before.before.before),
      );
      fact_2 = (
        turn-worded (before c36.before.before.before.before.before.before.before.before.before) c.args.first.now c.args.memo.now
            c.requires.fact.0 c.args.f.0 c.args.witness.positive
            c.args.witness.negative c.requires.fact.3 other
            (made c12.before.before.before.before.before.before.before.before.before.before.before)
            (made-is c12.before.before.before.before.before.before.before.before.before.before.before) room c.args.firstwords.now
            18446744073709551615
            (record {
              lengths = c.requires.fact.4;
              have = c.requires.fact.5;
              has =
                  every-support (before c36.before.before.before.before.before.before.before.before.before) c.requires.fact.0.good
                  c.args.f.0 c.requires.fact.3;
            }),
        c.requires.fact.6,
      );
      in_bounds = c.requires.in_bounds;
    }

pub drop_to-requires : goal.drop_to-requires
drop_to-requires c =
    let c12 = c.before.before.before.before.before.before.before.before.before.before.before.before in
    let c24 = c12.before.before.before.before.before.before.before.before.before.before.before.before in
    let c36 = c24.before.before.before.before.before.before.before.before.before.before.before.before in
    let c48 = c36.before.before.before.before.before.before.before.before.before.before.before.before in
    let c60 = c48.before.before.before.before.before.before.before.before.before.before.before.before in
    let E = turn_more (before
    c60.before.before.before.before.before.before.before.before.before) c.args.first.now c.args.memo.now c.requires.fact.0 c.args.f.0
    c.args.witness.positive
    c.args.witness.negative c.requires.fact.3 c.requires.fact.7
    (made c36.before.before.before.before.before.before.before.before.before.before.before)
    (made-is c36.before.before.before.before.before.before.before.before.before.before.before) c.trace_by-t.result (table₁ c24)
    c.trace_by-t.new.fixed c.trace_by-t.ensures in
    (E.good, c.requires.fact.0.good.least, E.more)

pub shape_of-vars : goal.shape_of-vars
shape_of-vars c =
    c.drop_to.auto.vars
    ∙ c.trace_by-t.auto.vars ∙ c.apply-h.auto.vars

pub shape_of-lows : goal.shape_of-lows
shape_of-lows c =
    c.drop_to.auto.lows
    ∙ c.trace_by-t.auto.lows ∙ c.apply-h.auto.lows

pub shape_of-highs : goal.shape_of-highs
shape_of-highs c =
    c.drop_to.auto.highs
    ∙ c.trace_by-t.auto.highs
    ∙ c.apply-h.auto.highs

pub shape_of-heads : goal.shape_of-heads
shape_of-heads c =
    c.drop_to.auto.heads
    ∙ c.trace_by-t.auto.heads
    ∙ c.apply-h.auto.heads

pub shape_of-links : goal.shape_of-links
shape_of-links c =
    c.drop_to.auto.links
    ∙ c.trace_by-t.auto.links
    ∙ c.apply-h.auto.links

pub shape_of-memo : goal.shape_of-memo
shape_of-memo c =
    let c12 = c.before.before.before.before.before.before.before.before.before.before.before.before in
    let c24 = c12.before.before.before.before.before.before.before.before.before.before.before.before in
    let c36 = c24.before.before.before.before.before.before.before.before.before.before.before.before in
    let c48 = c36.before.before.before.before.before.before.before.before.before.before.before.before in
    c.trace_by-t.auto.memo ∙ memo-length
    c48.before.before.before.before.before.before.before.before.before.before

pub shape_of-second : goal.shape_of-second
shape_of-second c =
    c.trace_by-t.auto.list

pub shape_of-secondwords : goal.shape_of-secondwords
shape_of-secondwords c =
    c.trace_by-t.auto.words

pub shape_of-fixed : goal.shape_of-fixed
shape_of-fixed c =
    c.trace_by-t.auto.fixed

pub returns : goal.returns
returns c =
    let c12 = c.before.before.before.before.before.before.before.before.before.before.before.before in
    let c24 = c12.before.before.before.before.before.before.before.before.before.before.before.before in
    let c36 = c24.before.before.before.before.before.before.before.before.before.before.before.before in
    let c48 = c36.before.before.before.before.before.before.before.before.before.before.before.before in
    let c60 = c48.before.before.before.before.before.before.before.before.before.before.before.before in
    let c72 = c60.before.before.before.before.before.before.before.before.before.before.before.before in (
      turn-undone (before c72.before.before.before.before.before.before.before.before) c.args.first.now c.args.memo.now c.requires.fact.0
          c.args.f.0 c.args.witness.positive
          c.args.witness.negative c.requires.fact.3 c.requires.fact.7
          (made c48.before.before.before.before.before.before.before.before.before.before)
          (made-is c48.before.before.before.before.before.before.before.before.before.before) c.trace_by-t.result
          (table₁ c24.before.before.before.before.before.before.before.before.before.before.before)
          c.trace_by-t.new.fixed c.trace_by-t.ensures _
          c.drop_to.ensures,
      turn-fixed (before c72.before.before.before.before.before.before.before.before) c.args.first.now c.args.memo.now c.requires.fact.0
          c.args.f.0 c.args.witness.positive
          c.args.witness.negative c.requires.fact.3 c.requires.fact.7
          (made c48.before.before.before.before.before.before.before.before.before.before)
          (made-is c48.before.before.before.before.before.before.before.before.before.before) c.trace_by-t.result
          (table₁ c24.before.before.before.before.before.before.before.before.before.before.before)
          c.trace_by-t.new.fixed c.trace_by-t.ensures,
    )
