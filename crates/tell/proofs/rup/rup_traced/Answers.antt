-- `rup_traced` finds the members' and the root's variables, then traces the line. Assumes nothing.
use mathlib.Core.Path.{◌≡◌, ◌∙◌}
use mathlib.Core.List.{List}
use Prim.Native.Nat.{ℕ}
use native.Mathlib.Omega.{arith}
use lib.ListN.{length}
use Rattle.table.specs.Indexed.{Table, table_of, nodes_of}
use Rattle.walks.proofs.Here.{good-readable}
use Rattle.judge.specs.Lines.{Negatable, Worded}
use Rattle.judge.proofs.Ready.{memo-again}
use Rattle.tell.proofs.rup.rup_traced.Reads as reads
use Rattle.tell.proofs.rup.rup_traced.Lts as lts
use Rattle.tell.proofs.rup.rup_traced.Tie as tie
use Rattle.tell.proofs.rup.rup_traced.Goals as goal

module _ (s : lts.Start tie.the-claims reads.Pre reads.Post tie.handed_clauses) where
  abbrev before : Table
  before = table_of s.args.vars.now s.args.lows.now s.args.highs.now s.args.heads.now s.args.links.now
      s.args.count

-- what the walks over the members and the root leave
module _ (a : lts.After-support_from tie.the-claims reads.Pre reads.Post tie.handed_clauses) where
  abbrev memo₁ : List ℕ
  memo₁ = a.support_from-word.new.memo

  worded :
      let a12 = a.before.before.before.before.before.before.before.before.before.before.before.before in
      Worded (before a12.before.before.before.before.before.before.before.before) a.args.live.now a.supports_of.new.words a.args.g.0
      a.support_from-word.result
  unfolding nodes_of
  worded = record {
    lengths = a.supports_of.auto.words ∙ a.requires.memberwords_len.0;
    have = a.supports_of.ensures.fact;
    has = a.support_from-word.ensures.support;
  }

  memo-kept : length memo₁ ≡ length a.args.memo.now
  memo-kept = a.support_from-word.auto.memo ∙ a.supports_of.auto.memo

  negatable :
      let a12 = a.before.before.before.before.before.before.before.before.before.before.before.before in
      Negatable (before
      a12.before.before.before.before.before.before.before.before) a.args.live.now memo₁ a.args.g.0
  negatable =
      let a12 = a.before.before.before.before.before.before.before.before.before.before.before.before in
      memo-again (before
      a12.before.before.before.before.before.before.before.before) a.args.live.now a.args.memo.now memo₁ a.args.g.0 memo-kept
      a.requires.fact.0

pub supports_of-requires : goal.supports_of-requires
supports_of-requires c =
    let c12 = c.before.before.before.before.before.before.before.before.before.before.before.before in
    let R = c.requires.fact.0.ready in (
      good-readable (before c12.before.before) R.good,
      R.inside,
      R.room,
      c.requires.memberwords_len.0,
    )

pub support_from-word-requires : goal.support_from-word-requires
support_from-word-requires c =
    let c12 = c.before.before.before.before.before.before.before.before.before.before.before.before in
    record {
      readable = (
        good-readable (before c12.before.before.before.before.before.before.before.before) c.requires.fact.0.ready.good,
        c.requires.fact.0.inside,
        omega (arith, c.requires.fact.0.ready.room, c.supports_of.auto.memo),
      );
      support_memo = c.supports_of.ensures.support_memo;
    }

pub trace_by-requires : goal.trace_by-requires
trace_by-requires c =
    record {
      fact = (
        negatable c.before.before.before.before.before.before.before.before.before.before.before.before,
        c.requires.fact.1,
        c.requires.fact.2,
        c.requires.fact.3,
      );
      fact_2 =
          (worded c.before.before.before.before.before.before.before.before.before.before.before.before, c.requires.memberwords_len.1);
      in_bounds = c.requires.in_bounds;
    }

pub shape_of-vars : goal.shape_of-vars
shape_of-vars c =
    c.trace_by.auto.vars

pub shape_of-lows : goal.shape_of-lows
shape_of-lows c =
    c.trace_by.auto.lows

pub shape_of-highs : goal.shape_of-highs
shape_of-highs c =
    c.trace_by.auto.highs

pub shape_of-heads : goal.shape_of-heads
shape_of-heads c =
    c.trace_by.auto.heads

pub shape_of-links : goal.shape_of-links
shape_of-links c =
    c.trace_by.auto.links

pub shape_of-memo : goal.shape_of-memo
shape_of-memo c =
    let c12 = c.before.before.before.before.before.before.before.before.before.before.before.before in
    let c24 = c12.before.before.before.before.before.before.before.before.before.before.before.before in
    c.trace_by.auto.memo ∙ memo-kept
    c24.before.before.before.before.before.before.before

pub shape_of-memberwords : goal.shape_of-memberwords
shape_of-memberwords c =
    c.supports_of.auto.words

pub shape_of-list : goal.shape_of-list
shape_of-list c =
    c.trace_by.auto.list

pub shape_of-words : goal.shape_of-words
shape_of-words c =
    c.trace_by.auto.words

pub shape_of-fixed : goal.shape_of-fixed
shape_of-fixed c =
    c.trace_by.auto.fixed

pub returns : goal.returns
returns c =
    c.trace_by.ensures
