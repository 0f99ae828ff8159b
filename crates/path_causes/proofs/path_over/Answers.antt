-- `path_over` finds the members' variables and the failing path, traces that path and drops its nodes. Assumes nothing.
use mathlib.Core.Path.{◌≡◌, sym, ◌∙◌, subst}
use mathlib.Core.List.{List}
use lib.ListN.{length}
use Rattle.meaning.specs.Diagram.{Diagram}
use Rattle.table.specs.Nodes.{diagram_at}
use Rattle.table.specs.Indexed.{Table, table_of, nodes_of, Good}
use Rattle.table.specs.Lists.{diagrams_of, Extended}
use Rattle.walks.proofs.Here.{good-readable}
use Rattle.supports.specs.Supports.{Supports}
use Rattle.judge.proofs.Ready.{again-ready, memo-again}
use Rattle.path_lines.specs.Turns.{by_words, turn_by}
use Rattle.tell.specs.Failed.{Unshown, Fixed}
use Rattle.path_causes.specs.Failing.{FirstFailing}
use Rattle.path_causes.proofs.Tracing.{trace-undone, told_of}
use Rattle.path_causes.proofs.path_over.Reads as reads
use Rattle.path_causes.proofs.path_over.Lts as lts
use Rattle.path_causes.proofs.path_over.Tie as tie
use Rattle.path_causes.proofs.path_over.Goals as goal

module _ (s : lts.Start tie.the-claims reads.Pre reads.Post tie.handed_clauses) where
  abbrev before : Table
  before = table_of s.args.vars.now s.args.lows.now s.args.highs.now s.args.heads.now s.args.links.now
      s.args.count

  abbrev good : Good before
  good = s.requires.fact.0.ready.good

  abbrev ms : List Diagram
  ms = diagrams_of (nodes_of before) s.args.live.now

  abbrev root : Diagram
  root = diagram_at (nodes_of before) s.args.g.0

module _ (a : lts.After-failing_path tie.the-claims reads.Pre reads.Post tie.handed_clauses) where
  abbrev table₁ : Table
  table₁ = table_of a.failing_path-literals.new.vars a.failing_path-literals.new.lows a.failing_path-literals.new.highs
      a.failing_path-literals.new.heads a.failing_path-literals.new.links
      a.args.count

  as_before :
      let a12 = a.before.before.before.before.before.before.before.before.before.before.before.before in
      let a24 = a12.before.before.before.before.before.before.before.before.before.before.before.before in
      table₁ ≡ before
      a24.before.before.before.before.before
  as_before = a.failing_path-literals.ensures.fact_3.0

  failing :
      let a12 = a.before.before.before.before.before.before.before.before.before.before.before.before in
      let a24 = a12.before.before.before.before.before.before.before.before.before.before.before.before in
      FirstFailing (before
      a24.before.before.before.before.before) (ms a24.before.before.before.before.before) (root a24.before.before.before.before.before)
      a.failing_path-literals.result
  failing = a.failing_path-literals.ensures.fact_3.1

  memo-length : length a.failing_path-literals.new.memo ≡ length a.args.memo.now
  memo-length = a.failing_path-literals.auto.memo ∙ a.supports_of.auto.memo

module _ (a : lts.After-path_traced tie.the-claims reads.Pre reads.Post tie.handed_clauses) where
  abbrev table₂ : Table
  table₂ = table_of a.path_traced-t.new.vars a.path_traced-t.new.lows a.path_traced-t.new.highs a.path_traced-t.new.heads
      a.path_traced-t.new.links
      a.path_traced-t.result.count

  more :
      let a12 = a.before.before.before.before.before.before.before.before.before.before.before.before in
      let a24 = a12.before.before.before.before.before.before.before.before.before.before.before.before in
      let a36 = a24.before.before.before.before.before.before.before.before.before.before.before.before in
      let a48 = a36.before.before.before.before.before.before.before.before.before.before.before.before in
      Extended (before a48.before.before.before.before.before.before.before.before.before) table₂
  more =
      let a12 = a.before.before.before.before.before.before.before.before.before.before.before.before in
      let a24 = a12.before.before.before.before.before.before.before.before.before.before.before.before in
      subst (λ (t : Table). Extended t table₂)
      (as_before a24.before.before.before.before) a.path_traced-t.ensures.0

  told :
      let a12 = a.before.before.before.before.before.before.before.before.before.before.before.before in
      let a24 = a12.before.before.before.before.before.before.before.before.before.before.before.before in
      let a36 = a24.before.before.before.before.before.before.before.before.before.before.before.before in
      let a48 = a36.before.before.before.before.before.before.before.before.before.before.before.before in
      Fixed (by_words a.failing_path-literals.result
      (ms a48.before.before.before.before.before.before.before.before.before)) a.path_traced-t.result.rounds
      a.path_traced-t.new.fixed
  told =
      let a12 = a.before.before.before.before.before.before.before.before.before.before.before.before in
      let a24 = a12.before.before.before.before.before.before.before.before.before.before.before.before in
      subst (λ (t : Table). Fixed (by_words a.failing_path-literals.result (diagrams_of (nodes_of t) a.args.live.now))
      a.path_traced-t.result.rounds a.path_traced-t.new.fixed)
      (as_before a24.before.before.before.before) a.path_traced-t.ensures.1

pub supports_of-requires : goal.supports_of-requires
supports_of-requires c =
    let c12 = c.before.before.before.before.before.before.before.before.before.before.before.before in
    let R = c.requires.fact.0.ready in (
      good-readable (before c12.before.before.before)
          R.good,
      R.inside,
      R.room,
      c.requires.memberwords_len.0,
    )

pub failing_path-literals-requires : goal.failing_path-literals-requires
unfolding nodes_of
failing_path-literals-requires c =
    let c12 = c.before.before.before.before.before.before.before.before.before.before.before.before in
    let c24 = c12.before.before.before.before.before.before.before.before.before.before.before.before in
    record {
      fact = (
        memo-again (before c24.before.before.before.before.before) c.args.live.now c.args.memo.now c.supports_of.new.memo c.args.g.0
            c.supports_of.auto.memo
            c.requires.fact.0,
        c.requires.fact.1,
        c.requires.fact.2,
        c.requires.fact.3,
        c.requires.fact.4,
        c.requires.fact.5,
      );
      fact_2 = (c.supports_of.auto.words ∙ c.requires.memberwords_len.0, c.supports_of.ensures.fact, c.requires.memberwords_len.1);
    }

pub path_traced-t-requires : goal.path_traced-t-requires
unfolding nodes_of
path_traced-t-requires c =
    let c12 = c.before.before.before.before.before.before.before.before.before.before.before.before in
    let c24 = c12.before.before.before.before.before.before.before.before.before.before.before.before in
    let c36 = c24.before.before.before.before.before.before.before.before.before.before.before.before in
    let c48 = c36.before.before.before.before.before.before.before.before.before.before.before.before in
    record {
      fact = (
        again-ready (before c48.before.before.before.before.before.before.before.before.before) (table₁ c24.before.before.before.before)
            c.args.live.now c.args.memo.now c.failing_path-literals.new.memo (as_before c24.before.before.before.before)
            (memo-length c24.before.before.before.before) c.requires.fact.0.ready,
        c.failing_path-literals.auto.list ∙ c.requires.fact.2,
        c.requires.fact.3,
        subst (λ (t : Table). Unshown t (turn_by c.failing_path-literals.result (diagrams_of (nodes_of t) c.args.live.now)))
            (sym (as_before c24.before.before.before.before))
            (failing c24.before.before.before.before).fails,
      );
      fact_2 = (
        c.supports_of.auto.words ∙ c.requires.memberwords_len.0,
        subst (λ (t : Table). Supports (nodes_of t) c.args.live.now c.supports_of.new.words)
            (sym (as_before c24.before.before.before.before)) c.supports_of.ensures.fact,
        c.failing_path-literals.auto.words ∙ c.requires.memberwords_len.1,
      );
      in_bounds = c.requires.in_bounds;
    }

pub drop_to-requires : goal.drop_to-requires
drop_to-requires c =
    let c12 = c.before.before.before.before.before.before.before.before.before.before.before.before in
    let c24 = c12.before.before.before.before.before.before.before.before.before.before.before.before in
    let c36 = c24.before.before.before.before.before.before.before.before.before.before.before.before in
    let c48 = c36.before.before.before.before.before.before.before.before.before.before.before.before in
    let c60 = c48.before.before.before.before.before.before.before.before.before.before.before.before in
    let c72 = c60.before.before.before.before.before.before.before.before.before.before.before.before in
    let E = more c24 in
    (E.good, (good c72.before.before.before.before.before.before.before.before.before).least, E.more)

pub shape_of-vars : goal.shape_of-vars
shape_of-vars c =
    c.drop_to.auto.vars ∙ c.path_traced-t.auto.vars
    ∙ c.failing_path-literals.auto.vars

pub shape_of-lows : goal.shape_of-lows
shape_of-lows c =
    c.drop_to.auto.lows ∙ c.path_traced-t.auto.lows
    ∙ c.failing_path-literals.auto.lows

pub shape_of-highs : goal.shape_of-highs
shape_of-highs c =
    c.drop_to.auto.highs ∙ c.path_traced-t.auto.highs
    ∙ c.failing_path-literals.auto.highs

pub shape_of-heads : goal.shape_of-heads
shape_of-heads c =
    c.drop_to.auto.heads ∙ c.path_traced-t.auto.heads
    ∙ c.failing_path-literals.auto.heads

pub shape_of-links : goal.shape_of-links
shape_of-links c =
    c.drop_to.auto.links ∙ c.path_traced-t.auto.links
    ∙ c.failing_path-literals.auto.links

pub shape_of-memo : goal.shape_of-memo
shape_of-memo c =
    let c12 = c.before.before.before.before.before.before.before.before.before.before.before.before in
    let c24 = c12.before.before.before.before.before.before.before.before.before.before.before.before in
    let c36 = c24.before.before.before.before.before.before.before.before.before.before.before.before in
    let c48 = c36.before.before.before.before.before.before.before.before.before.before.before.before in
    let c60 = c48.before.before.before.before.before.before.before.before.before.before.before.before in
    c.path_traced-t.auto.memo ∙ memo-length
    c60.before.before.before

pub shape_of-marks : goal.shape_of-marks
shape_of-marks c =
    c.failing_path-literals.auto.marks

pub shape_of-memberwords : goal.shape_of-memberwords
shape_of-memberwords c =
    c.supports_of.auto.words

pub shape_of-list : goal.shape_of-list
shape_of-list c =
    c.path_traced-t.auto.list
    ∙ c.failing_path-literals.auto.list

pub shape_of-words : goal.shape_of-words
shape_of-words c =
    c.path_traced-t.auto.words
    ∙ c.failing_path-literals.auto.words

pub shape_of-fixed : goal.shape_of-fixed
shape_of-fixed c =
    c.path_traced-t.auto.fixed

pub returns : goal.returns
returns c =
    let c12 = c.before.before.before.before.before.before.before.before.before.before.before.before in
    let c24 = c12.before.before.before.before.before.before.before.before.before.before.before.before in
    let c36 = c24.before.before.before.before.before.before.before.before.before.before.before.before in
    let c48 = c36.before.before.before.before.before.before.before.before.before.before.before.before in
    let c60 = c48.before.before.before.before.before.before.before.before.before.before.before.before in
    let c72 = c60.before.before.before.before.before.before.before.before.before.before.before.before in
    let c84 = c72.before.before.before.before.before.before.before.before.before.before.before.before in
    record {
      fact_2 = (
        trace-undone (before c84.before.before.before.before.before.before.before.before)
            (table₂ c24.before.before.before.before.before.before.before.before.before.before.before) _
            (good c84.before.before.before.before.before.before.before.before)
            (more c24.before.before.before.before.before.before.before.before.before.before.before) c.drop_to.ensures,
        told_of (before c84.before.before.before.before.before.before.before.before)
            (ms c84.before.before.before.before.before.before.before.before)
            (root c84.before.before.before.before.before.before.before.before) c.failing_path-literals.result c.path_traced-t.result.rounds
            c.path_traced-t.new.fixed
            (failing c60.before.before.before) (told c24.before.before.before.before.before.before.before.before.before.before.before),
      );
      marks_after = c.failing_path-literals.ensures.marks_after;
    }
