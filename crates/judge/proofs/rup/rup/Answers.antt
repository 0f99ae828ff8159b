-- `rup` finds the members' and the root's variables, then judges the line. Assumes nothing.
use mathlib.Core.Path.{◌≡◌, ◌∙◌}
use mathlib.Core.List.{List}
use Prim.Native.Nat.{ℕ}
use native.Mathlib.Omega.{arith}
use lib.ListN.{length}
use Rattle.table.specs.Indexed.{Table, table_of, nodes_of}
use Rattle.walks.proofs.Here.{good-readable}
use Rattle.quiet.proofs.Known.{nothing_known}
use Rattle.judge.specs.Lines.{Negatable, Worded}
use Rattle.judge.proofs.Ready.{memo-again}
use Rattle.judge.proofs.rup.rup.Goals as goal

pub supports_of-requires : goal.supports_of-requires
supports_of-requires c =
    let before : Table =
    table_of c.args.vars.now c.args.lows.now c.args.highs.now c.args.heads.now c.args.links.now
    c.args.count in
    let R = c.requires.fact.0.ready in
    (good-readable before R.good, R.inside, R.room, c.requires.memberwords_len.0)

pub support_from-word-requires : goal.support_from-word-requires
support_from-word-requires c =
    let before : Table =
    table_of c.args.vars.now c.args.lows.now c.args.highs.now c.args.heads.now c.args.links.now
    c.args.count in
    record {
      readable = (
        good-readable before c.requires.fact.0.ready.good,
        c.requires.fact.0.inside,
        omega (arith, c.requires.fact.0.ready.room, c.supports_of.auto.memo),
      );
      support_memo = c.supports_of.ensures.support_memo;
    }

pub rup_with-requires : goal.rup_with-requires
unfolding nodes_of
rup_with-requires c =
    let before : Table =
    table_of c.args.vars.now c.args.lows.now c.args.highs.now c.args.heads.now c.args.links.now
    c.args.count in
    let memberwords₁ : List ℕ =
    c.supports_of.new.words in
    let memo₁ : List ℕ =
    c.support_from-word.new.memo in
    let worded : Worded before c.args.members.now memberwords₁ c.args.root.0 c.support_from-word.result =
    record {
      lengths = c.supports_of.auto.words ∙ c.requires.memberwords_len.0;
      have = c.supports_of.ensures.fact;
      has = c.support_from-word.ensures.support;
    } in
    let memo-kept : length memo₁ ≡ length c.args.memo.now =
    c.support_from-word.auto.memo ∙ c.supports_of.auto.memo in
    let negatable : Negatable before c.args.members.now memo₁ c.args.root.0 =
    memo-again before c.args.members.now c.args.memo.now memo₁ c.args.root.0 memo-kept
    c.requires.fact.0 in
    record {
      fact = (negatable, c.requires.fact.1, c.requires.fact.2, c.requires.fact.3);
      fact_2 =
          (worded, c.requires.memberwords_len.1, nothing_known _ _);
    }

pub shape_of-vars : goal.shape_of-vars
shape_of-vars c =
    c.rup_with.auto.vars

pub shape_of-lows : goal.shape_of-lows
shape_of-lows c =
    c.rup_with.auto.lows

pub shape_of-highs : goal.shape_of-highs
shape_of-highs c =
    c.rup_with.auto.highs

pub shape_of-heads : goal.shape_of-heads
shape_of-heads c =
    c.rup_with.auto.heads

pub shape_of-links : goal.shape_of-links
shape_of-links c =
    c.rup_with.auto.links

pub shape_of-memo : goal.shape_of-memo
shape_of-memo c =
    let memo₁ : List ℕ =
    c.support_from-word.new.memo in
    let memo-kept : length memo₁ ≡ length c.args.memo.now =
    c.support_from-word.auto.memo ∙ c.supports_of.auto.memo in
    c.rup_with.auto.memo ∙ memo-kept

pub shape_of-marks : goal.shape_of-marks
shape_of-marks c =
    c.rup_with.auto.marks

pub shape_of-memberwords : goal.shape_of-memberwords
shape_of-memberwords c =
    c.supports_of.auto.words

pub shape_of-list : goal.shape_of-list
shape_of-list c =
    c.rup_with.auto.list

pub shape_of-words : goal.shape_of-words
shape_of-words c =
    c.rup_with.auto.words

pub returns : goal.returns
returns c =
    let all = c.rup_with.ensures in record { fact_2 = all.fact_3; marks_after = all.marks_after }
