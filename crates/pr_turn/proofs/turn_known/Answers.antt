-- `turn_known` judges one member's turn. Each place of the code is one law of Turning. Assumes nothing.
use mathlib.Core.Path.{◌≡◌, refl, sym, ap, ◌∙◌}
use native.Mathlib.Omega.{arith}
use lib.ListN.{length}
use mathlib.Core.Bool.{Bool, true, false}
use Rattle.table.specs.Indexed.{Table, table_of, nodes_of, Outcome, outcome_of}
use Rattle.walks.specs.Constant.{one_at}
use Rattle.walks.proofs.Here.{good-readable}
use Rattle.operate.specs.declared.Operation.TheVariants.{Literals}
use Rattle.operate.specs.Inner.{applied}
use Rattle.operate.proofs.RightMemo.{empty_right}
use Rattle.conflict.specs.Marks.{unmarked}
use Rattle.judge.proofs.Turning.{turn-constant, literals-ready, turn-full, turn-ready, turn-worded, turn-judged}
use Rattle.pr_turn.proofs.Looks.{turn-looked}
use Rattle.pr_turn.proofs.turn_known.Goals as goal

pub is_one-requires : goal.is_one-requires
is_one-requires c =
    let before : Table =
    table_of c.args.vars.now c.args.lows.now c.args.highs.now c.args.heads.now c.args.links.now
    c.args.count in
    (good-readable before c.requires.fact.0.good, c.requires.fact.3, c.requires.fact.0.room)

pub shape_of-vars-then-is_one : goal.shape_of-vars-then-is_one
shape_of-vars-then-is_one c =
    refl

pub shape_of-lows-then-is_one : goal.shape_of-lows-then-is_one
shape_of-lows-then-is_one c =
    refl

pub shape_of-highs-then-is_one : goal.shape_of-highs-then-is_one
shape_of-highs-then-is_one c =
    refl

pub shape_of-memo-then-is_one : goal.shape_of-memo-then-is_one
shape_of-memo-then-is_one c =
    c.is_one.auto.memo

pub returns-then-is_one : goal.returns-then-is_one
unfolding nodes_of
returns-then-is_one c =
    let before : Table =
    table_of c.args.vars.now c.args.lows.now c.args.highs.now c.args.heads.now c.args.links.now
    c.args.count in
    let told : (b : Bool) → c.is_one.result ≡ b → one_at (nodes_of before) c.args.witness.positive c.args.witness.negative c.args.f.0 ≡ b =
    λ b e. sym c.is_one.ensures ∙ e in
    record {
      fact_3 = turn-constant before c.args.first.now c.args.memo.now c.requires.fact.0 c.args.f.0 c.args.witness.positive
          c.args.witness.negative c.requires.fact.3 (told true c.if-is_one.true);
      marks_after = c.requires.fact.1;
    }

pub clear_memo-requires : goal.clear_memo-requires
clear_memo-requires c =
    omega (arith, c.requires.fact.0.room, c.is_one.auto.memo)

pub apply-h-requires : goal.apply-h-requires
apply-h-requires c =
    let before : Table =
    table_of c.args.vars.now c.args.lows.now c.args.highs.now c.args.heads.now c.args.links.now
    c.args.count in
    literals-ready before c.args.first.now c.args.memo.now c.requires.fact.0 c.args.f.0 c.args.witness.positive
    c.args.witness.negative c.requires.fact.3 c.clear_memo.new.memo
    (empty_right c.clear_memo.ensures (Literals c.args.witness.positive c.args.witness.negative) before)

pub shape_of-vars-then-h : goal.shape_of-vars-then-h
shape_of-vars-then-h c =
    c.apply-h.auto.vars

pub shape_of-lows-then-h : goal.shape_of-lows-then-h
shape_of-lows-then-h c =
    c.apply-h.auto.lows

pub shape_of-highs-then-h : goal.shape_of-highs-then-h
shape_of-highs-then-h c =
    c.apply-h.auto.highs

pub shape_of-heads-then-h : goal.shape_of-heads-then-h
shape_of-heads-then-h c =
    c.apply-h.auto.heads

pub shape_of-links-then-h : goal.shape_of-links-then-h
shape_of-links-then-h c =
    c.apply-h.auto.links

pub shape_of-memo-then-h : goal.shape_of-memo-then-h
shape_of-memo-then-h c =
    c.apply-h.auto.memo ∙ c.clear_memo.auto.memo
    ∙ c.is_one.auto.memo

pub returns-then-h : goal.returns-then-h
unfolding nodes_of
returns-then-h c =
    let before : Table =
    table_of c.args.vars.now c.args.lows.now c.args.highs.now c.args.heads.now c.args.links.now
    c.args.count in
    let told : (b : Bool) → c.is_one.result ≡ b → one_at (nodes_of before) c.args.witness.positive c.args.witness.negative c.args.f.0 ≡ b =
    λ b e. sym c.is_one.ensures ∙ e in
    let made : Outcome =
    outcome_of c.apply-h.new.vars c.apply-h.new.lows c.apply-h.new.highs c.apply-h.new.heads
    c.apply-h.new.links c.apply-h.result in
    let made-is : made ≡ applied before (Literals c.args.witness.positive c.args.witness.negative) c.args.f.0 1 =
    c.apply-h.ensures.result_after in
    record {
      fact_3 = turn-full before c.args.first.now c.args.memo.now c.requires.fact.0 c.args.f.0 c.args.witness.positive
          c.args.witness.negative c.requires.fact.3 (told false c.if-is_one.false) made made-is
          c.if-h.true;
      marks_after = c.requires.fact.1;
    }

pub rup_with-requires : goal.rup_with-requires
unfolding nodes_of
rup_with-requires c =
    let before : Table =
    table_of c.args.vars.now c.args.lows.now c.args.highs.now c.args.heads.now c.args.links.now
    c.args.count in
    let told : (b : Bool) → c.is_one.result ≡ b → one_at (nodes_of before) c.args.witness.positive c.args.witness.negative c.args.f.0 ≡ b =
    λ b e. sym c.is_one.ensures ∙ e in
    let made : Outcome =
    outcome_of c.apply-h.new.vars c.apply-h.new.lows c.apply-h.new.highs c.apply-h.new.heads
    c.apply-h.new.links c.apply-h.result in
    let made-is : made ≡ applied before (Literals c.args.witness.positive c.args.witness.negative) c.args.f.0 1 =
    c.apply-h.ensures.result_after in
    let memo-length : length c.apply-h.new.memo ≡ length c.args.memo.now =
    c.apply-h.auto.memo ∙ c.clear_memo.auto.memo
    ∙ c.is_one.auto.memo in
    record {
      fact = (
        turn-ready before c.args.first.now c.args.memo.now c.requires.fact.0 c.args.f.0 c.args.witness.positive
            c.args.witness.negative c.requires.fact.3 (told false c.if-is_one.false)
            made made-is c.if-h.false c.apply-h.new.memo memo-length,
        c.requires.fact.1 ∙ ap unmarked (sym c.apply-h.auto.vars),
        c.requires.fact.2,
        c.requires.fact.4,
      );
      fact_2 = (
        turn-worded before c.args.first.now c.args.memo.now c.requires.fact.0 c.args.f.0 c.args.witness.positive
            c.args.witness.negative c.requires.fact.3 (told false c.if-is_one.false)
            made made-is c.if-h.false c.args.firstwords.now c.args.word c.requires.fact_2.0,
        c.requires.fact_2.1,
        turn-looked before c.args.first.now c.args.memo.now c.requires.fact.0 c.args.f.0 c.args.witness.positive
            c.args.witness.negative made made-is c.args.looked c.requires.fact_2.2,
      );
    }

pub shape_of-vars : goal.shape_of-vars
shape_of-vars c =
    c.rup_with.auto.vars ∙ c.apply-h.auto.vars

pub shape_of-lows : goal.shape_of-lows
shape_of-lows c =
    c.rup_with.auto.lows ∙ c.apply-h.auto.lows

pub shape_of-highs : goal.shape_of-highs
shape_of-highs c =
    c.rup_with.auto.highs ∙ c.apply-h.auto.highs

pub shape_of-heads : goal.shape_of-heads
shape_of-heads c =
    c.rup_with.auto.heads ∙ c.apply-h.auto.heads

pub shape_of-links : goal.shape_of-links
shape_of-links c =
    c.rup_with.auto.links ∙ c.apply-h.auto.links

pub shape_of-memo : goal.shape_of-memo
shape_of-memo c =
    c.rup_with.auto.memo ∙ c.apply-h.auto.memo
    ∙ c.clear_memo.auto.memo ∙ c.is_one.auto.memo

pub shape_of-marks : goal.shape_of-marks
shape_of-marks c =
    c.rup_with.auto.marks

pub shape_of-second : goal.shape_of-second
shape_of-second c =
    c.rup_with.auto.list

pub shape_of-secondwords : goal.shape_of-secondwords
shape_of-secondwords c =
    c.rup_with.auto.words

pub returns : goal.returns
unfolding nodes_of
returns c =
    let before : Table =
    table_of c.args.vars.now c.args.lows.now c.args.highs.now c.args.heads.now c.args.links.now
    c.args.count in
    let told : (b : Bool) → c.is_one.result ≡ b → one_at (nodes_of before) c.args.witness.positive c.args.witness.negative c.args.f.0 ≡ b =
    λ b e. sym c.is_one.ensures ∙ e in
    let made : Outcome =
    outcome_of c.apply-h.new.vars c.apply-h.new.lows c.apply-h.new.highs c.apply-h.new.heads
    c.apply-h.new.links c.apply-h.result in
    let made-is : made ≡ applied before (Literals c.args.witness.positive c.args.witness.negative) c.args.f.0 1 =
    c.apply-h.ensures.result_after in
    record {
      fact_3 = turn-judged before c.args.first.now c.args.memo.now c.requires.fact.0 c.args.f.0 c.args.witness.positive
          c.args.witness.negative c.requires.fact.3 (told false c.if-is_one.false) made
          made-is c.if-h.false c.rup_with.result
          (table_of c.rup_with.new.vars c.rup_with.new.lows c.rup_with.new.highs c.rup_with.new.heads c.rup_with.new.links
          c.rup_with.result.count)
          c.rup_with.ensures.fact_3;
      marks_after = c.rup_with.ensures.marks_after ∙ ap unmarked c.apply-h.auto.vars;
    }
