-- A thin member is worked out without the memo, which is right still in the longer table; the others, whose table is left as it was, go to
-- `apply_sharing`. Assumes nothing.
use mathlib.Core.Path.{◌≡◌, sym, ap, ◌∙◌, subst}
use lib.Bits.{bit_and}
use borrow.Author.Tests.{not-true, not-false}
use Rattle.table.specs.Indexed.{Table, table_of, outcome_of}
use Rattle.operate.specs.Inner.{applied, Shared, Ready}
use Rattle.operate.proofs.Results.{applied-longer}
use Rattle.operate.proofs.RightMemo.{memo-kept, follows-right}
use Rattle.thin.specs.Thin.{Cut}
use Rattle.members.proofs.Touching.{touched-shared, touched-cut}
use Rattle.members.proofs.apply_touching.Goals as goal

pub apply_thin-tried-requires : goal.apply_thin-tried-requires
apply_thin-tried-requires c =
    let entry : Table =
    let a = c.args in table_of a.vars.now a.lows.now a.highs.now a.heads.now a.links.now a.count in
    let shares : let a = c.args in Shared a.op (bit_and a.word a.touching) entry a.f.0 a.g.0 =
    let a = c.args in
    let r = c.requires.fact.0.operands in
    touched-shared entry r.good a.f.0 a.g.0 r.f-inside r.g_inside a.word a.touching c.requires.fact.1 a.op
    c.requires.fact.2 in
    let cut : let a = c.args in Cut a.op (bit_and a.word a.touching) entry a.f.0 a.g.0 =
    let a = c.args in
    let r = c.requires.fact.0.operands in
    touched-cut entry r.good a.f.0 a.g.0 r.f-inside r.g_inside a.word a.touching c.requires.fact.1 a.op
    c.requires.fact.2 in
    let a = c.args in
    record { fact = (c.requires.fact.0.operands, shares, cut); xs_len = c.requires.xs_len }

pub returns-then-not-tried : goal.returns-then-not-tried
returns-then-not-tried c =
    let entry : Table =
    let a = c.args in table_of a.vars.now a.lows.now a.highs.now a.heads.now a.links.now a.count in
    let a = c.args in
    let r = c.requires.fact.0 in
    let o = outcome_of c.apply_thin-tried.new.vars c.apply_thin-tried.new.lows c.apply_thin-tried.new.highs c.apply_thin-tried.new.heads
    c.apply_thin-tried.new.links c.apply_thin-tried.result.placed in
    let e = c.apply_thin-tried.ensures.placed_after (not-true _ c.if-not-tried.true) in record {
      result_after = e;
      fact_2 = memo-kept a.op a.memo.now entry r.right o.table
          (applied-longer a.op entry a.f.0 a.g.0 r.operands o e);
    }

pub clear_forgetful-requires : goal.clear_forgetful-requires
clear_forgetful-requires c =
    c.requires.fact.0.right.shaped

pub apply_sharing-requires : goal.apply_sharing-requires
apply_sharing-requires c =
    let entry : Table =
    let a = c.args in table_of a.vars.now a.lows.now a.highs.now a.heads.now a.links.now a.count in
    let shares : let a = c.args in Shared a.op (bit_and a.word a.touching) entry a.f.0 a.g.0 =
    let a = c.args in
    let r = c.requires.fact.0.operands in
    touched-shared entry r.good a.f.0 a.g.0 r.f-inside r.g_inside a.word a.touching c.requires.fact.1 a.op
    c.requires.fact.2 in
    let left : table_of c.apply_thin-tried.new.vars c.apply_thin-tried.new.lows c.apply_thin-tried.new.highs c.apply_thin-tried.new.heads
    c.apply_thin-tried.new.links c.args.count ≡ entry =
    c.apply_thin-tried.ensures.count_after (not-false _ c.if-not-tried.false) in
    let a = c.args in
    let r = c.requires.fact.0 in
    subst (λ (t : Table). Ready a.op c.clear_forgetful.new.memo t a.f.0 a.g.0
    × Shared a.op (bit_and a.word a.touching) t a.f.0 a.g.0) (sym left) (
      record {
        operands = r.operands;
        right = follows-right _ _ _ r.right _ c.clear_forgetful.ensures;
      },
      shares,
    )

pub shape_of-vars : goal.shape_of-vars
shape_of-vars c = c.apply_sharing.auto.vars ∙ c.apply_thin-tried.auto.vars

pub shape_of-lows : goal.shape_of-lows
shape_of-lows c = c.apply_sharing.auto.lows ∙ c.apply_thin-tried.auto.lows

pub shape_of-highs : goal.shape_of-highs
shape_of-highs c = c.apply_sharing.auto.highs ∙ c.apply_thin-tried.auto.highs

pub shape_of-heads : goal.shape_of-heads
shape_of-heads c = c.apply_sharing.auto.heads ∙ c.apply_thin-tried.auto.heads

pub shape_of-links : goal.shape_of-links
shape_of-links c = c.apply_sharing.auto.links
    ∙ c.apply_thin-tried.auto.links

pub returns : goal.returns
returns c =
    let entry : Table =
    let a = c.args in table_of a.vars.now a.lows.now a.highs.now a.heads.now a.links.now a.count in
    let left : table_of c.apply_thin-tried.new.vars c.apply_thin-tried.new.lows c.apply_thin-tried.new.highs c.apply_thin-tried.new.heads
    c.apply_thin-tried.new.links c.args.count ≡ entry =
    c.apply_thin-tried.ensures.count_after (not-false _ c.if-not-tried.false) in
    let a = c.args in
    let e = left in
    record {
      result_after = c.apply_sharing.ensures.result_after ∙ ap (λ (t : Table). applied t a.op a.f.0 a.g.0) e;
      fact_2 =
          c.apply_sharing.ensures.fact;
    }
