-- `path_turn` judges one path. Each place of the code is one law of Turning. Assumes nothing.
use mathlib.Core.Path.{◌≡◌, refl, sym, ap, ◌∙◌, subst}
use mathlib.Core.Bool.{Bool, true, false}
use mathlib.Core.List.{List}
use Prim.Native.Nat.{ℕ}
use native.Mathlib.Omega.{arith}
use lib.ListN.{length}
use Rattle.table.specs.Indexed.{Table, table_of}
use Rattle.conflict.specs.Marks.{unmarked}
use Rattle.members.specs.Made.{AllMade}
use Rattle.propagate.specs.Rounds.{unit_results}
use Rattle.path_lines.proofs.Turning.{turn-full, turn-judged}
use Rattle.path_lines.proofs.path_turn.Goals as goal

pub by_literals-made-requires : goal.by_literals-made-requires
by_literals-made-requires c =
    record { fact = (c.requires.fact.0, c.requires.fact.2, c.requires.fact.3); fact_2 = c.requires.fact_2 }

pub shape_of-vars-then-made : goal.shape_of-vars-then-made
shape_of-vars-then-made c =
    c.by_literals-made.auto.vars

pub shape_of-lows-then-made : goal.shape_of-lows-then-made
shape_of-lows-then-made c =
    c.by_literals-made.auto.lows

pub shape_of-highs-then-made : goal.shape_of-highs-then-made
shape_of-highs-then-made c =
    c.by_literals-made.auto.highs

pub shape_of-heads-then-made : goal.shape_of-heads-then-made
shape_of-heads-then-made c =
    c.by_literals-made.auto.heads

pub shape_of-links-then-made : goal.shape_of-links-then-made
shape_of-links-then-made c =
    c.by_literals-made.auto.links

pub shape_of-memo-then-made : goal.shape_of-memo-then-made
shape_of-memo-then-made c =
    c.by_literals-made.auto.memo

pub shape_of-list-then-made : goal.shape_of-list-then-made
shape_of-list-then-made c =
    c.by_literals-made.auto.list

pub shape_of-words-then-made : goal.shape_of-words-then-made
shape_of-words-then-made c =
    c.by_literals-made.auto.words

pub returns-then-made : goal.returns-then-made
returns-then-made c =
    let before : Table =
    table_of c.args.vars.now c.args.lows.now c.args.highs.now c.args.heads.now c.args.links.now
    c.args.count in
    let table₁ : Table =
    table_of c.by_literals-made.new.vars c.by_literals-made.new.lows c.by_literals-made.new.highs c.by_literals-made.new.heads
    c.by_literals-made.new.links c.by_literals-made.result.count in
    let list₁ : List ℕ =
    c.by_literals-made.new.list in
    let made : (b : Bool) → c.by_literals-made.result.full ≡ b → AllMade before (unit_results c.args.literals before c.args.members.now) b
    table₁ list₁ =
    λ b e. subst (λ full. AllMade before (unit_results c.args.literals before c.args.members.now) full table₁
    list₁) e c.by_literals-made.ensures.fact_3 in
    record {
      fact_3 = turn-full before c.requires.fact.0.good c.args.members.now c.args.literals table₁ list₁
          (made true c.if-made.true);
      marks_after = c.requires.fact.1;
    }

pub unit_prop-p-requires : goal.unit_prop-p-requires
unit_prop-p-requires c =
    let before : Table =
    table_of c.args.vars.now c.args.lows.now c.args.highs.now c.args.heads.now c.args.links.now
    c.args.count in
    let table₁ : Table =
    table_of c.by_literals-made.new.vars c.by_literals-made.new.lows c.by_literals-made.new.highs c.by_literals-made.new.heads
    c.by_literals-made.new.links c.by_literals-made.result.count in
    let list₁ : List ℕ =
    c.by_literals-made.new.list in
    let made : (b : Bool) → c.by_literals-made.result.full ≡ b → AllMade before (unit_results c.args.literals before c.args.members.now) b
    table₁ list₁ =
    λ b e. subst (λ full. AllMade before (unit_results c.args.literals before c.args.members.now) full table₁
    list₁) e c.by_literals-made.ensures.fact_3 in
    let memo-length : length c.by_literals-made.new.memo ≡ length c.args.memo.now =
    c.by_literals-made.auto.memo in
    let M = made false c.if-made.false in record {
      fact = (
        record {
          good = M.extended.good;
          inside = M.inside refl;
          room =
              omega (arith, M.extended.same_size, c.requires.fact.0.room, memo-length);
        },
        c.requires.fact.1 ∙ ap unmarked (sym c.by_literals-made.auto.vars),
        omega (arith, c.by_literals-made.auto.list, c.requires.fact.2, c.requires.fact.3),
      );
      fact_2 = (
        c.by_literals-made.auto.words ∙ c.requires.fact_2.2
            ∙ sym (c.by_literals-made.auto.list ∙ c.requires.fact.2),
        c.by_literals-made.ensures.supports c.if-made.false,
      );
    }

pub shape_of-vars : goal.shape_of-vars
shape_of-vars c =
    c.unit_prop-p.auto.vars ∙ c.by_literals-made.auto.vars

pub shape_of-lows : goal.shape_of-lows
shape_of-lows c =
    c.unit_prop-p.auto.lows ∙ c.by_literals-made.auto.lows

pub shape_of-highs : goal.shape_of-highs
shape_of-highs c =
    c.unit_prop-p.auto.highs ∙ c.by_literals-made.auto.highs

pub shape_of-heads : goal.shape_of-heads
shape_of-heads c =
    c.unit_prop-p.auto.heads ∙ c.by_literals-made.auto.heads

pub shape_of-links : goal.shape_of-links
shape_of-links c =
    c.unit_prop-p.auto.links ∙ c.by_literals-made.auto.links

pub shape_of-memo : goal.shape_of-memo
shape_of-memo c =
    c.unit_prop-p.auto.memo ∙ c.by_literals-made.auto.memo

pub shape_of-marks : goal.shape_of-marks
shape_of-marks c =
    c.unit_prop-p.auto.marks

pub shape_of-list : goal.shape_of-list
shape_of-list c =
    c.unit_prop-p.auto.list ∙ c.by_literals-made.auto.list

pub shape_of-words : goal.shape_of-words
shape_of-words c =
    c.unit_prop-p.auto.words
    ∙ c.by_literals-made.auto.words

pub returns : goal.returns
returns c =
    let before : Table =
    table_of c.args.vars.now c.args.lows.now c.args.highs.now c.args.heads.now c.args.links.now
    c.args.count in
    let table₁ : Table =
    table_of c.by_literals-made.new.vars c.by_literals-made.new.lows c.by_literals-made.new.highs c.by_literals-made.new.heads
    c.by_literals-made.new.links c.by_literals-made.result.count in
    let list₁ : List ℕ =
    c.by_literals-made.new.list in
    let made : (b : Bool) → c.by_literals-made.result.full ≡ b → AllMade before (unit_results c.args.literals before c.args.members.now) b
    table₁ list₁ =
    λ b e. subst (λ full. AllMade before (unit_results c.args.literals before c.args.members.now) full table₁
    list₁) e c.by_literals-made.ensures.fact_3 in
    record {
      fact_3 = turn-judged before c.requires.fact.0.good c.args.members.now c.args.literals table₁ list₁
          (made false c.if-made.false) c.unit_prop-p.result
          (table_of c.unit_prop-p.new.vars c.unit_prop-p.new.lows c.unit_prop-p.new.highs c.unit_prop-p.new.heads c.unit_prop-p.new.links
          c.unit_prop-p.result.count)
          c.unit_prop-p.ensures.fact_3 refl;
      marks_after = c.unit_prop-p.ensures.marks_after ∙ ap unmarked c.by_literals-made.auto.vars;
    }
