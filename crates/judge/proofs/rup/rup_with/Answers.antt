-- `rup_with` judges the RUP line. Each place of the code is one law of Judging. Assumes nothing.
use mathlib.Core.Path.{◌≡◌, refl, sym, ap, ◌∙◌, subst}
use mathlib.Core.Bool.{Bool, true, false}
use mathlib.Core.List.{List}
use Prim.Native.Nat.{ℕ}
use native.Mathlib.Omega.{arith}
use lib.ListN.{length}
use Rattle.meaning.specs.Diagram.{Diagram}
use Rattle.table.specs.Nodes.{diagram_at}
use Rattle.table.specs.Indexed.{Table, table_of, nodes_of}
use Rattle.table.specs.Lists.{diagrams_of}
use Rattle.conflict.specs.Marks.{unmarked}
use Rattle.quiet.proofs.Known.{looked-kept}
use Rattle.judge.specs.Lines.{ByNegation}
use Rattle.judge.proofs.Ready.{list-ready}
use Rattle.judge.proofs.Judging.{rup-full, rup-judged}
use Rattle.judge.proofs.rup.rup_with.Goals as goal

pub by_negation-made-requires : goal.by_negation-made-requires
by_negation-made-requires c = record {
  fact = (c.requires.fact.0, c.requires.fact.2, c.requires.fact.3);
  fact_2 =
      (c.requires.fact_2.0, c.requires.fact_2.1);
}

pub shape_of-vars-then-made : goal.shape_of-vars-then-made
shape_of-vars-then-made c =
    c.by_negation-made.auto.vars

pub shape_of-lows-then-made : goal.shape_of-lows-then-made
shape_of-lows-then-made c =
    c.by_negation-made.auto.lows

pub shape_of-highs-then-made : goal.shape_of-highs-then-made
shape_of-highs-then-made c =
    c.by_negation-made.auto.highs

pub shape_of-heads-then-made : goal.shape_of-heads-then-made
shape_of-heads-then-made c =
    c.by_negation-made.auto.heads

pub shape_of-links-then-made : goal.shape_of-links-then-made
shape_of-links-then-made c =
    c.by_negation-made.auto.links

pub shape_of-memo-then-made : goal.shape_of-memo-then-made
shape_of-memo-then-made c =
    c.by_negation-made.auto.memo

pub shape_of-list-then-made : goal.shape_of-list-then-made
shape_of-list-then-made c =
    c.by_negation-made.auto.list

pub shape_of-words-then-made : goal.shape_of-words-then-made
shape_of-words-then-made c =
    c.by_negation-made.auto.words

pub returns-then-made : goal.returns-then-made
returns-then-made c =
    let before : Table =
    table_of c.args.vars.now c.args.lows.now c.args.highs.now c.args.heads.now c.args.links.now
    c.args.count in
    let members : List Diagram =
    diagrams_of (nodes_of before) c.args.members.now in
    let root : Diagram =
    diagram_at (nodes_of before) c.args.root.0 in
    let table₁ : Table =
    table_of c.by_negation-made.new.vars c.by_negation-made.new.lows c.by_negation-made.new.highs c.by_negation-made.new.heads
    c.by_negation-made.new.links c.by_negation-made.result.count in
    let list₁ : List ℕ =
    c.by_negation-made.new.list in
    let by-negation : (b : Bool) → c.by_negation-made.result.full ≡ b → ByNegation before members root b table₁ list₁ =
    λ b e. subst (λ full. ByNegation before members root full table₁ list₁) e c.by_negation-made.ensures.fact_3 in
    record {
      fact_3 = rup-full before c.requires.fact.0.ready.good members root table₁ list₁ (by-negation true c.if-made.true) 64;
      marks_after = c.requires.fact.1;
    }

pub unit_prop_known-p-requires : goal.unit_prop_known-p-requires
unit_prop_known-p-requires c =
    let before : Table =
    table_of c.args.vars.now c.args.lows.now c.args.highs.now c.args.heads.now c.args.links.now
    c.args.count in
    let members : List Diagram =
    diagrams_of (nodes_of before) c.args.members.now in
    let root : Diagram =
    diagram_at (nodes_of before) c.args.root.0 in
    let table₁ : Table =
    table_of c.by_negation-made.new.vars c.by_negation-made.new.lows c.by_negation-made.new.highs c.by_negation-made.new.heads
    c.by_negation-made.new.links c.by_negation-made.result.count in
    let list₁ : List ℕ =
    c.by_negation-made.new.list in
    let by-negation : (b : Bool) → c.by_negation-made.result.full ≡ b → ByNegation before members root b table₁ list₁ =
    λ b e. subst (λ full. ByNegation before members root full table₁ list₁) e c.by_negation-made.ensures.fact_3 in
    let memo-length : length c.by_negation-made.new.memo ≡ length c.args.memo.now =
    c.by_negation-made.auto.memo in
    let B = by-negation false c.if-made.false in record {
      fact = (
        list-ready before members root table₁ list₁ c.args.memo.now c.by_negation-made.new.memo B
            c.requires.fact.0.ready.room memo-length,
        c.requires.fact.1 ∙ ap unmarked (sym c.by_negation-made.auto.vars),
        omega (arith, c.by_negation-made.auto.list, c.requires.fact.2, c.requires.fact.3),
      );
      fact_2 = (
        c.by_negation-made.auto.words ∙ c.requires.fact_2.1
            ∙ sym (c.by_negation-made.auto.list ∙ c.requires.fact.2),
        c.by_negation-made.ensures.supports c.if-made.false,
        c.by_negation-made.auto.list ∙ c.requires.fact.2,
        looked-kept before table₁ c.requires.fact.0.ready.good B.extended c.args.members.now c.requires.fact.0.ready.inside
            c.args.looked c.requires.fact_2.2,
      );
    }

pub shape_of-vars : goal.shape_of-vars
shape_of-vars c =
    c.unit_prop_known-p.auto.vars ∙ c.by_negation-made.auto.vars

pub shape_of-lows : goal.shape_of-lows
shape_of-lows c =
    c.unit_prop_known-p.auto.lows ∙ c.by_negation-made.auto.lows

pub shape_of-highs : goal.shape_of-highs
shape_of-highs c =
    c.unit_prop_known-p.auto.highs ∙ c.by_negation-made.auto.highs

pub shape_of-heads : goal.shape_of-heads
shape_of-heads c =
    c.unit_prop_known-p.auto.heads ∙ c.by_negation-made.auto.heads

pub shape_of-links : goal.shape_of-links
shape_of-links c =
    c.unit_prop_known-p.auto.links ∙ c.by_negation-made.auto.links

pub shape_of-memo : goal.shape_of-memo
shape_of-memo c =
    c.unit_prop_known-p.auto.memo ∙ c.by_negation-made.auto.memo

pub shape_of-marks : goal.shape_of-marks
shape_of-marks c =
    c.unit_prop_known-p.auto.marks

pub shape_of-list : goal.shape_of-list
shape_of-list c =
    c.unit_prop_known-p.auto.list ∙ c.by_negation-made.auto.list

pub shape_of-words : goal.shape_of-words
shape_of-words c =
    c.unit_prop_known-p.auto.words
    ∙ c.by_negation-made.auto.words

pub returns : goal.returns
returns c =
    let before : Table =
    table_of c.args.vars.now c.args.lows.now c.args.highs.now c.args.heads.now c.args.links.now
    c.args.count in
    let members : List Diagram =
    diagrams_of (nodes_of before) c.args.members.now in
    let root : Diagram =
    diagram_at (nodes_of before) c.args.root.0 in
    let table₁ : Table =
    table_of c.by_negation-made.new.vars c.by_negation-made.new.lows c.by_negation-made.new.highs c.by_negation-made.new.heads
    c.by_negation-made.new.links c.by_negation-made.result.count in
    let list₁ : List ℕ =
    c.by_negation-made.new.list in
    let by-negation : (b : Bool) → c.by_negation-made.result.full ≡ b → ByNegation before members root b table₁ list₁ =
    λ b e. subst (λ full. ByNegation before members root full table₁ list₁) e c.by_negation-made.ensures.fact_3 in
    record {
      fact_3 = rup-judged before c.requires.fact.0.ready.good members root table₁ list₁
          (by-negation false c.if-made.false) c.unit_prop_known-p.result
          (table_of c.unit_prop_known-p.new.vars c.unit_prop_known-p.new.lows c.unit_prop_known-p.new.highs c.unit_prop_known-p.new.heads
          c.unit_prop_known-p.new.links c.unit_prop_known-p.result.count)
          c.unit_prop_known-p.ensures.fact_3 refl;
      marks_after = c.unit_prop_known-p.ensures.marks_after ∙ ap unmarked c.by_negation-made.auto.vars;
    }
