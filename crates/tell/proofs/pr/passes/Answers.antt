-- `passes`: a member that is struck, or its turn, whose nodes are dropped. Assumes nothing.
use mathlib.Core.Path.{refl, sym, ap, ◌∙◌}
use mathlib.Core.Bool.{Bool, not, ◌||◌}
use lib.ListN.{get_or}
use borrow.Author.Tests.{eq-eqb, ne_eqb}
use Rattle.meaning.specs.Rules.{Line}
use Rattle.table.specs.Nodes.{diagram_at}
use Rattle.table.specs.Indexed.{Table, table_of, nodes_of}
use Rattle.table.specs.Lists.{diagrams_of}
use Rattle.table.proofs.Outcomes.{undone}
use Rattle.table.proofs.Extended.{extended-longer}
use Rattle.judge.specs.Lines.{LineSays}
use Rattle.tell.specs.Failed.{turn_line}
use Rattle.tell.proofs.Turns.{every-support, says-fits}
use Rattle.tell.proofs.pr.passes.Reads as reads
use Rattle.tell.proofs.pr.passes.Lts as lts
use Rattle.tell.proofs.pr.passes.Tie as tie
use Rattle.tell.proofs.pr.passes.Goals as goal

module _ (s : lts.Start tie.the-claims reads.Pre reads.Post tie.handed_clauses) where
  abbrev before : Table
  before = table_of s.args.vars.now s.args.lows.now s.args.highs.now s.args.heads.now s.args.links.now
      s.args.count

  abbrev one : Line
  one = turn_line s.args.witness.positive s.args.witness.negative (diagrams_of (nodes_of before) s.args.first.now)
      (diagram_at (nodes_of before) (get_or s.args.members.now s.args.i 0))

module _ (a : lts.After-turn tie.the-claims reads.Pre reads.Post tie.handed_clauses) where
  abbrev table₁ : Table
  table₁ = table_of a.turn-t.new.vars a.turn-t.new.lows a.turn-t.new.highs a.turn-t.new.heads a.turn-t.new.links
      a.turn-t.result.count

  said :
      let a12 = a.before.before.before.before.before.before.before.before.before.before.before.before in
      let a24 = a12.before.before.before.before.before.before.before.before.before.before.before.before in
      LineSays (before a24.before.before) (one a24.before.before) 64 a.turn-t.result table₁
  said = a.turn-t.ensures.fact_3

pub returns-then-struck-i-ne0 : goal.returns-then-struck-i-ne0
returns-then-struck-i-ne0 c =
    let c12 = c.before.before.before.before.before.before.before.before.before.before.before.before in
    record {
      fact_3 = (
        refl,
        sym (ap (λ (b : Bool). not b
            || (one c12.before.before.before.before).shown)
            (ne_eqb _ _ c.if-struck-i-ne0.true)),
      );
      marks_after = c.requires.fact.1;
    }

pub turn-t-requires : goal.turn-t-requires
turn-t-requires c =
    let c12 = c.before.before.before.before.before.before.before.before.before.before.before.before in
    let c24 = c12.before.before.before.before.before.before.before.before.before.before.before.before in
    record {
      fact = (c.requires.fact.0, c.requires.fact.1, c.requires.fact.2, c.requires.fact.6, c.requires.fact.3);
      fact_2 = (
        record {
          lengths = c.requires.fact_2.0;
          have = c.requires.fact_2.1;
          has = every-support (before
              c24.before.before) c.requires.fact.0.good
              (get_or c.args.members.now c.args.i 0) c.requires.fact.6;
        },
        c.requires.fact_2.2,
      );
    }

pub drop_to-requires : goal.drop_to-requires
drop_to-requires c =
    let c12 = c.before.before.before.before.before.before.before.before.before.before.before.before in
    let c24 = c12.before.before.before.before.before.before.before.before.before.before.before.before in
    let a = c24 in
    let E = (said c24).extended in
    (E.good, a.requires.fact.0.good.least, E.more)

pub shape_of-vars : goal.shape_of-vars
shape_of-vars c =
    c.drop_to.auto.vars
    ∙ c.turn-t.auto.vars

pub shape_of-lows : goal.shape_of-lows
shape_of-lows c =
    c.drop_to.auto.lows
    ∙ c.turn-t.auto.lows

pub shape_of-highs : goal.shape_of-highs
shape_of-highs c =
    c.drop_to.auto.highs
    ∙ c.turn-t.auto.highs

pub shape_of-heads : goal.shape_of-heads
shape_of-heads c =
    c.drop_to.auto.heads
    ∙ c.turn-t.auto.heads

pub shape_of-links : goal.shape_of-links
shape_of-links c =
    c.drop_to.auto.links
    ∙ c.turn-t.auto.links

pub shape_of-memo : goal.shape_of-memo
shape_of-memo c =
    c.turn-t.auto.memo

pub shape_of-marks : goal.shape_of-marks
shape_of-marks c =
    c.turn-t.auto.marks

pub shape_of-second : goal.shape_of-second
shape_of-second c =
    c.turn-t.auto.second

pub shape_of-secondwords : goal.shape_of-secondwords
shape_of-secondwords c =
    c.turn-t.auto.secondwords

pub returns : goal.returns
returns c =
    let c12 = c.before.before.before.before.before.before.before.before.before.before.before.before in
    let c24 = c12.before.before.before.before.before.before.before.before.before.before.before.before in
    let c36 = c24.before.before.before.before.before.before.before.before.before.before.before.before in
    let c48 = c36.before.before.before.before.before.before.before.before.before.before.before.before in
    let c60 = c48.before.before.before.before.before.before.before.before.before.before.before.before in
    let live = eq-eqb _ _ c.if-struck-i-ne0.false in record {
      fact_3 = (
        c.drop_to.ensures
            ∙ undone (before c60.before) c.requires.fact.0.good
            (table₁ c24.before.before.before.before.before.before.before.before.before.before.before)
            (extended-longer (before c60.before) (table₁ c24.before.before.before.before.before.before.before.before.before.before.before)
            c.requires.fact.0.good (said c24.before.before.before.before.before.before.before.before.before.before.before).extended),
        says-fits (before c60.before) (one c60.before) 64 c.turn-t.result
            (table₁ c24.before.before.before.before.before.before.before.before.before.before.before)
            (said c24.before.before.before.before.before.before.before.before.before.before.before) (c.requires.fact_2.3 live)
            ∙ sym (ap (λ (b : Bool). not b || (one
            c60.before).shown) live),
      );
      marks_after = c.turn-t.ensures.marks_after;
    }
