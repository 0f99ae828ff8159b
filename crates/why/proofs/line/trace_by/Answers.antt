-- `trace_by`: the members by not-g, and their propagation traced. Assumes nothing.
use mathlib.Core.Path.{◌≡◌, refl, sym, ◌∙◌, subst}
use mathlib.Core.Bool.{Bool, true, false}
use mathlib.Core.List.{List}
use Prim.Native.Nat.{ℕ}
use native.Mathlib.Omega.{arith}
use Rattle.meaning.specs.Diagram.{Diagram}
use Rattle.meaning.specs.Rules.{unit_prop}
use Rattle.table.specs.Nodes.{diagram_at}
use Rattle.table.specs.Indexed.{Table, table_of, nodes_of}
use Rattle.table.specs.Lists.{diagrams_of}
use Rattle.judge.specs.Lines.{ByNegation}
use Rattle.judge.proofs.Ready.{list-ready}
use Rattle.why.proofs.Lines.{traced-full, traced-by}
use Rattle.why.proofs.line.trace_by.Reads as reads
use Rattle.why.proofs.line.trace_by.Lts as lts
use Rattle.why.proofs.line.trace_by.Tie as tie
use Rattle.why.proofs.line.trace_by.Goals as goal

module _ (s : lts.Start tie.the-claims reads.Pre reads.Post tie.handed_clauses) where
  abbrev before : Table
  before = table_of s.args.vars.now s.args.lows.now s.args.highs.now s.args.heads.now s.args.links.now
      s.args.count

  abbrev members : List Diagram
  members = diagrams_of (nodes_of before) s.args.members.now

  abbrev root : Diagram
  root = diagram_at (nodes_of before) s.args.g.0

-- what not-g and the members by it leave
module _ (a : lts.After-by_negation tie.the-claims reads.Pre reads.Post tie.handed_clauses) where
  abbrev table₁ : Table
  table₁ = table_of a.by_negation-made.new.vars a.by_negation-made.new.lows a.by_negation-made.new.highs a.by_negation-made.new.heads
      a.by_negation-made.new.links a.by_negation-made.result.count

  abbrev list₁ : List ℕ
  list₁ = a.by_negation-made.new.list

  by-negation :
      let a12 = a.before.before.before.before.before.before.before.before.before.before.before.before in
      (b : Bool) → a.by_negation-made.result.full ≡ b → ByNegation
      (before a12.before.before.before.before.before.before.before.before)
      (members a12.before.before.before.before.before.before.before.before)
      (root a12.before.before.before.before.before.before.before.before) b table₁ list₁
  by-negation b e =
      let a12 = a.before.before.before.before.before.before.before.before.before.before.before.before in
      subst (λ (full : Bool). ByNegation (before
      a12.before.before.before.before.before.before.before.before) (members a12.before.before.before.before.before.before.before.before)
      (root a12.before.before.before.before.before.before.before.before) full table₁ list₁) e a.by_negation-made.ensures.fact_3

pub by_negation-made-requires : goal.by_negation-made-requires
by_negation-made-requires c = record {
  fact = (
    c.requires.fact.0,
    c.requires.fact.1,
    c.requires.fact.2,
  );
  fact_2 = c.requires.fact_2;
}

pub shape_of-vars-then-made : goal.shape_of-vars-then-made
shape_of-vars-then-made c =
    c.by_negation-made.auto.vars

pub shape_of-lows-then-made : goal.shape_of-lows-then-made
shape_of-lows-then-made c =
    c.by_negation-made.auto.lows

pub shape_of-highs-then-made : goal.shape_of-highs-then-made
shape_of-highs-then-made c =
    c.by_negation-made.auto.highs

pub shape_of-heads-then-made : goal.shape_of-heads-then-made
shape_of-heads-then-made c =
    c.by_negation-made.auto.heads

pub shape_of-links-then-made : goal.shape_of-links-then-made
shape_of-links-then-made c =
    c.by_negation-made.auto.links

pub shape_of-memo-then-made : goal.shape_of-memo-then-made
shape_of-memo-then-made c =
    c.by_negation-made.auto.memo

pub shape_of-list-then-made : goal.shape_of-list-then-made
shape_of-list-then-made c =
    c.by_negation-made.auto.list

pub shape_of-words-then-made : goal.shape_of-words-then-made
shape_of-words-then-made c =
    c.by_negation-made.auto.words

pub returns-then-made : goal.returns-then-made
returns-then-made c =
    let c12 = c.before.before.before.before.before.before.before.before.before.before.before.before in
    let c24 = c12.before.before.before.before.before.before.before.before.before.before.before.before in
    let c36 = c24.before.before.before.before.before.before.before.before.before.before.before.before in
    traced-full (before c36.before.before) c.requires.fact.0.ready.good (members c36.before.before) (root c36.before.before)
    (table₁ c12.before.before.before.before.before.before) (list₁ c12.before.before.before.before.before.before)
    (by-negation c12.before.before.before.before.before.before true c.if-made.true) _

pub trace-requires : goal.trace-requires
trace-requires c =
    let c12 = c.before.before.before.before.before.before.before.before.before.before.before.before in
    let c24 = c12.before.before.before.before.before.before.before.before.before.before.before.before in
    let c36 = c24.before.before.before.before.before.before.before.before.before.before.before.before in
    let B = by-negation c24.before.before.before false c.if-made.false in
    let calm = subst (λ (ds : List Diagram). (unit_prop 64 ds).conflict ≡ false) (sym (B.are refl)) c.requires.fact.3 in record {
      fact = (
        list-ready (before c36.before.before.before.before.before.before.before.before.before.before.before)
            (members c36.before.before.before.before.before.before.before.before.before.before.before)
            (root c36.before.before.before.before.before.before.before.before.before.before.before) (table₁ c24.before.before.before)
            (list₁ c24.before.before.before) c.args.memo.now c.by_negation-made.new.memo B
            c.requires.fact.0.ready.room c.by_negation-made.auto.memo,
        c.by_negation-made.auto.words ∙ c.requires.fact_2.1
            ∙ sym (c.by_negation-made.auto.list ∙ c.requires.fact.1),
        c.by_negation-made.ensures.supports c.if-made.false,
        omega (arith, c.by_negation-made.auto.list, c.requires.fact.1, c.requires.fact.2),
        calm,
      );
      in_bounds = c.requires.in_bounds;
    }

pub shape_of-vars : goal.shape_of-vars
shape_of-vars c =
    c.trace.auto.vars ∙ c.by_negation-made.auto.vars

pub shape_of-lows : goal.shape_of-lows
shape_of-lows c =
    c.trace.auto.lows ∙ c.by_negation-made.auto.lows

pub shape_of-highs : goal.shape_of-highs
shape_of-highs c =
    c.trace.auto.highs ∙ c.by_negation-made.auto.highs

pub shape_of-heads : goal.shape_of-heads
shape_of-heads c =
    c.trace.auto.heads ∙ c.by_negation-made.auto.heads

pub shape_of-links : goal.shape_of-links
shape_of-links c =
    c.trace.auto.links ∙ c.by_negation-made.auto.links

pub shape_of-memo : goal.shape_of-memo
shape_of-memo c =
    c.trace.auto.memo ∙ c.by_negation-made.auto.memo

pub shape_of-list : goal.shape_of-list
shape_of-list c =
    c.trace.auto.list ∙ c.by_negation-made.auto.list

pub shape_of-words : goal.shape_of-words
shape_of-words c =
    c.trace.auto.words ∙ c.by_negation-made.auto.words

pub shape_of-fixed : goal.shape_of-fixed
shape_of-fixed c =
    c.trace.auto.fixed

pub returns : goal.returns
returns c =
    let c12 = c.before.before.before.before.before.before.before.before.before.before.before.before in
    let c24 = c12.before.before.before.before.before.before.before.before.before.before.before.before in
    let c36 = c24.before.before.before.before.before.before.before.before.before.before.before.before in
    let c48 = c36.before.before.before.before.before.before.before.before.before.before.before.before in
    let c60 = c48.before.before.before.before.before.before.before.before.before.before.before.before in
    traced-by (before c60.before.before.before.before.before.before) c.requires.fact.0.ready.good
    (members c60.before.before.before.before.before.before) (root c60.before.before.before.before.before.before)
    (table₁ c36.before.before.before.before.before.before.before.before.before.before)
    (list₁ c36.before.before.before.before.before.before.before.before.before.before)
    (by-negation c36.before.before.before.before.before.before.before.before.before.before false c.if-made.false)
    c.trace.result (table_of c.trace.new.vars c.trace.new.lows c.trace.new.highs c.trace.new.heads c.trace.new.links
    c.trace.result.count) _ c.trace.ensures
