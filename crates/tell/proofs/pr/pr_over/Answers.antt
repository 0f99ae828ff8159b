-- `pr_over`: the members by not-g, the search over them, the turn found, and its nodes dropped. Assumes nothing.
use mathlib.Core.Path.{◌≡◌, sym, ap, ◌∙◌, subst}
use mathlib.Core.Bool.{Bool, false}
use mathlib.Core.List.{List}
use Prim.Native.Nat.{ℕ, ◌<◌}
use native.Mathlib.Omega.{arith}
use lib.ListN.{length, get_or, take}
use lib.Seq.{length-take-le, get_or-take}
use Rattle.meaning.specs.Diagram.{Diagram}
use Rattle.meaning.specs.Rules.{pr_turns}
use Rattle.meaning.specs.Words.{in_word}
use Rattle.table.specs.Nodes.{diagram_at}
use Rattle.table.specs.Indexed.{Table, table_of, nodes_of, Good}
use Rattle.table.specs.Lists.{diagrams_of}
use Rattle.conflict.specs.Marks.{unmarked}
use Rattle.supports.specs.Supports.{Supports}
use Rattle.walks.specs.Readable.{ListReady}
use Rattle.judge.specs.Lines.{ByNegation}
use Rattle.judge.proofs.Ready.{list-ready, again-ready, inside-more}
use Rattle.tell.specs.Failed.{Unshown, Fixed, by_not, turn_line, under_witness, Lowest}
use Rattle.tell.proofs.Turns.{every-support}
use Rattle.tell.proofs.PrTold.{not_full, turns-unshown, pr-told, pr-undone}
use Rattle.tell.proofs.pr.pr_over.Reads as reads
use Rattle.tell.proofs.pr.pr_over.Lts as lts
use Rattle.tell.proofs.pr.pr_over.Tie as tie
use Rattle.tell.proofs.pr.pr_over.Goals as goal

module _ (s : lts.Start tie.the-claims reads.Pre reads.Post tie.handed_clauses) where
  abbrev before : Table
  before = table_of s.args.vars.now s.args.lows.now s.args.highs.now s.args.heads.now s.args.links.now
      s.args.count

  abbrev ms : List Diagram
  ms = diagrams_of (nodes_of before) s.args.live.now

  abbrev root : Diagram
  root = diagram_at (nodes_of before) s.args.g.0

  abbrev p : ℕ
  p = s.args.witness.positive

  abbrev n : ℕ
  n = s.args.witness.negative

-- the members by not-g
module _ (a : lts.After-by_negation tie.the-claims reads.Pre reads.Post tie.handed_clauses) where
  abbrev table₁ : Table
  table₁ = table_of a.by_negation-made.new.vars a.by_negation-made.new.lows a.by_negation-made.new.highs a.by_negation-made.new.heads
      a.by_negation-made.new.links
      a.by_negation-made.result.count

  abbrev list₁ : List ℕ
  list₁ = a.by_negation-made.new.list

  roomy : a.by_negation-made.result.full ≡ false
  roomy =
      let a12 = a.before.before.before.before.before.before.before.before.before.before.before.before in
      let a24 = a12.before.before.before.before.before.before.before.before.before.before.before.before in
      not_full (before a24.before) a.requires.fact.0.ready.good a.args.live.now a.requires.fact.0.ready.inside (root a24.before) table₁
      list₁ (p a24.before) (n a24.before) a.requires.fact_2.4
      a.by_negation-made.result.full a.by_negation-made.ensures.fact_3

  by-not :
      let a12 = a.before.before.before.before.before.before.before.before.before.before.before.before in
      let a24 = a12.before.before.before.before.before.before.before.before.before.before.before.before in
      ByNegation (before
      a24.before) (ms a24.before) (root a24.before) false table₁ list₁
  by-not =
      let a12 = a.before.before.before.before.before.before.before.before.before.before.before.before in
      let a24 = a12.before.before.before.before.before.before.before.before.before.before.before.before in
      subst (λ (full : Bool). ByNegation (before
      a24.before) (ms a24.before) (root a24.before) full table₁ list₁) roomy a.by_negation-made.ensures.fact_3

  first-length : length list₁ ≡ length a.args.live.now
  first-length = a.by_negation-made.auto.list ∙ a.requires.fact.2

  words-length : length a.by_negation-made.new.words ≡ length list₁
  words-length = a.by_negation-made.auto.words ∙ a.requires.fact_2.2 ∙ sym first-length

  ready₁ : ListReady table₁ list₁ a.by_negation-made.new.memo
  ready₁ =
      let a12 = a.before.before.before.before.before.before.before.before.before.before.before.before in
      let a24 = a12.before.before.before.before.before.before.before.before.before.before.before.before in
      list-ready (before
      a24.before) (ms a24.before) (root a24.before) table₁ list₁ a.args.memo.now a.by_negation-made.new.memo
      by-not a.requires.fact.0.ready.room a.by_negation-made.auto.memo

-- the search
module _ (b : lts.After-first_unshown tie.the-claims reads.Pre reads.Post tie.handed_clauses) where
  abbrev table₂ : Table
  table₂ = table_of b.first_unshown-i.new.vars b.first_unshown-i.new.lows b.first_unshown-i.new.highs b.first_unshown-i.new.heads
      b.first_unshown-i.new.links b.by_negation-made.result.count

  same₂ :
      let b12 = b.before.before.before.before.before.before.before.before.before.before.before.before in
      let b24 = b12.before.before.before.before.before.before.before.before.before.before.before.before in
      table₂ ≡ table₁ b24.before.before
  same₂ = b.first_unshown-i.ensures.fact_3.0

  found :
      let b12 = b.before.before.before.before.before.before.before.before.before.before.before.before in
      let b24 = b12.before.before.before.before.before.before.before.before.before.before.before.before in
      let b36 = b24.before.before.before.before.before.before.before.before.before.before.before.before in
      let b48 = b36.before.before.before.before.before.before.before.before.before.before.before.before in
      Lowest (table₁ b24.before.before) (p b48.before.before.before) (n b48.before.before.before)
      (diagrams_of (nodes_of (table₁ b24.before.before)) (list₁ b24.before.before)) b.args.members.now
      b.args.struck.now b.args.many b.first_unshown-i.result
  found = b.first_unshown-i.ensures.fact_3.1

  abbrev f : ℕ
  f = get_or b.args.members.now b.first_unshown-i.result 0

  f-inside : f < b.by_negation-made.result.count
  f-inside =
      let b12 = b.before.before.before.before.before.before.before.before.before.before.before.before in
      let b24 = b12.before.before.before.before.before.before.before.before.before.before.before.before in
      let below : f < b.args.count =
      subst (λ (k : ℕ). k < b.args.count)
      (get_or-take b.args.many b.args.members.now b.first_unshown-i.result 0 found.inside)
      (b.requires.fact.7 b.first_unshown-i.result
      (omega (arith, found.inside, length-take-le b.args.many b.args.members.now b.requires.fact.5))) in
      omega (
        arith,
        below,
        (by-not
            b24.before.before).extended.more,
      )

-- the turn
module _ (d : lts.After-turn_traced tie.the-claims reads.Pre reads.Post tie.handed_clauses) where
  abbrev table₃ : Table
  table₃ = table_of d.turn_traced-rounds.new.vars d.turn_traced-rounds.new.lows d.turn_traced-rounds.new.highs
      d.turn_traced-rounds.new.heads d.turn_traced-rounds.new.links
      d.by_negation-made.result.count

  same₃ :
      let d12 = d.before.before.before.before.before.before.before.before.before.before.before.before in
      let d24 = d12.before.before.before.before.before.before.before.before.before.before.before.before in
      let d36 = d24.before.before.before.before.before.before.before.before.before.before.before.before in
      let d48 = d36.before.before.before.before.before.before.before.before.before.before.before.before in
      table₃ ≡ table₁ d48.before.before.before.before.before.before.before
  same₃ =
      let d12 = d.before.before.before.before.before.before.before.before.before.before.before.before in
      let d24 = d12.before.before.before.before.before.before.before.before.before.before.before.before in
      d.turn_traced-rounds.ensures.0 ∙ same₂
      d24.before.before.before.before.before

  fixed₁ :
      let d12 = d.before.before.before.before.before.before.before.before.before.before.before.before in
      let d24 = d12.before.before.before.before.before.before.before.before.before.before.before.before in
      let d36 = d24.before.before.before.before.before.before.before.before.before.before.before.before in
      let d48 = d36.before.before.before.before.before.before.before.before.before.before.before.before in
      let d60 = d48.before.before.before.before.before.before.before.before.before.before.before.before in
      let d72 = d60.before.before.before.before.before.before.before.before.before.before.before.before in
      let t = table₁ d48.before.before.before.before.before.before.before in
      let s = d72.before.before.before.before.before.before.before.before in
      Fixed (by_not (under_witness
      (p d72.before.before.before.before.before.before.before.before) (n d72.before.before.before.before.before.before.before.before)
      (diagram_at (nodes_of t) (f d24.before.before.before.before.before)))
      (diagrams_of (nodes_of t) (list₁ d48.before.before.before.before.before.before.before)))
      d.turn_traced-rounds.result d.turn_traced-rounds.new.fixed
  fixed₁ =
      let d12 = d.before.before.before.before.before.before.before.before.before.before.before.before in
      let d24 = d12.before.before.before.before.before.before.before.before.before.before.before.before in
      let d36 = d24.before.before.before.before.before.before.before.before.before.before.before.before in
      let d48 = d36.before.before.before.before.before.before.before.before.before.before.before.before in
      let d60 = d48.before.before.before.before.before.before.before.before.before.before.before.before in
      let d72 = d60.before.before.before.before.before.before.before.before.before.before.before.before in
      let s = d72.before.before.before.before.before.before.before.before in
      subst (λ (t : Table). Fixed (by_not (under_witness
      (p d72.before.before.before.before.before.before.before.before) (n d72.before.before.before.before.before.before.before.before)
      (diagram_at (nodes_of t) (f d24.before.before.before.before.before)))
      (diagrams_of (nodes_of t)
      (list₁ d48.before.before.before.before.before.before.before))) d.turn_traced-rounds.result
      d.turn_traced-rounds.new.fixed)
      (same₂ d24.before.before.before.before.before) d.turn_traced-rounds.ensures.1

pub by_negation-made-requires : goal.by_negation-made-requires
by_negation-made-requires c =
    let c12 = c.before.before.before.before.before.before.before.before.before.before.before.before in
    let c24 = c12.before.before.before.before.before.before.before.before.before.before.before.before in
    record {
      fact = (c.requires.fact.0, c.requires.fact.2, c.requires.fact.4);
      fact_2 = (
        record {
          lengths = c.requires.fact_2.0;
          have = c.requires.fact_2.1;
          has = every-support (before
              c24.before) c.requires.fact.0.ready.good c.args.g.0
              c.requires.fact.0.inside;
        },
        c.requires.fact_2.2,
      );
    }

pub first_unshown-i-requires : goal.first_unshown-i-requires
first_unshown-i-requires c =
    let c12 = c.before.before.before.before.before.before.before.before.before.before.before.before in
    let c24 = c12.before.before.before.before.before.before.before.before.before.before.before.before in
    let c36 = c24.before.before.before.before.before.before.before.before.before.before.before.before in
    let c48 = c36.before.before.before.before.before.before.before.before.before.before.before.before in
    record {
      fact = (
        ready₁ c24.before.before,
        c.requires.fact.1 ∙ ap unmarked (sym c.by_negation-made.auto.vars),
        c.requires.fact.3 ∙ sym (first-length
            c24.before.before),
        omega (
          arith,
          first-length
              c24.before.before,
          c.requires.fact.4,
        ),
        c.requires.fact.5,
        c.requires.fact.6,
        inside-more (before c48.before.before.before) (table₁ c24.before.before) (take c.args.many c.args.members.now)
            (by-not c24.before.before).extended c.requires.fact.7,
        c.requires.fact.8,
      );
      fact_2 = (
        words-length c24.before.before,
        c.by_negation-made.ensures.supports (roomy
            c24.before.before),
        c.requires.fact_2.3 ∙ sym (first-length
            c24.before.before),
        subst (λ (ks : List ℕ). Unshown (table₁
            c24.before.before)
            (pr_turns 64 (in_word (p c48.before.before.before)) (in_word (n c48.before.before.before))
            (diagrams_of (nodes_of (table₁ c24.before.before)) (list₁ c24.before.before))
            (diagrams_of (nodes_of (table₁ c24.before.before)) ks)))
            c.requires.fact.9
            (turns-unshown (before c48.before.before.before) c.requires.fact.0.ready.good c.args.live.now c.requires.fact.0.ready.inside
            (root c48.before.before.before) (table₁ c24.before.before)
            (list₁ c24.before.before) (p c48.before.before.before) (n c48.before.before.before) c.requires.fact_2.4
            (by-not c24.before.before)),
      );
    }

pub offset_bounds-members-i : goal.offset_bounds-members-i
offset_bounds-members-i c =
    let c12 = c.before.before.before.before.before.before.before.before.before.before.before.before in
    let b = c12.before.before.before.before.before.before.before in omega
    (arith, (found c12.before.before.before.before.before.before.before).inside, b.requires.fact.5, b.requires.fact.8)

pub bounds-members-i : goal.bounds-members-i
bounds-members-i c =
    let c12 = c.before.before.before.before.before.before.before.before.before.before.before.before in
    let b = c12.before.before.before.before.before.before.before.before in
    omega (arith, (found c12.before.before.before.before.before.before.before.before).inside, b.requires.fact.5, b.requires.fact.8)

pub turn_traced-rounds-requires : goal.turn_traced-rounds-requires
turn_traced-rounds-requires c =
    let c12 = c.before.before.before.before.before.before.before.before.before.before.before.before in
    let c24 = c12.before.before.before.before.before.before.before.before.before.before.before.before in
    let c36 = c24.before.before.before.before.before.before.before.before.before.before.before.before in
    let c48 = c36.before.before.before.before.before.before.before.before.before.before.before.before in
    let c60 = c48.before.before.before.before.before.before.before.before.before.before.before.before in
    let c72 = c60.before.before.before.before.before.before.before.before.before.before.before.before in
    record {
      fact = (
        again-ready (table₁ c48.before.before.before.before.before.before.before) (table₂ c24.before.before.before.before.before)
            (list₁ c48.before.before.before.before.before.before.before) c.by_negation-made.new.memo c.first_unshown-i.new.memo
            (same₂ c24.before.before.before.before.before) c.first_unshown-i.auto.memo
            (ready₁ c48.before.before.before.before.before.before.before),
        c.first_unshown-i.auto.second ∙ c.requires.fact.3 ∙ sym
            (first-length c48.before.before.before.before.before.before.before),
        omega (
          arith,
          first-length
              c48.before.before.before.before.before.before.before,
          c.requires.fact.4,
        ),
        f-inside c24.before.before.before.before.before,
        words-length c48.before.before.before.before.before.before.before,
        subst (λ (t : Table). Supports (nodes_of t)
            (list₁ c48.before.before.before.before.before.before.before) c.by_negation-made.new.words)
            (sym (same₂ c24.before.before.before.before.before))
            (c.by_negation-made.ensures.supports
            (roomy c48.before.before.before.before.before.before.before)),
        c.first_unshown-i.auto.secondwords ∙ c.requires.fact_2.3 ∙ sym
            (first-length c48.before.before.before.before.before.before.before),
        subst (λ (t : Table). Unshown t (turn_line
            (p c72.before.before.before.before.before.before.before.before) (n c72.before.before.before.before.before.before.before.before)
            (diagrams_of (nodes_of t) (list₁ c48.before.before.before.before.before.before.before))
            (diagram_at (nodes_of t) (f c24.before.before.before.before.before))))
            (sym (same₂ c24.before.before.before.before.before)) (found c24.before.before.before.before.before).fails,
      );
      in_bounds = (c.requires.fact_2.5, c.requires.fact_2.6);
    }

pub drop_to-requires : goal.drop_to-requires
drop_to-requires c =
    let c12 = c.before.before.before.before.before.before.before.before.before.before.before.before in
    let c24 = c12.before.before.before.before.before.before.before.before.before.before.before.before in
    let c36 = c24.before.before.before.before.before.before.before.before.before.before.before.before in
    let c48 = c36.before.before.before.before.before.before.before.before.before.before.before.before in
    let c60 = c48.before.before.before.before.before.before.before.before.before.before.before.before in
    let c72 = c60.before.before.before.before.before.before.before.before.before.before.before.before in
    let a = c72.before.before.before.before.before.before.before in (
      subst Good (sym (same₃ c24)) (by-not c72.before.before.before.before.before.before.before).extended.good,
      a.requires.fact.0.ready.good.least,
      (by-not c72.before.before.before.before.before.before.before).extended.more,
    )

pub shape_of-vars : goal.shape_of-vars
shape_of-vars c =
    c.drop_to.auto.vars
    ∙ c.turn_traced-rounds.auto.vars ∙ c.first_unshown-i.auto.vars
    ∙ c.by_negation-made.auto.vars

pub shape_of-lows : goal.shape_of-lows
shape_of-lows c =
    c.drop_to.auto.lows
    ∙ c.turn_traced-rounds.auto.lows
    ∙ c.first_unshown-i.auto.lows ∙ c.by_negation-made.auto.lows

pub shape_of-highs : goal.shape_of-highs
shape_of-highs c =
    c.drop_to.auto.highs
    ∙ c.turn_traced-rounds.auto.highs
    ∙ c.first_unshown-i.auto.highs ∙ c.by_negation-made.auto.highs

pub shape_of-heads : goal.shape_of-heads
shape_of-heads c =
    c.drop_to.auto.heads
    ∙ c.turn_traced-rounds.auto.heads
    ∙ c.first_unshown-i.auto.heads
    ∙ c.by_negation-made.auto.heads

pub shape_of-links : goal.shape_of-links
shape_of-links c =
    c.drop_to.auto.links
    ∙ c.turn_traced-rounds.auto.links
    ∙ c.first_unshown-i.auto.links
    ∙ c.by_negation-made.auto.links

pub shape_of-memo : goal.shape_of-memo
shape_of-memo c =
    c.turn_traced-rounds.auto.memo
    ∙ c.first_unshown-i.auto.memo
    ∙ c.by_negation-made.auto.memo

pub shape_of-marks : goal.shape_of-marks
shape_of-marks c =
    c.first_unshown-i.auto.marks

pub shape_of-first : goal.shape_of-first
shape_of-first c =
    c.by_negation-made.auto.list

pub shape_of-firstwords : goal.shape_of-firstwords
shape_of-firstwords c =
    c.by_negation-made.auto.words

pub shape_of-second : goal.shape_of-second
shape_of-second c =
    c.turn_traced-rounds.auto.second
    ∙ c.first_unshown-i.auto.second

pub shape_of-secondwords : goal.shape_of-secondwords
shape_of-secondwords c =
    c.turn_traced-rounds.auto.secondwords
    ∙ c.first_unshown-i.auto.secondwords

pub shape_of-fixed : goal.shape_of-fixed
shape_of-fixed c =
    c.turn_traced-rounds.auto.fixed

pub returns : goal.returns
returns c =
    let c12 = c.before.before.before.before.before.before.before.before.before.before.before.before in
    let c24 = c12.before.before.before.before.before.before.before.before.before.before.before.before in
    let c36 = c24.before.before.before.before.before.before.before.before.before.before.before.before in
    let c48 = c36.before.before.before.before.before.before.before.before.before.before.before.before in
    let c60 = c48.before.before.before.before.before.before.before.before.before.before.before.before in
    let c72 = c60.before.before.before.before.before.before.before.before.before.before.before.before in
    let c84 = c72.before.before.before.before.before.before.before.before.before.before.before.before in
    let c96 = c84.before.before.before.before.before.before.before.before.before.before.before.before in
    let c108 = c96.before.before.before.before.before.before.before.before.before.before.before.before in
    record {
      fact_3 = (
        pr-undone (before c108.before.before.before.before.before.before.before) c.requires.fact.0.ready.good c.args.live.now
            c.requires.fact.0.ready.inside (root c108.before.before.before.before.before.before.before)
            (table₁ c84.before.before.before.before.before.before) (list₁ c84.before.before.before.before.before.before)
            (p c108.before.before.before.before.before.before.before) (n c108.before.before.before.before.before.before.before)
            c.requires.fact_2.4 (by-not c84.before.before.before.before.before.before)
            (table₃ c24.before.before.before.before.before.before.before.before.before.before.before) _
            (same₃ c24.before.before.before.before.before.before.before.before.before.before.before)
            c.drop_to.ensures,
        pr-told (before c108.before.before.before.before.before.before.before) c.requires.fact.0.ready.good c.args.live.now
            c.requires.fact.0.ready.inside (root c108.before.before.before.before.before.before.before)
            (table₁ c84.before.before.before.before.before.before) (list₁ c84.before.before.before.before.before.before)
            (p c108.before.before.before.before.before.before.before) (n c108.before.before.before.before.before.before.before)
            c.requires.fact_2.4 (by-not c84.before.before.before.before.before.before) c.args.members.now c.args.struck.now c.args.many
            c.requires.fact.5
            c.requires.fact.7 c.first_unshown-i.result c.turn_traced-rounds.result c.turn_traced-rounds.new.fixed
            (found c60.before.before.before.before)
            (fixed₁ c24.before.before.before.before.before.before.before.before.before.before.before),
      );
      marks_after = c.first_unshown-i.ensures.marks_after ∙ ap unmarked c.by_negation-made.auto.vars;
    }
