-- `rup_cause`: the members that are not struck are gathered, the line is traced over them, and its nodes are dropped. Assumes nothing.
use mathlib.Core.Path.{◌≡◌, sym, ◌∙◌, subst}
use mathlib.Core.List.{List}
use Prim.Native.Nat.{ℕ, ◌≤◌}
use native.Mathlib.Omega.{arith}
use lib.ListN.{length, take, replicate, length-replicate}
use lib.Seq.{length-take-le}
use Rattle.meaning.specs.Diagram.{Diagram}
use Rattle.meaning.specs.Rules.{rup}
use Rattle.table.specs.Nodes.{diagram_at}
use Rattle.table.specs.Indexed.{Table, table_of, nodes_of}
use Rattle.table.specs.Lists.{diagrams_of}
use Rattle.verdict.specs.Steps.{unstruck}
use Rattle.judge.specs.Lines.{Negatable}
use Rattle.steps.proofs.Strikings.{unstruck-inside}
use Rattle.tell.specs.Failed.{Unshown}
use Rattle.tell.proofs.Rupping.{rup-calm, rup-fixed, rup-undone}
use Rattle.why.specs.Lines.{LineTraced}
use Rattle.tell.proofs.rup.rup_cause.Reads as reads
use Rattle.tell.proofs.rup.rup_cause.Lts as lts
use Rattle.tell.proofs.rup.rup_cause.Tie as tie
use Rattle.tell.proofs.rup.rup_cause.Goals as goal

module _ (s : lts.Start tie.the-claims reads.Pre reads.Post tie.handed_clauses) where
  abbrev before : Table
  before = table_of s.args.vars.now s.args.lows.now s.args.highs.now s.args.heads.now s.args.links.now
      s.args.count

  -- the members that are not struck
  abbrev live : List ℕ
  live = unstruck (take s.args.many s.args.struck.now) (take s.args.many s.args.members.now)

  abbrev root : Diagram
  root = diagram_at (nodes_of before) s.args.g.0

  ready : Negatable before live s.args.memo.now s.args.g.0
  ready = record {
    ready = record {
      good = s.requires.fact.0.ready.good;
      inside = unstruck-inside s.args.count (take s.args.many s.args.struck.now) (take s.args.many s.args.members.now)
          s.requires.fact.0.ready.inside;
      room = s.requires.fact.0.ready.room;
    };
    inside = s.requires.fact.0.inside;
    not-one = s.requires.fact.0.not-one;
  }

module _ (c : lts.After-live_members tie.the-claims reads.Pre reads.Post tie.handed_clauses) where
  abbrev gathered : List ℕ
  gathered = take c.live_members-m.result c.live_members-m.new.live

  few : c.live_members-m.result ≤ 2048
  few = omega (arith, c.live_members-m.ensures.0, c.requires.fact.1)

  gathered-is : gathered ≡ live c.before.before.before.before.before.before.before.before.before.before.before.before
  gathered-is = c.live_members-m.ensures.1

  gathered-length : length gathered ≡ c.live_members-m.result
  gathered-length = length-take-le c.live_members-m.result c.live_members-m.new.live
      (omega (arith, few, c.live_members-m.auto.live))

  own-length : length (take c.live_members-m.result (replicate {A = ℕ} 2048 0)) ≡ c.live_members-m.result
  own-length = length-take-le c.live_members-m.result (replicate {A = ℕ} 2048 0) (omega (arith, length-replicate {A = ℕ} 2048 0, few))

  scratch-length : length (take c.live_members-m.result c.args.scratch.now) ≡ c.live_members-m.result
  scratch-length = length-take-le c.live_members-m.result c.args.scratch.now (omega (arith, few, c.requires.fact.3))

module _ (c : lts.After-rup_traced tie.the-claims reads.Pre reads.Post tie.handed_clauses) where
  abbrev table₁ : Table
  table₁ = table_of c.rup_traced-t.new.vars c.rup_traced-t.new.lows c.rup_traced-t.new.highs c.rup_traced-t.new.heads
      c.rup_traced-t.new.links
      c.rup_traced-t.result.count

  traced :
      let c12 = c.before.before.before.before.before.before.before.before.before.before.before.before in
      let c24 = c12.before.before.before.before.before.before.before.before.before.before.before.before in
      LineTraced (before
      c24.before) (diagrams_of (nodes_of (before c24.before)) (live c24.before)) (root c24.before) c.rup_traced-t.result table₁
      c.rup_traced-t.new.fixed
  traced =
      let c12 = c.before.before.before.before.before.before.before.before.before.before.before.before in
      let c24 = c12.before.before.before.before.before.before.before.before.before.before.before.before in
      subst (λ (ms : List ℕ). LineTraced (before
      c24.before) (diagrams_of (nodes_of (before c24.before)) ms) (root c24.before) c.rup_traced-t.result
      table₁ c.rup_traced-t.new.fixed)
      (gathered-is c12.before) c.rup_traced-t.ensures

pub live_members-m-requires : goal.live_members-m-requires
live_members-m-requires c = (
  omega (arith, c.requires.fact.1, c.requires.fact.2),
  omega (arith, c.requires.fact.1, c.requires.fact.2, c.requires.fact.4),
  omega (arith, c.requires.fact.1),
)

pub slice_bounds-live-end : goal.slice_bounds-live-end
slice_bounds-live-end c =
    omega (arith, few c.before.before.before.before.before.before.before.before, c.live_members-m.auto.live)

pub slice_bounds-rup_traced-end : goal.slice_bounds-rup_traced-end
slice_bounds-rup_traced-end c =
    sym (gathered-length c.before.before.before.before.before.before.before.before.before)

pub slice_bounds-memberwords-end : goal.slice_bounds-memberwords-end
slice_bounds-memberwords-end c =
    omega (arith, few c.before.before.before.before.before.before.before.before.before)

pub slice_bounds-rup_traced-end-2 : goal.slice_bounds-rup_traced-end-2
slice_bounds-rup_traced-end-2 c =
    sym (own-length c.before.before.before.before.before.before.before.before.before.before)

pub slice_bounds-rup_traced-end-3 : goal.slice_bounds-rup_traced-end-3
slice_bounds-rup_traced-end-3 c =
    let a = c.before.before.before.before.before.before.before.before.before.before in
    omega (arith, few c.before.before.before.before.before.before.before.before.before.before, a.requires.fact.3)

pub slice_bounds-rup_traced-end-4 : goal.slice_bounds-rup_traced-end-4
slice_bounds-rup_traced-end-4 c =
    sym (scratch-length c.before.before.before.before.before.before.before.before.before.before.before)

pub slice_bounds-words-end : goal.slice_bounds-words-end
slice_bounds-words-end c =
    omega (arith, few c.before.before.before.before.before.before.before.before.before.before.before)

pub slice_bounds-rup_traced-end-5 : goal.slice_bounds-rup_traced-end-5
slice_bounds-rup_traced-end-5 c =
    sym (own-length c.before.before.before.before.before.before.before.before.before.before.before.before)

pub rup_traced-t-requires : goal.rup_traced-t-requires
rup_traced-t-requires c =
    let c12 = c.before.before.before.before.before.before.before.before.before.before.before.before in
    let c24 = c12.before.before.before.before.before.before.before.before.before.before.before.before in
    let B = before c24.before in record {
      fact = (
        subst (λ (ms : List ℕ). Negatable B ms c.args.memo.now c.args.g.0)
            (sym (gathered-is c12.before))
            (ready c24.before),
        scratch-length c12.before
            ∙ sym (gathered-length c12.before),
        omega (
          arith,
          gathered-length c12.before,
          few c12.before,
        ),
        rup-calm B (diagrams_of (nodes_of B) (gathered
            c12.before))
            (root c24.before)
            (subst (λ (ms : List ℕ). Unshown B (rup 64 (diagrams_of (nodes_of B) ms)
            (root c24.before))) (sym (gathered-is c12.before)) c.requires.fact.5),
      );
      memberwords_len = (
        own-length c12.before
            ∙ sym (gathered-length c12.before),
        own-length c12.before
            ∙ sym (gathered-length c12.before),
      );
      in_bounds = c.requires.in_bounds;
    }

pub drop_to-requires : goal.drop_to-requires
drop_to-requires c =
    let c12 = c.before.before.before.before.before.before.before.before.before.before.before.before in
    let c24 = c12.before.before.before.before.before.before.before.before.before.before.before.before in
    let a = c24 in
    let E = (traced c24).extended in
    (E.good, a.requires.fact.0.ready.good.least, E.more)

pub shape_of-vars : goal.shape_of-vars
shape_of-vars c =
    c.drop_to.auto.vars
    ∙ c.rup_traced-t.auto.vars

pub shape_of-lows : goal.shape_of-lows
shape_of-lows c =
    c.drop_to.auto.lows
    ∙ c.rup_traced-t.auto.lows

pub shape_of-highs : goal.shape_of-highs
shape_of-highs c =
    c.drop_to.auto.highs
    ∙ c.rup_traced-t.auto.highs

pub shape_of-heads : goal.shape_of-heads
shape_of-heads c =
    c.drop_to.auto.heads
    ∙ c.rup_traced-t.auto.heads

pub shape_of-links : goal.shape_of-links
shape_of-links c =
    c.drop_to.auto.links
    ∙ c.rup_traced-t.auto.links

pub shape_of-memo : goal.shape_of-memo
shape_of-memo c =
    c.rup_traced-t.auto.memo

pub shape_of-fixed : goal.shape_of-fixed
shape_of-fixed c =
    c.rup_traced-t.auto.fixed

pub returns : goal.returns
returns c =
    let c12 = c.before.before.before.before.before.before.before.before.before.before.before.before in
    let c24 = c12.before.before.before.before.before.before.before.before.before.before.before.before in
    let c36 = c24.before.before.before.before.before.before.before.before.before.before.before.before in
    let c48 = c36.before.before.before.before.before.before.before.before.before.before.before.before in
    let c60 = c48.before.before.before.before.before.before.before.before.before.before.before.before in
    let B = before c60 in
    let ms = diagrams_of (nodes_of B)
    (live c60) in (
      rup-undone B ms (root c60) c.requires.fact.0.ready.good c.rup_traced-t.result
          (table₁ c24.before.before.before.before.before.before.before.before.before.before.before)
          c.rup_traced-t.new.fixed (traced
          c24.before.before.before.before.before.before.before.before.before.before.before) _
          c.drop_to.ensures,
      rup-fixed B ms (root c60) c.requires.fact.0.ready.good c.rup_traced-t.result
          (table₁ c24.before.before.before.before.before.before.before.before.before.before.before)
          c.rup_traced-t.new.fixed (traced
          c24.before.before.before.before.before.before.before.before.before.before.before) c.requires.fact.5,
    )
