-- `pr_cause`: the members that are not struck are gathered, and the line is told over them. Assumes nothing.
use mathlib.Core.Path.{◌≡◌, sym, ◌∙◌, subst}
use mathlib.Core.List.{List}
use Prim.Native.Nat.{ℕ, ◌≤◌}
use native.Mathlib.Omega.{arith}
use lib.ListN.{length, take, replicate, length-replicate}
use lib.Seq.{length-take-le}
use Rattle.meaning.specs.Diagram.{Diagram}
use Rattle.meaning.specs.Rules.{pr}
use Rattle.meaning.specs.Words.{in_word}
use Rattle.table.specs.Nodes.{diagram_at}
use Rattle.table.specs.Indexed.{Table, table_of, nodes_of}
use Rattle.table.specs.Lists.{diagrams_of}
use Rattle.verdict.specs.Steps.{unstruck}
use Rattle.judge.specs.Lines.{Negatable}
use Rattle.steps.proofs.Strikings.{unstruck-inside}
use Rattle.tell.specs.Failed.{Unshown, by_not, every_variable, PrTold}
use Rattle.tell.proofs.PrTold.{ones-support}
use Rattle.tell.proofs.pr.pr_cause.Reads as reads
use Rattle.tell.proofs.pr.pr_cause.Lts as lts
use Rattle.tell.proofs.pr.pr_cause.Tie as tie
use Rattle.tell.proofs.pr.pr_cause.Goals as goal

module _ (s : lts.Start tie.the-claims reads.Pre reads.Post tie.handed_clauses) where
  abbrev before : Table
  before = table_of s.args.vars.now s.args.lows.now s.args.highs.now s.args.heads.now s.args.links.now
      s.args.count

  -- the members that are not struck
  abbrev live : List ℕ
  live = unstruck (take s.args.many s.args.struck.now) (take s.args.many s.args.members.now)

  abbrev root : Diagram
  root = diagram_at (nodes_of before) s.args.g.0

  ready : Negatable before live s.args.memo.now s.args.g.0
  ready = record {
    ready = record {
      good = s.requires.fact.0.ready.good;
      inside = unstruck-inside s.args.count (take s.args.many s.args.struck.now) (take s.args.many s.args.members.now)
          s.requires.fact.0.ready.inside;
      room = s.requires.fact.0.ready.room;
    };
    inside = s.requires.fact.0.inside;
    not-one = s.requires.fact.0.not-one;
  }

module _ (c : lts.After-live_members tie.the-claims reads.Pre reads.Post tie.handed_clauses) where
  abbrev m : ℕ
  m = c.live_members-m.result

  abbrev gathered : List ℕ
  gathered = take m c.live_members-m.new.live

  few : m ≤ 2048
  few = omega (arith, c.live_members-m.ensures.0, c.requires.fact.2)

  gathered-is :
      let c12 = c.before.before.before.before.before.before.before.before.before.before.before.before in
      gathered ≡ live c12.before
  gathered-is = c.live_members-m.ensures.1

  gathered-length : length gathered ≡ m
  gathered-length = length-take-le m c.live_members-m.new.live (omega (arith, few, c.live_members-m.auto.live))

  own-length : length (take m (replicate {A = ℕ} 2048 0)) ≡ m
  own-length = length-take-le m (replicate {A = ℕ} 2048 0) (omega (arith, length-replicate {A = ℕ} 2048 0, few))

  ones-length : length (take m (replicate {A = ℕ} 2048 every_variable)) ≡ m
  ones-length = length-take-le m (replicate {A = ℕ} 2048 every_variable) (omega (arith, length-replicate {A = ℕ} 2048 every_variable, few))

  scratch-length : length (take m c.args.scratch.now) ≡ m
  scratch-length = length-take-le m c.args.scratch.now (omega (arith, few, c.requires.fact.4))

  gathered-ready :
      let c12 = c.before.before.before.before.before.before.before.before.before.before.before.before in
      Negatable (before c12.before) gathered
      c.args.memo.now c.args.g.0
  gathered-ready =
      let c12 = c.before.before.before.before.before.before.before.before.before.before.before.before in
      subst (λ (ks : List ℕ). Negatable
      (before c12.before) ks c.args.memo.now c.args.g.0)
      (sym gathered-is)
      (ready c12.before)

pub live_members-m-requires : goal.live_members-m-requires
live_members-m-requires c = (
  omega (arith, c.requires.fact.2, c.requires.fact.3),
  omega (arith, c.requires.fact.2, c.requires.fact.3, c.requires.fact.5),
  omega (arith, c.requires.fact.2),
)

pub slice_bounds-live-end : goal.slice_bounds-live-end
slice_bounds-live-end c =
    omega (arith, few c.before.before.before.before.before.before.before.before.before, c.live_members-m.auto.live)

pub slice_bounds-pr_over-end : goal.slice_bounds-pr_over-end
slice_bounds-pr_over-end c =
    sym (gathered-length c.before.before.before.before.before.before.before.before.before.before)

pub slice_bounds-ones-end : goal.slice_bounds-ones-end
slice_bounds-ones-end c =
    omega (arith, few c.before.before.before.before.before.before.before.before.before.before)

pub slice_bounds-pr_over-end-2 : goal.slice_bounds-pr_over-end-2
slice_bounds-pr_over-end-2 c =
    sym (ones-length c.before.before.before.before.before.before.before.before.before.before.before)

pub slice_bounds-pr_over-end-3 : goal.slice_bounds-pr_over-end-3
slice_bounds-pr_over-end-3 c =
    let a = c.before.before.before.before.before.before.before.before.before.before.before in
    omega (arith, few c.before.before.before.before.before.before.before.before.before.before.before, a.requires.fact.4)

pub slice_bounds-pr_over-end-4 : goal.slice_bounds-pr_over-end-4
slice_bounds-pr_over-end-4 c =
    sym (scratch-length c.before.before.before.before.before.before.before.before.before.before.before.before)

pub slice_bounds-firstwords-end : goal.slice_bounds-firstwords-end
slice_bounds-firstwords-end c =
    omega (arith, few c.before.before.before.before.before.before.before.before.before.before.before.before)

pub slice_bounds-pr_over-end-5 : goal.slice_bounds-pr_over-end-5
slice_bounds-pr_over-end-5 c =
    let c12 = c.before.before.before.before.before.before.before.before.before.before.before.before in
    sym (own-length c12.before)

pub slice_bounds-second-end : goal.slice_bounds-second-end
slice_bounds-second-end c =
    let c12 = c.before.before.before.before.before.before.before.before.before.before.before.before in
    omega (arith, few c12.before)

pub slice_bounds-pr_over-end-6 : goal.slice_bounds-pr_over-end-6
slice_bounds-pr_over-end-6 c =
    let c12 = c.before.before.before.before.before.before.before.before.before.before.before.before in
    sym (own-length c12.before.before)

pub slice_bounds-secondwords-end : goal.slice_bounds-secondwords-end
slice_bounds-secondwords-end c =
    let c12 = c.before.before.before.before.before.before.before.before.before.before.before.before in
    omega (arith, few c12.before.before)

pub slice_bounds-pr_over-end-7 : goal.slice_bounds-pr_over-end-7
slice_bounds-pr_over-end-7 c =
    let c12 = c.before.before.before.before.before.before.before.before.before.before.before.before in
    sym (own-length c12.before.before.before)

pub pr_over-requires : goal.pr_over-requires
pr_over-requires c =
    let c12 = c.before.before.before.before.before.before.before.before.before.before.before.before in
    let c24 = c12.before.before.before.before.before.before.before.before.before.before.before.before in
    let B = before c24.before.before.before.before.before in
    let own = own-length c12.before.before.before.before
    ∙ sym (gathered-length
    c12.before.before.before.before) in record {
      fact = (
        gathered-ready c12.before.before.before.before,
        c.requires.fact.1,
        scratch-length c12.before.before.before.before
            ∙ sym (gathered-length
            c12.before.before.before.before),
        own,
        omega (
          arith,
          gathered-length
              c12.before.before.before.before,
          few c12.before.before.before.before,
        ),
        omega (arith, c.requires.fact.2, c.requires.fact.3),
        omega (arith, c.requires.fact.2, c.requires.fact.3, c.requires.fact.5),
        c.requires.fact.0.ready.inside,
        c.requires.fact.2,
        gathered-is c12.before.before.before.before,
      );
      fact_2 = (
        ones-length c12.before.before.before.before
            ∙ sym (gathered-length
            c12.before.before.before.before),
        ones-support B c.requires.fact.0.ready.good
            (gathered c12.before.before.before.before)
            (gathered-ready c12.before.before.before.before).ready.inside (m c12.before.before.before.before)
            (gathered-length c12.before.before.before.before) (few c12.before.before.before.before),
        own,
        own,
        subst (λ (ks : List ℕ). Unshown B (pr 64 (in_word c.args.witness.positive) (in_word c.args.witness.negative)
            (diagrams_of (nodes_of B) ks) (root
            c24.before.before.before.before.before))) (sym (gathered-is c12.before.before.before.before)) c.requires.fact.6,
        c.requires.in_bounds.0,
        c.requires.in_bounds.1,
      );
    }

pub shape_of-vars : goal.shape_of-vars
shape_of-vars c =
    c.pr_over.auto.vars

pub shape_of-lows : goal.shape_of-lows
shape_of-lows c =
    c.pr_over.auto.lows

pub shape_of-highs : goal.shape_of-highs
shape_of-highs c =
    c.pr_over.auto.highs

pub shape_of-heads : goal.shape_of-heads
shape_of-heads c =
    c.pr_over.auto.heads

pub shape_of-links : goal.shape_of-links
shape_of-links c =
    c.pr_over.auto.links

pub shape_of-memo : goal.shape_of-memo
shape_of-memo c =
    c.pr_over.auto.memo

pub shape_of-marks : goal.shape_of-marks
shape_of-marks c =
    c.pr_over.auto.marks

pub shape_of-fixed : goal.shape_of-fixed
shape_of-fixed c =
    c.pr_over.auto.fixed

pub returns : goal.returns
returns c =
    let c12 = c.before.before.before.before.before.before.before.before.before.before.before.before in
    let c24 = c12.before.before.before.before.before.before.before.before.before.before.before.before in
    let c36 = c24.before.before.before.before.before.before.before.before.before.before.before.before in
    let c48 = c36.before.before.before.before.before.before.before.before.before.before.before.before in
    let B = before c48.before.before.before in
    record {
      fact_2 = (
        c.pr_over.ensures.fact_3.0,
        subst (λ (ks : List ℕ). PrTold (nodes_of B) c.args.witness.positive c.args.witness.negative
            (by_not (root c48.before.before.before) (diagrams_of (nodes_of B) ks)) c.args.members.now c.args.struck.now c.args.many
            c.pr_over.result.member
            c.pr_over.result.rounds c.pr_over.new.fixed)
            (gathered-is c36.before.before) c.pr_over.ensures.fact_3.1,
      );
      marks_after = c.pr_over.ensures.marks_after;
    }
