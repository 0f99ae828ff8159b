-- `path_cause`: the members that are not struck are gathered, and the line is done over them. Assumes nothing.
use mathlib.Core.Path.{◌≡◌, sym, ◌∙◌, subst}
use mathlib.Core.List.{List}
use Prim.Native.Nat.{ℕ, ◌≤◌}
use native.Mathlib.Omega.{arith}
use lib.ListN.{length, take, replicate, length-replicate}
use lib.Seq.{length-take-le}
use Rattle.meaning.specs.Diagram.{Diagram}
use Rattle.paths.specs.Paths.{path_line}
use Rattle.table.specs.Nodes.{diagram_at}
use Rattle.table.specs.Indexed.{Table, table_of, nodes_of}
use Rattle.table.specs.Lists.{diagrams_of}
use Rattle.verdict.specs.Steps.{unstruck}
use Rattle.judge.specs.Lines.{Negatable}
use Rattle.steps.proofs.Strikings.{unstruck-inside}
use Rattle.tell.specs.Failed.{Unshown}
use Rattle.path_causes.specs.Failing.{PathTold}
use Rattle.path_causes.proofs.path_cause.Reads as reads
use Rattle.path_causes.proofs.path_cause.Lts as lts
use Rattle.path_causes.proofs.path_cause.Tie as tie
use Rattle.path_causes.proofs.path_cause.Goals as goal

module _ (s : lts.Start tie.the-claims reads.Pre reads.Post tie.handed_clauses) where
  abbrev before : Table
  before = table_of s.args.vars.now s.args.lows.now s.args.highs.now s.args.heads.now s.args.links.now
      s.args.count

  -- the members that are not struck
  abbrev live : List ℕ
  live = unstruck (take s.args.many s.args.struck.now) (take s.args.many s.args.members.now)

  abbrev root : Diagram
  root = diagram_at (nodes_of before) s.args.g.0

  ready : Negatable before live s.args.memo.now s.args.g.0
  ready = record {
    ready = record {
      good = s.requires.fact.0.ready.good;
      inside = unstruck-inside s.args.count (take s.args.many s.args.struck.now) (take s.args.many s.args.members.now)
          s.requires.fact.0.ready.inside;
      room = s.requires.fact.0.ready.room;
    };
    inside = s.requires.fact.0.inside;
    not-one = s.requires.fact.0.not-one;
  }

module _ (c : lts.After-live_members tie.the-claims reads.Pre reads.Post tie.handed_clauses) where
  abbrev gathered : List ℕ
  gathered = take c.live_members-m.result c.live_members-m.new.live

  few : c.live_members-m.result ≤ 2048
  few = omega (arith, c.live_members-m.ensures.0, c.requires.fact.2)

  gathered-is :
      let c12 = c.before.before.before.before.before.before.before.before.before.before.before.before in
      gathered ≡ live c12.before
  gathered-is = c.live_members-m.ensures.1

  gathered-length : length gathered ≡ c.live_members-m.result
  gathered-length = length-take-le c.live_members-m.result c.live_members-m.new.live
      (omega (arith, few, c.live_members-m.auto.live))

  own-length : length (take c.live_members-m.result (replicate {A = ℕ} 2048 0)) ≡ c.live_members-m.result
  own-length = length-take-le c.live_members-m.result (replicate {A = ℕ} 2048 0) (omega (arith, length-replicate {A = ℕ} 2048 0, few))

  scratch-length : length (take c.live_members-m.result c.args.scratch.now) ≡ c.live_members-m.result
  scratch-length = length-take-le c.live_members-m.result c.args.scratch.now (omega (arith, few, c.requires.fact.4))

pub live_members-m-requires : goal.live_members-m-requires
live_members-m-requires c = (
  omega (arith, c.requires.fact.2, c.requires.fact.3),
  omega (arith, c.requires.fact.2, c.requires.fact.3, c.requires.fact.5),
  omega (arith, c.requires.fact.2),
)

pub slice_bounds-live-end : goal.slice_bounds-live-end
slice_bounds-live-end c =
    omega (arith, few c.before.before.before.before.before.before.before.before.before, c.live_members-m.auto.live)

pub slice_bounds-path_over-end : goal.slice_bounds-path_over-end
slice_bounds-path_over-end c =
    sym (gathered-length c.before.before.before.before.before.before.before.before.before.before)

pub slice_bounds-memberwords-end : goal.slice_bounds-memberwords-end
slice_bounds-memberwords-end c =
    omega (arith, few c.before.before.before.before.before.before.before.before.before.before)

pub slice_bounds-path_over-end-2 : goal.slice_bounds-path_over-end-2
slice_bounds-path_over-end-2 c =
    sym (own-length c.before.before.before.before.before.before.before.before.before.before.before)

pub slice_bounds-path_over-end-3 : goal.slice_bounds-path_over-end-3
slice_bounds-path_over-end-3 c =
    let a = c.before.before.before.before.before.before.before.before.before.before.before in
    omega (arith, few c.before.before.before.before.before.before.before.before.before.before.before, a.requires.fact.4)

pub slice_bounds-path_over-end-4 : goal.slice_bounds-path_over-end-4
slice_bounds-path_over-end-4 c =
    sym (scratch-length c.before.before.before.before.before.before.before.before.before.before.before.before)

pub slice_bounds-words-end : goal.slice_bounds-words-end
slice_bounds-words-end c =
    omega (arith, few c.before.before.before.before.before.before.before.before.before.before.before.before)

pub slice_bounds-path_over-end-5 : goal.slice_bounds-path_over-end-5
slice_bounds-path_over-end-5 c =
    let c12 = c.before.before.before.before.before.before.before.before.before.before.before.before in
    sym (own-length c12.before)

pub path_over-requires : goal.path_over-requires
path_over-requires c =
    let c12 = c.before.before.before.before.before.before.before.before.before.before.before.before in
    let c24 = c12.before.before.before.before.before.before.before.before.before.before.before.before in
    let B = before c24.before.before.before in record {
      fact = (
        subst (λ (ms : List ℕ). Negatable B ms c.args.memo.now c.args.g.0)
            (sym (gathered-is c12.before.before))
            (ready c24.before.before.before),
        c.requires.fact.1,
        scratch-length c12.before.before
            ∙ sym (gathered-length c12.before.before),
        omega (
          arith,
          gathered-length c12.before.before,
          few c12.before.before,
        ),
        c.requires.fact.6,
        subst (λ (ms : List ℕ). Unshown B (path_line 64 (diagrams_of (nodes_of B) ms)
            (root c24.before.before.before))) (sym (gathered-is c12.before.before)) c.requires.fact.7,
      );
      memberwords_len = (
        own-length c12.before.before
            ∙ sym (gathered-length c12.before.before),
        own-length c12.before.before
            ∙ sym (gathered-length c12.before.before),
      );
      in_bounds = c.requires.in_bounds;
    }

pub shape_of-vars : goal.shape_of-vars
shape_of-vars c =
    c.path_over.auto.vars

pub shape_of-lows : goal.shape_of-lows
shape_of-lows c =
    c.path_over.auto.lows

pub shape_of-highs : goal.shape_of-highs
shape_of-highs c =
    c.path_over.auto.highs

pub shape_of-heads : goal.shape_of-heads
shape_of-heads c =
    c.path_over.auto.heads

pub shape_of-links : goal.shape_of-links
shape_of-links c =
    c.path_over.auto.links

pub shape_of-memo : goal.shape_of-memo
shape_of-memo c =
    c.path_over.auto.memo

pub shape_of-marks : goal.shape_of-marks
shape_of-marks c =
    c.path_over.auto.marks

pub shape_of-fixed : goal.shape_of-fixed
shape_of-fixed c =
    c.path_over.auto.fixed

pub returns : goal.returns
returns c =
    let c12 = c.before.before.before.before.before.before.before.before.before.before.before.before in
    let c24 = c12.before.before.before.before.before.before.before.before.before.before.before.before in
    let c36 = c24.before.before.before.before.before.before.before.before.before.before.before.before in
    let c48 = c36.before.before.before.before.before.before.before.before.before.before.before.before in
    let B = before c48 in
    record {
      fact_2 = (
        c.path_over.ensures.fact_2.0,
        subst (λ (ms : List ℕ). PathTold (diagrams_of (nodes_of B) ms)
            (root c48) c.path_over.result c.path_over.new.fixed)
            (gathered-is c24.before.before.before.before.before.before.before.before.before.before.before) c.path_over.ensures.fact_2.1,
      );
      marks_after = c.path_over.ensures.marks_after;
    }
