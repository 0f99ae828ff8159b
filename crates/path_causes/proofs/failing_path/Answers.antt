-- `failing_path`: turn after turn, up to the one that does not conflict. The invariant: the table is as it was, the turns so far
-- conflicted, and the words at hand are the next path's (Passing). Assumes nothing.
use mathlib.Core.Path.{◌≡◌, refl, sym, ap, ◌∙◌, subst}
use mathlib.Core.Bool.{true, not}
use Prim.Native.Nat.{◌-◌, ◌<◌}
use native.Mathlib.Omega.{arith}
use lib.ListN.{length}
use Rattle.meaning.proofs.Booleans.{not-not}
use Rattle.words.specs.Sets.{no_literals}
use Rattle.table.specs.Nodes.{diagram_at}
use Rattle.table.specs.Indexed.{Table, table_of, nodes_of, Good}
use Rattle.table.proofs.Outcomes.{undone}
use Rattle.table.specs.Lists.{diagrams_of}
use Rattle.table.proofs.Extended.{extended-longer}
use Rattle.walks.proofs.Here.{good-readable}
use Rattle.supports.specs.Supports.{Supports}
use Rattle.conflict.specs.Marks.{unmarked}
use Rattle.judge.specs.Lines.{LineSays}
use Rattle.judge.proofs.Ready.{again-ready}
use Rattle.paths.specs.Paths.{path_count}
use Rattle.paths.specs.Walk.{after_from, no_path}
use Rattle.paths.proofs.Sequence.{count-is}
use Rattle.path_lines.specs.Turns.{turn_by}
use Rattle.path_lines.proofs.Turning.{next-first}
use Rattle.path_causes.proofs.Passing.{passing-none, goes_on, another, stops-here}
use Rattle.path_causes.proofs.failing_path.Reads as reads
use Rattle.path_causes.proofs.failing_path.Lts as lts
use Rattle.path_causes.proofs.failing_path.Tie as tie
use Rattle.path_causes.proofs.failing_path.Goals as goal

module _ (s : lts.Start tie.the-claims reads.Pre reads.Post goal.the-invariant-loop-root goal.the-decreases-loop-root tie.handed_clauses)
  where
    abbrev before : Table
    before = table_of s.args.vars.now s.args.lows.now s.args.highs.now s.args.heads.now s.args.links.now
        s.args.count

    abbrev good : Good before
    good = s.requires.fact.0.ready.good

-- what a turn leaves
module _ (a : lts.After-path_turn tie.the-claims reads.Pre reads.Post goal.the-invariant-loop-root goal.the-decreases-loop-root
    tie.handed_clauses) where
  abbrev table₁ : Table
  table₁ = table_of a.path_turn-t.new.vars a.path_turn-t.new.lows a.path_turn-t.new.highs a.path_turn-t.new.heads a.path_turn-t.new.links
      a.path_turn-t.result.count

  said :
      let a12 = a.before.before.before.before.before.before.before.before.before.before.before.before in
      LineSays (before a12.before.before.before.before.before.before.before.before.before.before.before)
      (turn_by a.loop-root.literals (diagrams_of
      (nodes_of (before a12.before.before.before.before.before.before.before.before.before.before.before)) a.args.members.now)) 64
      a.path_turn-t.result table₁
  said =
      subst (λ (t : Table). LineSays t (turn_by a.loop-root.literals (diagrams_of (nodes_of t) a.args.members.now)) 64
      a.path_turn-t.result table₁)
      a.loop-root.invariant.0 a.path_turn-t.ensures.fact_3

  unmarked-again : a.path_turn-t.new.marks ≡ unmarked (length a.args.vars.now)
  unmarked-again = a.path_turn-t.ensures.marks_after ∙ ap (λ (t : Table). unmarked (length t.vars)) a.loop-root.invariant.0

  not_last :
      let a12 = a.before.before.before.before.before.before.before.before.before.before.before.before in
      a.loop-root.passed < path_count (diagram_at
      (nodes_of (before a12.before.before.before.before.before.before.before.before.before.before.before)) a.args.root.0)
  not_last =
      let a12 = a.before.before.before.before.before.before.before.before.before.before.before.before in
      omega (
        arith,
        a.loop-root.invariant.6.inside refl,
        count-is
            (diagram_at (nodes_of
            (before a12.before.before.before.before.before.before.before.before.before.before.before)) a.args.root.0),
      )

-- what dropping its nodes leaves
module _ (d : lts.After-drop_to tie.the-claims reads.Pre reads.Post goal.the-invariant-loop-root goal.the-decreases-loop-root
    tie.handed_clauses) where
  abbrev dropped : Table
  dropped = table_of d.drop_to.new.vars d.drop_to.new.lows d.drop_to.new.highs d.drop_to.new.heads d.drop_to.new.links
      d.args.count

  as_before :
      let d12 = d.before.before.before.before.before.before.before.before.before.before.before.before in
      let d24 = d12.before.before.before.before.before.before.before.before.before.before.before.before in
      let d36 = d24.before.before.before.before.before.before.before.before.before.before.before.before in
      dropped ≡ before
      d36.before.before.before.before.before.before.before.before.before.before.before
  as_before =
      let d12 = d.before.before.before.before.before.before.before.before.before.before.before.before in
      let d24 = d12.before.before.before.before.before.before.before.before.before.before.before.before in
      let d36 = d24.before.before.before.before.before.before.before.before.before.before.before.before in
      d.drop_to.ensures ∙ undone (before
      d36.before.before.before.before.before.before.before.before.before.before.before)
      (good d36.before.before.before.before.before.before.before.before.before.before.before) (table₁ d24)
      (extended-longer (before d36.before.before.before.before.before.before.before.before.before.before.before) (table₁ d24)
      (good d36.before.before.before.before.before.before.before.before.before.before.before) (said d24).extended)

pub first_path-literals-requires : goal.first_path-literals-requires
first_path-literals-requires c = (
  good-readable (before c.before.before.before.before.before.before.before.before.before.before.before.before)
      (good c.before.before.before.before.before.before.before.before.before.before.before.before),
  c.requires.fact.0.inside,
)

pub loop-root-init : goal.loop-root-init
unfolding nodes_of
loop-root-init c =
    let c12 = c.before.before.before.before.before.before.before.before.before.before.before.before in (
      refl,
      passing-none (before c12.before) c.args.members.now
          c.args.root.0 (good c12.before),
      c.requires.fact.1,
      refl,
      refl,
      refl,
      next-first (before c12.before) c.args.members.now
          c.args.root.0 (good c12.before)
          c.requires.fact.0.inside c.requires.fact.0.not-one
          c.first_path-literals.result c.first_path-literals.ensures,
    )

pub path_turn-t-requires : goal.path_turn-t-requires
path_turn-t-requires c =
    let c12 = c.before.before.before.before.before.before.before.before.before.before.before.before in
    record {
      fact = (
        again-ready (before c12.before.before.before.before.before.before.before.before.before.before.before)
            (table_of c.loop-root.vars c.loop-root.lows c.loop-root.highs c.loop-root.heads c.loop-root.links c.args.count)
            c.args.members.now
            c.args.memo.now c.loop-root.memo c.loop-root.invariant.0 c.loop-root.invariant.3 c.requires.fact.0.ready,
        c.loop-root.invariant.2 ∙ sym (ap (λ (t : Table). unmarked (length t.vars)) c.loop-root.invariant.0),
        c.loop-root.invariant.4 ∙ c.requires.fact.2,
        c.requires.fact.3,
      );
      fact_2 = (
        c.requires.fact_2.0,
        subst (λ (t : Table). Supports (nodes_of t) c.args.members.now c.args.memberwords.now) (sym c.loop-root.invariant.0)
            c.requires.fact_2.1,
        c.loop-root.invariant.5 ∙ c.requires.fact_2.2,
      );
    }

pub drop_to-requires : goal.drop_to-requires
drop_to-requires c =
    let c12 = c.before.before.before.before.before.before.before.before.before.before.before.before in
    let c24 = c12.before.before.before.before.before.before.before.before.before.before.before.before in
    let c36 = c24.before.before.before.before.before.before.before.before.before.before.before.before in (
      (said c24).extended.good,
      omega (
        arith,
        (good c36.before.before.before.before.before.before.before.before.before.before.before).least,
        (said c24).extended.more,
      ),
      omega (arith, (said c24).extended.more),
    )

pub shape_of-vars-then-not-t : goal.shape_of-vars-then-not-t
shape_of-vars-then-not-t c =
    c.drop_to.auto.vars ∙ c.path_turn-t.auto.vars
    ∙ ap (λ (t : Table). length t.vars) c.loop-root.invariant.0

pub shape_of-lows-then-not-t : goal.shape_of-lows-then-not-t
shape_of-lows-then-not-t c =
    c.drop_to.auto.lows ∙ c.path_turn-t.auto.lows
    ∙ ap (λ (t : Table). length t.lows) c.loop-root.invariant.0

pub shape_of-highs-then-not-t : goal.shape_of-highs-then-not-t
shape_of-highs-then-not-t c =
    c.drop_to.auto.highs ∙ c.path_turn-t.auto.highs
    ∙ ap (λ (t : Table). length t.highs) c.loop-root.invariant.0

pub shape_of-heads-then-not-t : goal.shape_of-heads-then-not-t
shape_of-heads-then-not-t c =
    c.drop_to.auto.heads ∙ c.path_turn-t.auto.heads
    ∙ ap (λ (t : Table). length t.heads) c.loop-root.invariant.0

pub shape_of-links-then-not-t : goal.shape_of-links-then-not-t
shape_of-links-then-not-t c =
    c.drop_to.auto.links ∙ c.path_turn-t.auto.links
    ∙ ap (λ (t : Table). length t.links) c.loop-root.invariant.0

pub shape_of-memo-then-not-t : goal.shape_of-memo-then-not-t
shape_of-memo-then-not-t c =
    c.path_turn-t.auto.memo ∙ c.loop-root.invariant.3

pub shape_of-marks-then-not-t : goal.shape_of-marks-then-not-t
shape_of-marks-then-not-t c =
    c.path_turn-t.auto.marks ∙ ap length
    (c.loop-root.invariant.2 ∙ sym c.requires.fact.1)

pub shape_of-list-then-not-t : goal.shape_of-list-then-not-t
shape_of-list-then-not-t c =
    c.path_turn-t.auto.list ∙ c.loop-root.invariant.4

pub shape_of-words-then-not-t : goal.shape_of-words-then-not-t
shape_of-words-then-not-t c =
    c.path_turn-t.auto.words ∙ c.loop-root.invariant.5

pub returns-then-not-t : goal.returns-then-not-t
returns-then-not-t c =
    let c12 = c.before.before.before.before.before.before.before.before.before.before.before.before in
    let c24 = c12.before.before.before.before.before.before.before.before.before.before.before.before in
    let c36 = c24.before.before.before.before.before.before.before.before.before.before.before.before in
    let c48 = c36.before.before.before.before.before.before.before.before.before.before.before.before in
    let c60 = c48.before.before.before.before.before.before.before.before.before.before.before.before in
    record {
      fact_3 = (
        as_before c12.before,
        stops-here (before c60) c.args.members.now c.args.root.0 (good c60) c.requires.fact.0.inside c.requires.fact.4
            c.requires.fact.5 c.loop-root.passed c.loop-root.invariant.1 c.loop-root.literals c.loop-root.invariant.6 c.path_turn-t.result
            (table₁ c36.before) (said c36.before)
            (sym (not-not c.path_turn-t.result.shown) ∙ ap not c.if-not-t.true),
      );
      marks_after = unmarked-again
          c36.before;
    }

pub path_after-next-requires : goal.path_after-next-requires
path_after-next-requires c =
    let c12 = c.before.before.before.before.before.before.before.before.before.before.before.before in
    let c24 = c12.before.before.before.before.before.before.before.before.before.before.before.before in
    let c36 = c24.before.before.before.before.before.before.before.before.before.before.before.before in
    let c48 = c36.before.before.before.before.before.before.before.before.before.before.before.before in
    let c60 = c48.before.before.before.before.before.before.before.before.before.before.before.before in (
      good-readable (dropped c12.before)
          (subst Good (sym (as_before c12.before))
          (good c60)),
      c.requires.fact.0.inside,
    )

pub overflow_add-passed : goal.overflow_add-passed
overflow_add-passed c =
    let c12 = c.before.before.before.before.before.before.before.before.before.before.before.before in
    let c24 = c12.before.before.before.before.before.before.before.before.before.before.before.before in
    let c36 = c24.before.before.before.before.before.before.before.before.before.before.before.before in
    let a = c36.before.before.before in omega (arith, not_last c36.before.before.before, a.requires.fact.4)

pub loop-root-smaller : goal.loop-root-smaller
loop-root-smaller c =
    let c12 = c.before.before.before.before.before.before.before.before.before.before.before.before in
    let c24 = c12.before.before.before.before.before.before.before.before.before.before.before.before in
    let c36 = c24.before.before.before.before.before.before.before.before.before.before.before.before in
    omega (arith, not_last c36.before.before.before)

pub loop-root-preserved : goal.loop-root-preserved
unfolding nodes_of
loop-root-preserved c =
    let c12 = c.before.before.before.before.before.before.before.before.before.before.before.before in
    let c24 = c12.before.before.before.before.before.before.before.before.before.before.before.before in
    let c36 = c24.before.before.before.before.before.before.before.before.before.before.before.before in
    let c48 = c36.before.before.before.before.before.before.before.before.before.before.before.before in
    let c60 = c48.before.before.before.before.before.before.before.before.before.before.before.before in
    let z = sym (not-not c.path_turn-t.result.shown) ∙ ap not c.if-not-t.false in (
      as_before c12.before.before.before,
      goes_on (before c60.before.before) c.args.members.now c.args.root.0 (good c60.before.before) c.requires.fact.0.inside
          c.requires.fact.4 c.requires.fact.5
          c.loop-root.passed c.loop-root.invariant.1 c.loop-root.literals c.loop-root.invariant.6 c.path_turn-t.result
          (table₁ c36.before.before.before) (said c36.before.before.before) z,
      unmarked-again c36.before.before.before,
      c.path_turn-t.auto.memo ∙ c.loop-root.invariant.3,
      c.path_turn-t.auto.list ∙ c.loop-root.invariant.4,
      c.path_turn-t.auto.words ∙ c.loop-root.invariant.5,
      another (before c60.before.before) c.args.members.now c.args.root.0 (good c60.before.before) c.requires.fact.0.inside
          c.requires.fact.4 c.requires.fact.5
          c.loop-root.passed c.loop-root.invariant.1 c.loop-root.literals c.loop-root.invariant.6 c.path_turn-t.result
          (table₁ c36.before.before.before) (said c36.before.before.before) z c.path_after-next.result
          (c.path_after-next.ensures ∙ ap
          (λ (t : Table). after_from (diagram_at (nodes_of t) c.args.root.0) c.loop-root.literals.positive no_literals no_path)
          (as_before c12.before.before.before)),
    )
