-- `path_turns` judges the turns of all paths. The invariant: the table is as it was, what is to be shown is what is left to be shown, and
-- the words at hand are the next path's (Turning). Assumes nothing.
use mathlib.Core.Path.{◌≡◌, refl, sym, ap, ◌∙◌, subst}
use mathlib.Core.Bool.{Bool, true, false, not}
use Rattle.meaning.proofs.Booleans.{not-not}
use Prim.Native.Nat.{ℕ, ◌+◌, ◌-◌, ◌<◌}
use native.Mathlib.Omega.{arith}
use lib.ListN.{length}
use Rattle.meaning.specs.Rules.{Line}
use Rattle.words.specs.Sets.{no_literals}
use Rattle.table.specs.Nodes.{diagram_at}
use Rattle.table.specs.Indexed.{Table, table_of, nodes_of, Good}
use Rattle.table.proofs.Outcomes.{undone}
use Rattle.table.specs.Lists.{diagrams_of}
use Rattle.table.proofs.Extended.{extended-longer}
use Rattle.walks.proofs.Here.{good-readable}
use Rattle.supports.specs.Supports.{Supports}
use Rattle.conflict.specs.Marks.{unmarked}
use Rattle.judge.specs.Lines.{LineSays}
use Rattle.judge.proofs.Ready.{again-ready}
use Rattle.judge.proofs.Turning.{judged_as}
use Rattle.paths.specs.Paths.{path_line, path_count}
use Rattle.paths.specs.Walk.{after_from, no_path}
use Rattle.paths.proofs.Sequence.{count-is}
use Rattle.paths.specs.Rounds.{most_rounds}
use Rattle.path_lines.specs.Turns.{turn_by}
use Rattle.path_lines.proofs.Turning.{Turning, Next, turning-none, next-first, next-after, turns-done, turns-full, turns-end, turns-on}
use Rattle.path_lines.proofs.Turning.{added-fits, passed-fits}
use Rattle.path_lines.proofs.path_turns.Goals as goal

pub first_path-literals-requires : goal.first_path-literals-requires
first_path-literals-requires c =
    let before : Table =
    table_of c.args.vars.now c.args.lows.now c.args.highs.now c.args.heads.now c.args.links.now
    c.args.count in
    let good : Good before =
    c.requires.fact.0.ready.good in
    (good-readable before good, c.requires.fact.0.inside)

pub loop-more-init : goal.loop-more-init
unfolding nodes_of
loop-more-init c =
    let before : Table =
    table_of c.args.vars.now c.args.lows.now c.args.highs.now c.args.heads.now c.args.links.now
    c.args.count in
    let good : Good before =
    c.requires.fact.0.ready.good in (
      refl,
      turning-none before c.args.members.now c.args.root.0 good,
      c.requires.fact.1,
      refl,
      refl,
      refl,
      next-first before c.args.members.now c.args.root.0 good c.requires.fact.0.inside c.requires.fact.0.not-one
          c.first_path-literals.result c.first_path-literals.ensures,
    )

pub path_turn-t-requires : goal.path_turn-t-requires
path_turn-t-requires c =
    let before : Table =
    table_of c.args.vars.now c.args.lows.now c.args.highs.now c.args.heads.now c.args.links.now
    c.args.count in
    record {
      fact = (
        again-ready before (table_of c.loop-more.vars c.loop-more.lows c.loop-more.highs c.loop-more.heads c.loop-more.links c.args.count)
            c.args.members.now
            c.args.memo.now c.loop-more.memo c.loop-more.invariant.0 c.loop-more.invariant.3 c.requires.fact.0.ready,
        c.loop-more.invariant.2 ∙ sym (ap (λ (t : Table). unmarked (length t.vars)) c.loop-more.invariant.0),
        c.loop-more.invariant.4 ∙ c.requires.fact.2,
        c.requires.fact.3,
      );
      fact_2 = (
        c.requires.fact_2.0,
        subst (λ (t : Table). Supports (nodes_of t) c.args.members.now c.args.memberwords.now) (sym c.loop-more.invariant.0)
            c.requires.fact_2.1,
        c.loop-more.invariant.5 ∙ c.requires.fact_2.2,
      );
    }

pub shape_of-vars-then-t : goal.shape_of-vars-then-t
shape_of-vars-then-t c =
    c.path_turn-t.auto.vars ∙ ap (λ (t : Table). length t.vars) c.loop-more.invariant.0

pub shape_of-lows-then-t : goal.shape_of-lows-then-t
shape_of-lows-then-t c =
    c.path_turn-t.auto.lows ∙ ap (λ (t : Table). length t.lows) c.loop-more.invariant.0

pub shape_of-highs-then-t : goal.shape_of-highs-then-t
shape_of-highs-then-t c =
    c.path_turn-t.auto.highs ∙ ap (λ (t : Table). length t.highs) c.loop-more.invariant.0

pub shape_of-heads-then-t : goal.shape_of-heads-then-t
shape_of-heads-then-t c =
    c.path_turn-t.auto.heads ∙ ap (λ (t : Table). length t.heads) c.loop-more.invariant.0

pub shape_of-links-then-t : goal.shape_of-links-then-t
shape_of-links-then-t c =
    c.path_turn-t.auto.links ∙ ap (λ (t : Table). length t.links) c.loop-more.invariant.0

pub shape_of-memo-then-t : goal.shape_of-memo-then-t
shape_of-memo-then-t c =
    c.path_turn-t.auto.memo ∙ c.loop-more.invariant.3

pub shape_of-marks-then-t : goal.shape_of-marks-then-t
shape_of-marks-then-t c =
    c.path_turn-t.auto.marks ∙ ap length
    (c.loop-more.invariant.2 ∙ sym c.requires.fact.1)

pub shape_of-list-then-t : goal.shape_of-list-then-t
shape_of-list-then-t c =
    c.path_turn-t.auto.list ∙ c.loop-more.invariant.4

pub shape_of-words-then-t : goal.shape_of-words-then-t
shape_of-words-then-t c =
    c.path_turn-t.auto.words ∙ c.loop-more.invariant.5

pub returns-then-t : goal.returns-then-t
returns-then-t c =
    let before : Table =
    table_of c.args.vars.now c.args.lows.now c.args.highs.now c.args.heads.now c.args.links.now
    c.args.count in
    let good : Good before =
    c.requires.fact.0.ready.good in
    let line : Line =
    path_line 64 (diagrams_of (nodes_of before) c.args.members.now) (diagram_at (nodes_of before) c.args.root.0) in
    let table₁ : Table =
    table_of c.path_turn-t.new.vars c.path_turn-t.new.lows c.path_turn-t.new.highs c.path_turn-t.new.heads
    c.path_turn-t.new.links c.path_turn-t.result.count in
    let said : LineSays before (turn_by c.loop-more.literals (diagrams_of (nodes_of before) c.args.members.now)) 64 c.path_turn-t.result
    table₁ =
    subst (λ (t : Table). LineSays t (turn_by c.loop-more.literals (diagrams_of (nodes_of t) c.args.members.now)) 64
    c.path_turn-t.result table₁)
    c.loop-more.invariant.0 c.path_turn-t.ensures.fact_3 in
    let here : Next before c.args.members.now c.args.root.0 c.loop-more.passed true c.loop-more.literals =
    subst (λ (b : Bool). Next before c.args.members.now c.args.root.0 c.loop-more.passed b
    c.loop-more.literals) c.loop-more-test.true c.loop-more.invariant.6 in
    let unmarked-again : c.path_turn-t.new.marks ≡ unmarked (length c.args.vars.now) =
    c.path_turn-t.ensures.marks_after ∙ ap (λ (t : Table). unmarked (length t.vars)) c.loop-more.invariant.0 in
    record {
      fact_3 = subst (λ (m : ℕ). LineSays before line most_rounds (judged_as true false 0 c.path_turn-t.result.count m) table₁)
          (sym c.greater-peak.ensures)
          (turns-full before c.args.members.now c.args.root.0 good c.requires.fact.0.inside c.loop-more.passed c.loop-more.rounds
          c.loop-more.peak c.loop-more.invariant.1 c.loop-more.literals here c.path_turn-t.result table₁ said c.requires.fact.4 c.if-t.true
          c.path_turn-t.result.count);
      marks_after = unmarked-again;
    }

pub drop_to-requires : goal.drop_to-requires
drop_to-requires c =
    let before : Table =
    table_of c.args.vars.now c.args.lows.now c.args.highs.now c.args.heads.now c.args.links.now
    c.args.count in
    let good : Good before =
    c.requires.fact.0.ready.good in
    let table₁ : Table =
    table_of c.path_turn-t.new.vars c.path_turn-t.new.lows c.path_turn-t.new.highs c.path_turn-t.new.heads
    c.path_turn-t.new.links c.path_turn-t.result.count in
    let said : LineSays before (turn_by c.loop-more.literals (diagrams_of (nodes_of before) c.args.members.now)) 64 c.path_turn-t.result
    table₁ =
    subst (λ (t : Table). LineSays t (turn_by c.loop-more.literals (diagrams_of (nodes_of t) c.args.members.now)) 64
    c.path_turn-t.result table₁)
    c.loop-more.invariant.0 c.path_turn-t.ensures.fact_3 in
    (said.extended.good, omega (arith, good.least, said.extended.more), omega (arith, said.extended.more))

pub overflow_add-rounds : goal.overflow_add-rounds
overflow_add-rounds c =
    let before : Table =
    table_of c.args.vars.now c.args.lows.now c.args.highs.now c.args.heads.now c.args.links.now
    c.args.count in
    let good : Good before =
    c.requires.fact.0.ready.good in
    let table₁ : Table =
    table_of c.path_turn-t.new.vars c.path_turn-t.new.lows c.path_turn-t.new.highs c.path_turn-t.new.heads
    c.path_turn-t.new.links c.path_turn-t.result.count in
    let said : LineSays before (turn_by c.loop-more.literals (diagrams_of (nodes_of before) c.args.members.now)) 64 c.path_turn-t.result
    table₁ =
    subst (λ (t : Table). LineSays t (turn_by c.loop-more.literals (diagrams_of (nodes_of t) c.args.members.now)) 64
    c.path_turn-t.result table₁)
    c.loop-more.invariant.0 c.path_turn-t.ensures.fact_3 in
    let here : Next before c.args.members.now c.args.root.0 c.loop-more.passed true c.loop-more.literals =
    subst (λ (b : Bool). Next before c.args.members.now c.args.root.0 c.loop-more.passed b
    c.loop-more.literals) c.loop-more-test.true c.loop-more.invariant.6 in
    omega (
      arith,
      added-fits before c.args.members.now c.args.root.0 good c.requires.fact.0.inside c.loop-more.passed c.loop-more.rounds
          c.loop-more.peak c.loop-more.invariant.1 c.loop-more.literals here c.path_turn-t.result table₁ said c.requires.fact.4,
    )

pub shape_of-vars-then-not-t : goal.shape_of-vars-then-not-t
shape_of-vars-then-not-t c =
    c.drop_to.auto.vars ∙ c.path_turn-t.auto.vars
    ∙ ap (λ (t : Table). length t.vars) c.loop-more.invariant.0

pub shape_of-lows-then-not-t : goal.shape_of-lows-then-not-t
shape_of-lows-then-not-t c =
    c.drop_to.auto.lows ∙ c.path_turn-t.auto.lows
    ∙ ap (λ (t : Table). length t.lows) c.loop-more.invariant.0

pub shape_of-highs-then-not-t : goal.shape_of-highs-then-not-t
shape_of-highs-then-not-t c =
    c.drop_to.auto.highs ∙ c.path_turn-t.auto.highs
    ∙ ap (λ (t : Table). length t.highs) c.loop-more.invariant.0

pub shape_of-heads-then-not-t : goal.shape_of-heads-then-not-t
shape_of-heads-then-not-t c =
    c.drop_to.auto.heads ∙ c.path_turn-t.auto.heads
    ∙ ap (λ (t : Table). length t.heads) c.loop-more.invariant.0

pub shape_of-links-then-not-t : goal.shape_of-links-then-not-t
shape_of-links-then-not-t c =
    c.drop_to.auto.links ∙ c.path_turn-t.auto.links
    ∙ ap (λ (t : Table). length t.links) c.loop-more.invariant.0

pub shape_of-memo-then-not-t : goal.shape_of-memo-then-not-t
shape_of-memo-then-not-t c =
    c.path_turn-t.auto.memo ∙ c.loop-more.invariant.3

pub shape_of-marks-then-not-t : goal.shape_of-marks-then-not-t
shape_of-marks-then-not-t c =
    c.path_turn-t.auto.marks ∙ ap length
    (c.loop-more.invariant.2 ∙ sym c.requires.fact.1)

pub shape_of-list-then-not-t : goal.shape_of-list-then-not-t
shape_of-list-then-not-t c =
    c.path_turn-t.auto.list ∙ c.loop-more.invariant.4

pub shape_of-words-then-not-t : goal.shape_of-words-then-not-t
shape_of-words-then-not-t c =
    c.path_turn-t.auto.words ∙ c.loop-more.invariant.5

pub returns-then-not-t : goal.returns-then-not-t
returns-then-not-t c =
    let before : Table =
    table_of c.args.vars.now c.args.lows.now c.args.highs.now c.args.heads.now c.args.links.now
    c.args.count in
    let good : Good before =
    c.requires.fact.0.ready.good in
    let line : Line =
    path_line 64 (diagrams_of (nodes_of before) c.args.members.now) (diagram_at (nodes_of before) c.args.root.0) in
    let table₁ : Table =
    table_of c.path_turn-t.new.vars c.path_turn-t.new.lows c.path_turn-t.new.highs c.path_turn-t.new.heads
    c.path_turn-t.new.links c.path_turn-t.result.count in
    let said : LineSays before (turn_by c.loop-more.literals (diagrams_of (nodes_of before) c.args.members.now)) 64 c.path_turn-t.result
    table₁ =
    subst (λ (t : Table). LineSays t (turn_by c.loop-more.literals (diagrams_of (nodes_of t) c.args.members.now)) 64
    c.path_turn-t.result table₁)
    c.loop-more.invariant.0 c.path_turn-t.ensures.fact_3 in
    let here : Next before c.args.members.now c.args.root.0 c.loop-more.passed true c.loop-more.literals =
    subst (λ (b : Bool). Next before c.args.members.now c.args.root.0 c.loop-more.passed b
    c.loop-more.literals) c.loop-more-test.true c.loop-more.invariant.6 in
    let unmarked-again : c.path_turn-t.new.marks ≡ unmarked (length c.args.vars.now) =
    c.path_turn-t.ensures.marks_after ∙ ap (λ (t : Table). unmarked (length t.vars)) c.loop-more.invariant.0 in
    let dropped : Table =
    table_of c.drop_to.new.vars c.drop_to.new.lows c.drop_to.new.highs c.drop_to.new.heads
    c.drop_to.new.links c.args.count in
    let as_before : dropped ≡ before =
    c.drop_to.ensures ∙ undone before good table₁
    (extended-longer before table₁ good said.extended) in
    record {
      fact_3 = subst (λ (t : Table). LineSays before line most_rounds
          (judged_as false false (c.loop-more.rounds + c.path_turn-t.result.rounds) c.args.count c.greater-peak.result) t)
          (sym as_before)
          (subst (λ (m : ℕ). LineSays before line most_rounds
          (judged_as false false (c.loop-more.rounds + c.path_turn-t.result.rounds) c.args.count m) before)
          (sym c.greater-peak.ensures)
          (turns-end before c.args.members.now c.args.root.0 good c.requires.fact.0.inside c.loop-more.passed c.loop-more.rounds
          c.loop-more.peak
          c.loop-more.invariant.1 c.loop-more.literals here c.path_turn-t.result table₁ said c.requires.fact.4 c.if-t.false
          (sym (not-not c.path_turn-t.result.shown) ∙ ap not c.if-not-t.true)));
      marks_after = unmarked-again;
    }

pub path_after-next-requires : goal.path_after-next-requires
path_after-next-requires c =
    let before : Table =
    table_of c.args.vars.now c.args.lows.now c.args.highs.now c.args.heads.now c.args.links.now
    c.args.count in
    let good : Good before =
    c.requires.fact.0.ready.good in
    let table₁ : Table =
    table_of c.path_turn-t.new.vars c.path_turn-t.new.lows c.path_turn-t.new.highs c.path_turn-t.new.heads
    c.path_turn-t.new.links c.path_turn-t.result.count in
    let said : LineSays before (turn_by c.loop-more.literals (diagrams_of (nodes_of before) c.args.members.now)) 64 c.path_turn-t.result
    table₁ =
    subst (λ (t : Table). LineSays t (turn_by c.loop-more.literals (diagrams_of (nodes_of t) c.args.members.now)) 64
    c.path_turn-t.result table₁)
    c.loop-more.invariant.0 c.path_turn-t.ensures.fact_3 in
    let dropped : Table =
    table_of c.drop_to.new.vars c.drop_to.new.lows c.drop_to.new.highs c.drop_to.new.heads
    c.drop_to.new.links c.args.count in
    let as_before : dropped ≡ before =
    c.drop_to.ensures ∙ undone before good table₁
    (extended-longer before table₁ good said.extended) in
    (good-readable dropped (subst Good (sym as_before) good), c.requires.fact.0.inside)

pub overflow_add-passed : goal.overflow_add-passed
overflow_add-passed c =
    let before : Table =
    table_of c.args.vars.now c.args.lows.now c.args.highs.now c.args.heads.now c.args.links.now
    c.args.count in
    let good : Good before =
    c.requires.fact.0.ready.good in
    let table₁ : Table =
    table_of c.path_turn-t.new.vars c.path_turn-t.new.lows c.path_turn-t.new.highs c.path_turn-t.new.heads
    c.path_turn-t.new.links c.path_turn-t.result.count in
    let said : LineSays before (turn_by c.loop-more.literals (diagrams_of (nodes_of before) c.args.members.now)) 64 c.path_turn-t.result
    table₁ =
    subst (λ (t : Table). LineSays t (turn_by c.loop-more.literals (diagrams_of (nodes_of t) c.args.members.now)) 64
    c.path_turn-t.result table₁)
    c.loop-more.invariant.0 c.path_turn-t.ensures.fact_3 in
    let here : Next before c.args.members.now c.args.root.0 c.loop-more.passed true c.loop-more.literals =
    subst (λ (b : Bool). Next before c.args.members.now c.args.root.0 c.loop-more.passed b
    c.loop-more.literals) c.loop-more-test.true c.loop-more.invariant.6 in
    let few-passed : c.loop-more.passed < 4096 =
    passed-fits before c.args.members.now c.args.root.0 good c.requires.fact.0.inside
    c.loop-more.passed c.loop-more.rounds c.loop-more.peak c.loop-more.invariant.1 c.loop-more.literals here
    c.path_turn-t.result table₁ said c.requires.fact.4 in
    omega (arith, few-passed)

pub loop-more-smaller : goal.loop-more-smaller
loop-more-smaller c =
    let before : Table =
    table_of c.args.vars.now c.args.lows.now c.args.highs.now c.args.heads.now c.args.links.now
    c.args.count in
    let here : Next before c.args.members.now c.args.root.0 c.loop-more.passed true c.loop-more.literals =
    subst (λ (b : Bool). Next before c.args.members.now c.args.root.0 c.loop-more.passed b
    c.loop-more.literals) c.loop-more-test.true c.loop-more.invariant.6 in
    let not_last : c.loop-more.passed < path_count (diagram_at (nodes_of before) c.args.root.0) =
    omega (arith, here.inside refl, count-is (diagram_at (nodes_of before) c.args.root.0)) in
    omega (arith, not_last)

pub loop-more-preserved : goal.loop-more-preserved
unfolding nodes_of
loop-more-preserved c =
    let before : Table =
    table_of c.args.vars.now c.args.lows.now c.args.highs.now c.args.heads.now c.args.links.now
    c.args.count in
    let good : Good before =
    c.requires.fact.0.ready.good in
    let table₁ : Table =
    table_of c.path_turn-t.new.vars c.path_turn-t.new.lows c.path_turn-t.new.highs c.path_turn-t.new.heads
    c.path_turn-t.new.links c.path_turn-t.result.count in
    let said : LineSays before (turn_by c.loop-more.literals (diagrams_of (nodes_of before) c.args.members.now)) 64 c.path_turn-t.result
    table₁ =
    subst (λ (t : Table). LineSays t (turn_by c.loop-more.literals (diagrams_of (nodes_of t) c.args.members.now)) 64
    c.path_turn-t.result table₁)
    c.loop-more.invariant.0 c.path_turn-t.ensures.fact_3 in
    let here : Next before c.args.members.now c.args.root.0 c.loop-more.passed true c.loop-more.literals =
    subst (λ (b : Bool). Next before c.args.members.now c.args.root.0 c.loop-more.passed b
    c.loop-more.literals) c.loop-more-test.true c.loop-more.invariant.6 in
    let unmarked-again : c.path_turn-t.new.marks ≡ unmarked (length c.args.vars.now) =
    c.path_turn-t.ensures.marks_after ∙ ap (λ (t : Table). unmarked (length t.vars)) c.loop-more.invariant.0 in
    let dropped : Table =
    table_of c.drop_to.new.vars c.drop_to.new.lows c.drop_to.new.highs c.drop_to.new.heads
    c.drop_to.new.links c.args.count in
    let as_before : dropped ≡ before =
    c.drop_to.ensures ∙ undone before good table₁
    (extended-longer before table₁ good said.extended) in (
      as_before,
      subst (Turning before c.args.members.now c.args.root.0 (c.loop-more.passed + 1) (c.loop-more.rounds + c.path_turn-t.result.rounds))
          (sym c.greater-peak.ensures)
          (turns-on before c.args.members.now c.args.root.0 good c.requires.fact.0.inside c.loop-more.passed c.loop-more.rounds
          c.loop-more.peak
          c.loop-more.invariant.1 c.loop-more.literals here c.path_turn-t.result table₁ said c.requires.fact.4
          c.if-t.false
          (sym (not-not c.path_turn-t.result.shown) ∙ ap not c.if-not-t.false)),
      unmarked-again,
      c.path_turn-t.auto.memo ∙ c.loop-more.invariant.3,
      c.path_turn-t.auto.list ∙ c.loop-more.invariant.4,
      c.path_turn-t.auto.words ∙ c.loop-more.invariant.5,
      next-after before c.args.members.now c.args.root.0 good c.requires.fact.0.inside c.loop-more.passed c.loop-more.literals here
          c.path_after-next.result
          (c.path_after-next.ensures ∙ ap
          (λ (t : Table). after_from (diagram_at (nodes_of t) c.args.root.0) c.loop-more.literals.positive no_literals no_path)
          as_before),
    )

pub shape_of-vars : goal.shape_of-vars
shape_of-vars c =
    ap (λ (t : Table). length t.vars) c.loop-more.invariant.0

pub shape_of-lows : goal.shape_of-lows
shape_of-lows c =
    ap (λ (t : Table). length t.lows) c.loop-more.invariant.0

pub shape_of-highs : goal.shape_of-highs
shape_of-highs c =
    ap (λ (t : Table). length t.highs) c.loop-more.invariant.0

pub shape_of-heads : goal.shape_of-heads
shape_of-heads c =
    ap (λ (t : Table). length t.heads) c.loop-more.invariant.0

pub shape_of-links : goal.shape_of-links
shape_of-links c =
    ap (λ (t : Table). length t.links) c.loop-more.invariant.0

pub shape_of-memo : goal.shape_of-memo
shape_of-memo c =
    c.loop-more.invariant.3

pub shape_of-marks : goal.shape_of-marks
shape_of-marks c =
    ap length (c.loop-more.invariant.2 ∙ sym c.requires.fact.1)

pub shape_of-list : goal.shape_of-list
shape_of-list c =
    c.loop-more.invariant.4

pub shape_of-words : goal.shape_of-words
shape_of-words c =
    c.loop-more.invariant.5

pub returns : goal.returns
returns c =
    let before : Table =
    table_of c.args.vars.now c.args.lows.now c.args.highs.now c.args.heads.now c.args.links.now
    c.args.count in
    let good : Good before =
    c.requires.fact.0.ready.good in
    let line : Line =
    path_line 64 (diagrams_of (nodes_of before) c.args.members.now) (diagram_at (nodes_of before) c.args.root.0) in
    record {
      fact_3 = subst (λ (t : Table). LineSays before line most_rounds
          (judged_as false true c.loop-more.rounds c.args.count c.loop-more.peak) t)
          (sym c.loop-more.invariant.0)
          (turns-done before c.args.members.now c.args.root.0 good c.requires.fact.0.inside c.loop-more.passed c.loop-more.rounds
          c.loop-more.peak c.loop-more.invariant.1 ((subst (λ (b : Bool). Next before c.args.members.now c.args.root.0 c.loop-more.passed b
          c.loop-more.literals) c.loop-more-test.false c.loop-more.invariant.6).past refl) c.requires.fact.4);
      marks_after = c.loop-more.invariant.2;
    }
