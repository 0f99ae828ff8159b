-- `turns` judges the turns of all members. The invariant: the table is as it was, and what is to be shown is what is left to be shown
-- (Turning). Assumes nothing.
use mathlib.Core.Path.{◌≡◌, refl, sym, ap, ◌∙◌, subst}
use mathlib.Core.Bool.{true, false, not}
use mathlib.Core.List.{List, [], ◌∷◌}
use Rattle.meaning.proofs.Booleans.{not-not}
use Prim.Native.Nat.{ℕ, ◌+◌, ◌-◌, ◌*◌, ◌<◌, max}
use native.Mathlib.Omega.{arith}
use lib.ListN.{length, get_or, length-replicate}
use Rattle.meaning.specs.Rules.{Line, pr_turns}
use Rattle.meaning.specs.Words.{in_word}
use Rattle.table.specs.Nodes.{diagram_at}
use Rattle.table.specs.Indexed.{Table, table_of, nodes_of, Good}
use Rattle.table.proofs.Outcomes.{undone}
use Rattle.table.specs.Lists.{diagrams_of}
use Rattle.conflict.specs.Marks.{unmarked}
use Rattle.table.proofs.Extended.{extended-longer}
use Rattle.quiet.proofs.Known.{looked-again}
use Rattle.judge.specs.Lines.{LineSays}
use Rattle.judge.proofs.Worded.{member-worded, worded-again}
use Rattle.judge.proofs.Ready.{again-ready}
use Rattle.judge.proofs.Turning.{judged_as, Turning, turning-none, turns-done, turns-full, turns-end, turns-on}
use Rattle.turn_memo.specs.Turns.{Passes}
use Rattle.turn_memo.proofs.Known.{Known, known-none, known-stored, passes-least}
use Rattle.pr_lines.proofs.Equal.{Turned, turned-higher, turned-judged, turning-passed}
use Rattle.pr_lines.proofs.turns.Goals as goal

pub loop-i-init : goal.loop-i-init
loop-i-init c =
    let before : Table =
    table_of c.args.vars.now c.args.lows.now c.args.highs.now c.args.heads.now c.args.links.now
    c.args.count in
    let good : Good before =
    c.requires.fact.0.good in (
      refl,
      turning-none before c.args.first.now c.args.members.now
          c.args.witness.positive c.args.witness.negative good,
      c.requires.fact.1,
      refl,
      refl,
      refl,
      known-none 4096 (Turned before c.args.first.now c.args.witness.positive c.args.witness.negative c.args.count),
      length-replicate {A = ℕ} 4096 0,
    )

pub bounds-memberwords-i : goal.bounds-memberwords-i
bounds-memberwords-i c =
    omega (arith, c.loop-i-test.true, c.requires.fact_2.0)

pub turn_known-t-requires : goal.turn_known-t-requires
turn_known-t-requires c =
    let before : Table =
    table_of c.args.vars.now c.args.lows.now c.args.highs.now c.args.heads.now c.args.links.now
    c.args.count in
    let more : c.loop-i.i < length c.args.members.now =
    c.loop-i-test.true in
    let more = c.loop-i-test.true in record {
      fact = (
        again-ready before (table_of c.loop-i.vars c.loop-i.lows c.loop-i.highs c.loop-i.heads c.loop-i.links c.args.count) c.args.first.now
            c.args.memo.now c.loop-i.memo c.loop-i.invariant.0 c.loop-i.invariant.3 c.requires.fact.0,
        c.loop-i.invariant.2 ∙ sym (ap (λ (t : Table). unmarked (length t.vars)) c.loop-i.invariant.0),
        c.loop-i.invariant.4 ∙ c.requires.fact.2,
        c.requires.fact.3 c.loop-i.i more,
        c.requires.fact.5,
      );
      fact_2 = (
        worded-again before (table_of c.loop-i.vars c.loop-i.lows c.loop-i.highs c.loop-i.heads c.loop-i.links c.args.count)
            c.args.first.now
            c.args.firstwords.now (get_or c.args.members.now c.loop-i.i 0) (get_or c.args.memberwords.now c.loop-i.i 0) c.loop-i.invariant.0
            (member-worded before c.args.members.now c.args.memberwords.now c.args.first.now c.args.firstwords.now
            c.loop-i.i more c.requires.fact_2.1 c.requires.fact_2.2 c.requires.fact_2.3),
        c.loop-i.invariant.5 ∙ c.requires.fact_2.4,
        looked-again before (table_of c.loop-i.vars c.loop-i.lows c.loop-i.highs c.loop-i.heads c.loop-i.links c.args.count)
            c.loop-i.invariant.0
            c.args.first.now c.args.looked c.requires.fact_2.5,
      );
    }

pub shape_of-vars-then-t : goal.shape_of-vars-then-t
shape_of-vars-then-t c =
    c.turn_known-t.auto.vars ∙ ap (λ (t : Table). length t.vars) c.loop-i.invariant.0

pub shape_of-lows-then-t : goal.shape_of-lows-then-t
shape_of-lows-then-t c =
    c.turn_known-t.auto.lows ∙ ap (λ (t : Table). length t.lows) c.loop-i.invariant.0

pub shape_of-highs-then-t : goal.shape_of-highs-then-t
shape_of-highs-then-t c =
    c.turn_known-t.auto.highs ∙ ap (λ (t : Table). length t.highs) c.loop-i.invariant.0

pub shape_of-heads-then-t : goal.shape_of-heads-then-t
shape_of-heads-then-t c =
    c.turn_known-t.auto.heads ∙ ap (λ (t : Table). length t.heads) c.loop-i.invariant.0

pub shape_of-links-then-t : goal.shape_of-links-then-t
shape_of-links-then-t c =
    c.turn_known-t.auto.links ∙ ap (λ (t : Table). length t.links) c.loop-i.invariant.0

pub shape_of-memo-then-t : goal.shape_of-memo-then-t
shape_of-memo-then-t c =
    c.turn_known-t.auto.memo ∙ c.loop-i.invariant.3

pub shape_of-marks-then-t : goal.shape_of-marks-then-t
shape_of-marks-then-t c =
    c.turn_known-t.auto.marks ∙ ap length
    (c.loop-i.invariant.2 ∙ sym c.requires.fact.1)

pub shape_of-second-then-t : goal.shape_of-second-then-t
shape_of-second-then-t c =
    c.turn_known-t.auto.second ∙ c.loop-i.invariant.4

pub shape_of-secondwords-then-t : goal.shape_of-secondwords-then-t
shape_of-secondwords-then-t c =
    c.turn_known-t.auto.secondwords ∙ c.loop-i.invariant.5

pub returns-then-t : goal.returns-then-t
returns-then-t c =
    let before : Table =
    table_of c.args.vars.now c.args.lows.now c.args.highs.now c.args.heads.now c.args.links.now
    c.args.count in
    let good : Good before =
    c.requires.fact.0.good in
    let line : List ℕ → Line =
    λ ks. pr_turns 64 (in_word c.args.witness.positive) (in_word c.args.witness.negative)
    (diagrams_of (nodes_of before) c.args.first.now) (diagrams_of (nodes_of before) ks) in
    let table₁ : Table =
    table_of c.turn_known-t.new.vars c.turn_known-t.new.lows c.turn_known-t.new.highs c.turn_known-t.new.heads
    c.turn_known-t.new.links c.turn_known-t.result.count in
    let member : ℕ =
    get_or c.args.members.now c.loop-i.i 0 in
    let said : LineSays before (line (member ∷ [])) 64 c.turn_known-t.result table₁ =
    subst (λ (t : Table). LineSays t (pr_turns 64 (in_word c.args.witness.positive) (in_word c.args.witness.negative)
    (diagrams_of (nodes_of t) c.args.first.now) (diagram_at (nodes_of t) member ∷ [])) 64 c.turn_known-t.result table₁)
    c.loop-i.invariant.0 c.turn_known-t.ensures.fact_3 in
    let more : c.loop-i.i < length c.args.members.now =
    c.loop-i-test.true in
    let unmarked-again : c.turn_known-t.new.marks ≡ unmarked (length c.args.vars.now) =
    c.turn_known-t.ensures.marks_after ∙ ap (λ (t : Table). unmarked (length t.vars)) c.loop-i.invariant.0 in
    record {
      fact_3 = subst (λ (m : ℕ). LineSays before (line c.args.members.now) (64 * length c.args.members.now)
          (judged_as true false 0 c.turn_known-t.result.count m) table₁) (sym c.greater-peak.ensures)
          (turns-full before c.args.first.now c.args.members.now c.args.witness.positive c.args.witness.negative
          good c.loop-i.i c.loop-i.rounds c.loop-i.peak c.loop-i.invariant.1 more c.turn_known-t.result table₁ said c.if-t.true
          c.turn_known-t.result.count);
      marks_after = unmarked-again;
    }

pub drop_to-requires : goal.drop_to-requires
drop_to-requires c =
    let before : Table =
    table_of c.args.vars.now c.args.lows.now c.args.highs.now c.args.heads.now c.args.links.now
    c.args.count in
    let good : Good before =
    c.requires.fact.0.good in
    let line : List ℕ → Line =
    λ ks. pr_turns 64 (in_word c.args.witness.positive) (in_word c.args.witness.negative)
    (diagrams_of (nodes_of before) c.args.first.now) (diagrams_of (nodes_of before) ks) in
    let table₁ : Table =
    table_of c.turn_known-t.new.vars c.turn_known-t.new.lows c.turn_known-t.new.highs c.turn_known-t.new.heads
    c.turn_known-t.new.links c.turn_known-t.result.count in
    let member : ℕ =
    get_or c.args.members.now c.loop-i.i 0 in
    let said : LineSays before (line (member ∷ [])) 64 c.turn_known-t.result table₁ =
    subst (λ (t : Table). LineSays t (pr_turns 64 (in_word c.args.witness.positive) (in_word c.args.witness.negative)
    (diagrams_of (nodes_of t) c.args.first.now) (diagram_at (nodes_of t) member ∷ [])) 64 c.turn_known-t.result table₁)
    c.loop-i.invariant.0 c.turn_known-t.ensures.fact_3 in
    (said.extended.good, omega (arith, good.least, said.extended.more), omega (arith, said.extended.more))

pub overflow_add-rounds : goal.overflow_add-rounds
overflow_add-rounds c =
    let before : Table =
    table_of c.args.vars.now c.args.lows.now c.args.highs.now c.args.heads.now c.args.links.now
    c.args.count in
    let line : List ℕ → Line =
    λ ks. pr_turns 64 (in_word c.args.witness.positive) (in_word c.args.witness.negative)
    (diagrams_of (nodes_of before) c.args.first.now) (diagrams_of (nodes_of before) ks) in
    let table₁ : Table =
    table_of c.turn_known-t.new.vars c.turn_known-t.new.lows c.turn_known-t.new.highs c.turn_known-t.new.heads
    c.turn_known-t.new.links c.turn_known-t.result.count in
    let member : ℕ =
    get_or c.args.members.now c.loop-i.i 0 in
    let said : LineSays before (line (member ∷ [])) 64 c.turn_known-t.result table₁ =
    subst (λ (t : Table). LineSays t (pr_turns 64 (in_word c.args.witness.positive) (in_word c.args.witness.negative)
    (diagrams_of (nodes_of t) c.args.first.now) (diagram_at (nodes_of t) member ∷ [])) 64 c.turn_known-t.result table₁)
    c.loop-i.invariant.0 c.turn_known-t.ensures.fact_3 in
    let more : c.loop-i.i < length c.args.members.now =
    c.loop-i-test.true in
    omega (arith, said.most, c.loop-i.invariant.1.most, more, c.requires.fact.4)

pub shape_of-vars-then-not-t : goal.shape_of-vars-then-not-t
shape_of-vars-then-not-t c =
    c.drop_to.auto.vars ∙ c.turn_known-t.auto.vars
    ∙ ap (λ (t : Table). length t.vars) c.loop-i.invariant.0

pub shape_of-lows-then-not-t : goal.shape_of-lows-then-not-t
shape_of-lows-then-not-t c =
    c.drop_to.auto.lows ∙ c.turn_known-t.auto.lows
    ∙ ap (λ (t : Table). length t.lows) c.loop-i.invariant.0

pub shape_of-highs-then-not-t : goal.shape_of-highs-then-not-t
shape_of-highs-then-not-t c =
    c.drop_to.auto.highs ∙ c.turn_known-t.auto.highs
    ∙ ap (λ (t : Table). length t.highs) c.loop-i.invariant.0

pub shape_of-heads-then-not-t : goal.shape_of-heads-then-not-t
shape_of-heads-then-not-t c =
    c.drop_to.auto.heads ∙ c.turn_known-t.auto.heads
    ∙ ap (λ (t : Table). length t.heads) c.loop-i.invariant.0

pub shape_of-links-then-not-t : goal.shape_of-links-then-not-t
shape_of-links-then-not-t c =
    c.drop_to.auto.links ∙ c.turn_known-t.auto.links
    ∙ ap (λ (t : Table). length t.links) c.loop-i.invariant.0

pub shape_of-memo-then-not-t : goal.shape_of-memo-then-not-t
shape_of-memo-then-not-t c =
    c.turn_known-t.auto.memo ∙ c.loop-i.invariant.3

pub shape_of-marks-then-not-t : goal.shape_of-marks-then-not-t
shape_of-marks-then-not-t c =
    c.turn_known-t.auto.marks ∙ ap length
    (c.loop-i.invariant.2 ∙ sym c.requires.fact.1)

pub shape_of-second-then-not-t : goal.shape_of-second-then-not-t
shape_of-second-then-not-t c =
    c.turn_known-t.auto.second ∙ c.loop-i.invariant.4

pub shape_of-secondwords-then-not-t : goal.shape_of-secondwords-then-not-t
shape_of-secondwords-then-not-t c =
    c.turn_known-t.auto.secondwords ∙ c.loop-i.invariant.5

pub returns-then-not-t : goal.returns-then-not-t
returns-then-not-t c =
    let before : Table =
    table_of c.args.vars.now c.args.lows.now c.args.highs.now c.args.heads.now c.args.links.now
    c.args.count in
    let good : Good before =
    c.requires.fact.0.good in
    let line : List ℕ → Line =
    λ ks. pr_turns 64 (in_word c.args.witness.positive) (in_word c.args.witness.negative)
    (diagrams_of (nodes_of before) c.args.first.now) (diagrams_of (nodes_of before) ks) in
    let table₁ : Table =
    table_of c.turn_known-t.new.vars c.turn_known-t.new.lows c.turn_known-t.new.highs c.turn_known-t.new.heads
    c.turn_known-t.new.links c.turn_known-t.result.count in
    let member : ℕ =
    get_or c.args.members.now c.loop-i.i 0 in
    let said : LineSays before (line (member ∷ [])) 64 c.turn_known-t.result table₁ =
    subst (λ (t : Table). LineSays t (pr_turns 64 (in_word c.args.witness.positive) (in_word c.args.witness.negative)
    (diagrams_of (nodes_of t) c.args.first.now) (diagram_at (nodes_of t) member ∷ [])) 64 c.turn_known-t.result table₁)
    c.loop-i.invariant.0 c.turn_known-t.ensures.fact_3 in
    let more : c.loop-i.i < length c.args.members.now =
    c.loop-i-test.true in
    let unmarked-again : c.turn_known-t.new.marks ≡ unmarked (length c.args.vars.now) =
    c.turn_known-t.ensures.marks_after ∙ ap (λ (t : Table). unmarked (length t.vars)) c.loop-i.invariant.0 in
    let as_before : table_of c.drop_to.new.vars c.drop_to.new.lows c.drop_to.new.highs c.drop_to.new.heads c.drop_to.new.links c.args.count
    ≡ before =
    c.drop_to.ensures ∙ undone before good table₁
    (extended-longer before table₁ good said.extended) in
    record {
      fact_3 = subst (λ (t : Table). LineSays before (line c.args.members.now) (64 * length c.args.members.now)
          (judged_as false false (c.loop-i.rounds + c.turn_known-t.result.rounds) c.args.count c.greater-peak.result) t)
          (sym as_before)
          (subst (λ (m : ℕ). LineSays before (line c.args.members.now) (64 * length c.args.members.now)
          (judged_as false false (c.loop-i.rounds + c.turn_known-t.result.rounds) c.args.count m) before)
          (sym c.greater-peak.ensures)
          (turns-end before c.args.first.now c.args.members.now c.args.witness.positive c.args.witness.negative
          good c.loop-i.i c.loop-i.rounds c.loop-i.peak c.loop-i.invariant.1 more c.turn_known-t.result table₁ said
          c.if-t.false (sym (not-not c.turn_known-t.result.shown) ∙ ap not c.if-not-t.true)));
      marks_after = unmarked-again;
    }

pub slice_bounds-store-end : goal.slice_bounds-store-end
slice_bounds-store-end c =
    sym c.loop-i.invariant.7

pub store-requires : goal.store-requires
store-requires c =
    let before : Table =
    table_of c.args.vars.now c.args.lows.now c.args.highs.now c.args.heads.now c.args.links.now
    c.args.count in
    let line : List ℕ → Line =
    λ ks. pr_turns 64 (in_word c.args.witness.positive) (in_word c.args.witness.negative)
    (diagrams_of (nodes_of before) c.args.first.now) (diagrams_of (nodes_of before) ks) in
    let table₁ : Table =
    table_of c.turn_known-t.new.vars c.turn_known-t.new.lows c.turn_known-t.new.highs c.turn_known-t.new.heads
    c.turn_known-t.new.links c.turn_known-t.result.count in
    let member : ℕ =
    get_or c.args.members.now c.loop-i.i 0 in
    let said : LineSays before (line (member ∷ [])) 64 c.turn_known-t.result table₁ =
    subst (λ (t : Table). LineSays t (pr_turns 64 (in_word c.args.witness.positive) (in_word c.args.witness.negative)
    (diagrams_of (nodes_of t) c.args.first.now) (diagram_at (nodes_of t) member ∷ [])) 64 c.turn_known-t.result table₁)
    c.loop-i.invariant.0 c.turn_known-t.ensures.fact_3 in
    (c.loop-i.invariant.7, said.most)

pub slice_bounds-pass_stored-end : goal.slice_bounds-pass_stored-end
slice_bounds-pass_stored-end c =
    sym (c.store.auto.turns ∙ c.loop-i.invariant.7)

pub overflow_add-i : goal.overflow_add-i
overflow_add-i c =
    let more : c.loop-i.i < length c.args.members.now =
    c.loop-i-test.true in
    omega (arith, more, c.requires.fact.4)

pub pass_stored-next-requires : goal.pass_stored-next-requires
pass_stored-next-requires c =
    let before : Table =
    table_of c.args.vars.now c.args.lows.now c.args.highs.now c.args.heads.now c.args.links.now
    c.args.count in
    let line : List ℕ → Line =
    λ ks. pr_turns 64 (in_word c.args.witness.positive) (in_word c.args.witness.negative)
    (diagrams_of (nodes_of before) c.args.first.now) (diagrams_of (nodes_of before) ks) in
    let table₁ : Table =
    table_of c.turn_known-t.new.vars c.turn_known-t.new.lows c.turn_known-t.new.highs c.turn_known-t.new.heads
    c.turn_known-t.new.links c.turn_known-t.result.count in
    let member : ℕ =
    get_or c.args.members.now c.loop-i.i 0 in
    let said : LineSays before (line (member ∷ [])) 64 c.turn_known-t.result table₁ =
    subst (λ (t : Table). LineSays t (pr_turns 64 (in_word c.args.witness.positive) (in_word c.args.witness.negative)
    (diagrams_of (nodes_of t) c.args.first.now) (diagram_at (nodes_of t) member ∷ [])) 64 c.turn_known-t.result table₁)
    c.loop-i.invariant.0 c.turn_known-t.ensures.fact_3 in (
      c.store.auto.turns ∙ c.loop-i.invariant.7,
      c.requires.fact.4,
      omega (arith, said.most, c.loop-i.invariant.1.most),
    )

pub loop-i-smaller : goal.loop-i-smaller
loop-i-smaller c =
    let more : c.loop-i.i < length c.args.members.now =
    c.loop-i-test.true in
    let judged₁ : List ℕ =
    c.store.new.turns in
    let passes : Passes c.args.members.now judged₁ (c.loop-i.i + 1) (c.loop-i.rounds + c.turn_known-t.result.rounds)
    c.pass_stored-next.result.place c.pass_stored-next.result.rounds =
    c.pass_stored-next.ensures in
    omega (
      arith,
      more,
      passes-least c.args.members.now judged₁ (c.loop-i.i + 1)
          (c.loop-i.rounds + c.turn_known-t.result.rounds) c.pass_stored-next.result.place c.pass_stored-next.result.rounds passes,
    )

pub loop-i-preserved : goal.loop-i-preserved
loop-i-preserved c =
    let before : Table =
    table_of c.args.vars.now c.args.lows.now c.args.highs.now c.args.heads.now c.args.links.now
    c.args.count in
    let good : Good before =
    c.requires.fact.0.good in
    let line : List ℕ → Line =
    λ ks. pr_turns 64 (in_word c.args.witness.positive) (in_word c.args.witness.negative)
    (diagrams_of (nodes_of before) c.args.first.now) (diagrams_of (nodes_of before) ks) in
    let table₁ : Table =
    table_of c.turn_known-t.new.vars c.turn_known-t.new.lows c.turn_known-t.new.highs c.turn_known-t.new.heads
    c.turn_known-t.new.links c.turn_known-t.result.count in
    let member : ℕ =
    get_or c.args.members.now c.loop-i.i 0 in
    let said : LineSays before (line (member ∷ [])) 64 c.turn_known-t.result table₁ =
    subst (λ (t : Table). LineSays t (pr_turns 64 (in_word c.args.witness.positive) (in_word c.args.witness.negative)
    (diagrams_of (nodes_of t) c.args.first.now) (diagram_at (nodes_of t) member ∷ [])) 64 c.turn_known-t.result table₁)
    c.loop-i.invariant.0 c.turn_known-t.ensures.fact_3 in
    let more : c.loop-i.i < length c.args.members.now =
    c.loop-i-test.true in
    let unmarked-again : c.turn_known-t.new.marks ≡ unmarked (length c.args.vars.now) =
    c.turn_known-t.ensures.marks_after ∙ ap (λ (t : Table). unmarked (length t.vars)) c.loop-i.invariant.0 in
    let as_before : table_of c.drop_to.new.vars c.drop_to.new.lows c.drop_to.new.highs c.drop_to.new.heads c.drop_to.new.links c.args.count
    ≡ before =
    c.drop_to.ensures ∙ undone before good table₁
    (extended-longer before table₁ good said.extended) in
    let judged₁ : List ℕ =
    c.store.new.turns in
    let Equal : ℕ → ℕ → ℕ → Type 0 =
    Turned before c.args.first.now c.args.witness.positive
    c.args.witness.negative in
    let passes : Passes c.args.members.now judged₁ (c.loop-i.i + 1) (c.loop-i.rounds + c.turn_known-t.result.rounds)
    c.pass_stored-next.result.place c.pass_stored-next.result.rounds =
    c.pass_stored-next.ensures in
    let conflicted : c.turn_known-t.result.shown ≡ true =
    sym (not-not c.turn_known-t.result.shown) ∙ ap not c.if-not-t.false in
    let known : Known judged₁ (Equal (max c.loop-i.peak c.turn_known-t.result.peak)) =
    known-stored c.loop-i.judged judged₁ (Equal c.loop-i.peak)
    (Equal (max c.loop-i.peak c.turn_known-t.result.peak)) member c.turn_known-t.result.rounds
    c.loop-i.invariant.6
    (turned-higher before c.args.first.now c.args.witness.positive
    c.args.witness.negative c.loop-i.peak (max c.loop-i.peak c.turn_known-t.result.peak)
    (omega arith))
    (turned-judged before c.args.first.now c.args.witness.positive
    c.args.witness.negative good c.loop-i.peak member c.turn_known-t.result table₁
    said c.if-t.false conflicted)
    said.most c.store.ensures in
    let turning : Turning before c.args.first.now c.args.members.now c.args.witness.positive c.args.witness.negative
    c.pass_stored-next.result.place c.pass_stored-next.result.rounds (max c.loop-i.peak c.turn_known-t.result.peak) =
    turning-passed before c.args.first.now c.args.witness.positive
    c.args.witness.negative good c.args.members.now judged₁ (c.loop-i.i + 1)
    (c.loop-i.rounds + c.turn_known-t.result.rounds) c.pass_stored-next.result.place c.pass_stored-next.result.rounds
    (max c.loop-i.peak c.turn_known-t.result.peak) known
    (turns-on before c.args.first.now c.args.members.now c.args.witness.positive
    c.args.witness.negative good c.loop-i.i c.loop-i.rounds c.loop-i.peak
    c.loop-i.invariant.1 more c.turn_known-t.result table₁ said c.if-t.false conflicted)
    passes in
    let g = sym c.greater-peak.ensures in (
      as_before,
      subst (Turning before c.args.first.now c.args.members.now c.args.witness.positive c.args.witness.negative
          c.pass_stored-next.result.place c.pass_stored-next.result.rounds) g turning,
      unmarked-again,
      c.turn_known-t.auto.memo ∙ c.loop-i.invariant.3,
      c.turn_known-t.auto.second ∙ c.loop-i.invariant.4,
      c.turn_known-t.auto.secondwords ∙ c.loop-i.invariant.5,
      subst (λ (m : ℕ). Known judged₁ (Equal m)) g known,
      c.store.auto.turns ∙ c.loop-i.invariant.7,
    )

pub shape_of-vars : goal.shape_of-vars
shape_of-vars c =
    ap (λ (t : Table). length t.vars) c.loop-i.invariant.0

pub shape_of-lows : goal.shape_of-lows
shape_of-lows c =
    ap (λ (t : Table). length t.lows) c.loop-i.invariant.0

pub shape_of-highs : goal.shape_of-highs
shape_of-highs c =
    ap (λ (t : Table). length t.highs) c.loop-i.invariant.0

pub shape_of-heads : goal.shape_of-heads
shape_of-heads c =
    ap (λ (t : Table). length t.heads) c.loop-i.invariant.0

pub shape_of-links : goal.shape_of-links
shape_of-links c =
    ap (λ (t : Table). length t.links) c.loop-i.invariant.0

pub shape_of-memo : goal.shape_of-memo
shape_of-memo c =
    c.loop-i.invariant.3

pub shape_of-marks : goal.shape_of-marks
shape_of-marks c =
    ap length (c.loop-i.invariant.2 ∙ sym c.requires.fact.1)

pub shape_of-second : goal.shape_of-second
shape_of-second c =
    c.loop-i.invariant.4

pub shape_of-secondwords : goal.shape_of-secondwords
shape_of-secondwords c =
    c.loop-i.invariant.5

pub returns : goal.returns
returns c =
    let before : Table =
    table_of c.args.vars.now c.args.lows.now c.args.highs.now c.args.heads.now c.args.links.now
    c.args.count in
    let good : Good before =
    c.requires.fact.0.good in
    let line : List ℕ → Line =
    λ ks. pr_turns 64 (in_word c.args.witness.positive) (in_word c.args.witness.negative)
    (diagrams_of (nodes_of before) c.args.first.now) (diagrams_of (nodes_of before) ks) in
    record {
      fact_3 = subst (λ (t : Table). LineSays before (line c.args.members.now) (64 * length c.args.members.now)
          (judged_as false true c.loop-i.rounds c.args.count c.loop-i.peak) t) (sym c.loop-i.invariant.0)
          (turns-done before c.args.first.now c.args.members.now c.args.witness.positive c.args.witness.negative
          good c.loop-i.i c.loop-i.rounds c.loop-i.peak c.loop-i.invariant.1 (omega (arith, c.loop-i-test.false)));
      marks_after = c.loop-i.invariant.2;
    }
