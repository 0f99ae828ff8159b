-- `pr` finds the members' and the root's variables, then judges the PR line. Each place of the code is one law of Judging. Assumes nothing.
use mathlib.Core.Path.{◌≡◌, sym, ap, ◌∙◌, subst}
use mathlib.Core.Bool.{Bool, true, false}
use mathlib.Core.List.{List}
use Prim.Native.Nat.{ℕ, ◌*◌}
use native.Mathlib.Omega.{arith}
use lib.ListN.{length}
use Rattle.meaning.specs.Diagram.{Diagram}
use Rattle.meaning.specs.Words.{in_word}
use Rattle.table.specs.Nodes.{diagram_at}
use Rattle.table.specs.Indexed.{Table, table_of, nodes_of}
use Rattle.walks.proofs.Here.{good-readable}
use Rattle.supports.specs.Supports.{Supports}
use Rattle.walks.specs.Readable.{ListReady}
use Rattle.table.specs.Lists.{diagrams_of}
use Rattle.conflict.specs.Marks.{unmarked}
use Rattle.table.proofs.Extended.{extended-longer}
use Rattle.judge.specs.Lines.{Negatable, Worded, ByNegation}
use Rattle.judge.proofs.Worded.{supports-longer}
use Rattle.judge.proofs.Ready.{list-ready, inside-more, memo-again}
use Rattle.judge.proofs.Judging.{pr-full, pr-judged}
use Rattle.pr_lines.proofs.pr.Goals as goal

pub supports_of-requires : goal.supports_of-requires
supports_of-requires c =
    let before : Table =
    table_of c.args.vars.now c.args.lows.now c.args.highs.now c.args.heads.now c.args.links.now
    c.args.count in
    let R = c.requires.fact.0.ready in
    (good-readable before R.good, R.inside, R.room, c.requires.memberwords_len.0)

pub support_from-word-requires : goal.support_from-word-requires
support_from-word-requires c =
    let before : Table =
    table_of c.args.vars.now c.args.lows.now c.args.highs.now c.args.heads.now c.args.links.now
    c.args.count in
    record {
      readable = (
        good-readable before c.requires.fact.0.ready.good,
        c.requires.fact.0.inside,
        omega (arith, c.requires.fact.0.ready.room, c.supports_of.auto.memo),
      );
      support_memo = c.supports_of.ensures.support_memo;
    }

pub by_negation-made-requires : goal.by_negation-made-requires
unfolding nodes_of
by_negation-made-requires c =
    let before : Table =
    table_of c.args.vars.now c.args.lows.now c.args.highs.now c.args.heads.now c.args.links.now
    c.args.count in
    let memberwords₁ : List ℕ =
    c.supports_of.new.words in
    let memo₁ : List ℕ =
    c.support_from-word.new.memo in
    let worded : Worded before c.args.members.now memberwords₁ c.args.root.0 c.support_from-word.result =
    record {
      lengths = c.supports_of.auto.words ∙ c.requires.memberwords_len.0;
      have = c.supports_of.ensures.fact;
      has = c.support_from-word.ensures.support;
    } in
    let memo-kept : length memo₁ ≡ length c.args.memo.now =
    c.support_from-word.auto.memo ∙ c.supports_of.auto.memo in
    let negatable : Negatable before c.args.members.now memo₁ c.args.root.0 =
    memo-again before c.args.members.now c.args.memo.now memo₁ c.args.root.0 memo-kept
    c.requires.fact.0 in
    record { fact = (negatable, c.requires.fact.2, c.requires.fact.4); fact_2 = (worded, c.requires.memberwords_len.1) }

pub shape_of-vars-then-made : goal.shape_of-vars-then-made
shape_of-vars-then-made c =
    c.by_negation-made.auto.vars

pub shape_of-lows-then-made : goal.shape_of-lows-then-made
shape_of-lows-then-made c =
    c.by_negation-made.auto.lows

pub shape_of-highs-then-made : goal.shape_of-highs-then-made
shape_of-highs-then-made c =
    c.by_negation-made.auto.highs

pub shape_of-heads-then-made : goal.shape_of-heads-then-made
shape_of-heads-then-made c =
    c.by_negation-made.auto.heads

pub shape_of-links-then-made : goal.shape_of-links-then-made
shape_of-links-then-made c =
    c.by_negation-made.auto.links

pub shape_of-memo-then-made : goal.shape_of-memo-then-made
shape_of-memo-then-made c =
    let memo₁ : List ℕ =
    c.support_from-word.new.memo in
    let memo-kept : length memo₁ ≡ length c.args.memo.now =
    c.support_from-word.auto.memo ∙ c.supports_of.auto.memo in
    let memo-length : length c.by_negation-made.new.memo ≡ length c.args.memo.now =
    c.by_negation-made.auto.memo ∙ memo-kept in
    memo-length

pub shape_of-memberwords-then-made : goal.shape_of-memberwords-then-made
shape_of-memberwords-then-made c =
    c.supports_of.auto.words

pub shape_of-first-then-made : goal.shape_of-first-then-made
shape_of-first-then-made c =
    c.by_negation-made.auto.list

pub shape_of-firstwords-then-made : goal.shape_of-firstwords-then-made
shape_of-firstwords-then-made c =
    c.by_negation-made.auto.words

pub returns-then-made : goal.returns-then-made
returns-then-made c =
    let before : Table =
    table_of c.args.vars.now c.args.lows.now c.args.highs.now c.args.heads.now c.args.links.now
    c.args.count in
    let members : List Diagram =
    diagrams_of (nodes_of before) c.args.members.now in
    let root : Diagram =
    diagram_at (nodes_of before) c.args.root.0 in
    let table₁ : Table =
    table_of c.by_negation-made.new.vars c.by_negation-made.new.lows c.by_negation-made.new.highs c.by_negation-made.new.heads
    c.by_negation-made.new.links c.by_negation-made.result.count in
    let list₁ : List ℕ =
    c.by_negation-made.new.list in
    let by-negation : (b : Bool) → c.by_negation-made.result.full ≡ b → ByNegation before members root b table₁ list₁ =
    λ b e. subst (λ full. ByNegation before members root full table₁ list₁) e c.by_negation-made.ensures.fact_3 in
    record {
      fact_2 = pr-full before c.requires.fact.0.ready.good members root table₁ list₁ (by-negation true c.if-made.true)
          (64 * length c.args.members.now)
          (in_word c.args.witness.positive) (in_word c.args.witness.negative);
      marks_after = c.requires.fact.1;
    }

pub supports_of-requires-2 : goal.supports_of-requires-2
supports_of-requires-2 c =
    let before : Table =
    table_of c.args.vars.now c.args.lows.now c.args.highs.now c.args.heads.now c.args.links.now
    c.args.count in
    let memo₁ : List ℕ =
    c.support_from-word.new.memo in
    let memo-kept : length memo₁ ≡ length c.args.memo.now =
    c.support_from-word.auto.memo ∙ c.supports_of.auto.memo in
    let members : List Diagram =
    diagrams_of (nodes_of before) c.args.members.now in
    let root : Diagram =
    diagram_at (nodes_of before) c.args.root.0 in
    let table₁ : Table =
    table_of c.by_negation-made.new.vars c.by_negation-made.new.lows c.by_negation-made.new.highs c.by_negation-made.new.heads
    c.by_negation-made.new.links c.by_negation-made.result.count in
    let list₁ : List ℕ =
    c.by_negation-made.new.list in
    let by-negation : (b : Bool) → c.by_negation-made.result.full ≡ b → ByNegation before members root b table₁ list₁ =
    λ b e. subst (λ full. ByNegation before members root full table₁ list₁) e c.by_negation-made.ensures.fact_3 in
    let first-ready : c.by_negation-made.result.full ≡ false → (memo : List ℕ) → length memo ≡ length c.args.memo.now →
    ListReady table₁ list₁ memo =
    λ e memo len. list-ready before members root table₁ list₁ c.args.memo.now memo (by-negation false e)
    c.requires.fact.0.ready.room len in
    let memo-length : length c.by_negation-made.new.memo ≡ length c.args.memo.now =
    c.by_negation-made.auto.memo ∙ memo-kept in
    let first-length : length list₁ ≡ length c.args.members.now =
    c.by_negation-made.auto.list ∙ c.requires.fact.2 in
    let F = first-ready c.if-made.false c.by_negation-made.new.memo memo-length in (
      good-readable table₁ F.good,
      F.inside,
      F.room,
      c.by_negation-made.auto.words ∙ c.requires.memberwords_len.1
          ∙ sym first-length,
    )

pub look-looked-requires : goal.look-looked-requires
look-looked-requires c =
    let before : Table =
    table_of c.args.vars.now c.args.lows.now c.args.highs.now c.args.heads.now c.args.links.now
    c.args.count in
    let memo₁ : List ℕ =
    c.support_from-word.new.memo in
    let memo-kept : length memo₁ ≡ length c.args.memo.now =
    c.support_from-word.auto.memo ∙ c.supports_of.auto.memo in
    let members : List Diagram =
    diagrams_of (nodes_of before) c.args.members.now in
    let root : Diagram =
    diagram_at (nodes_of before) c.args.root.0 in
    let table₁ : Table =
    table_of c.by_negation-made.new.vars c.by_negation-made.new.lows c.by_negation-made.new.highs c.by_negation-made.new.heads
    c.by_negation-made.new.links c.by_negation-made.result.count in
    let list₁ : List ℕ =
    c.by_negation-made.new.list in
    let by-negation : (b : Bool) → c.by_negation-made.result.full ≡ b → ByNegation before members root b table₁ list₁ =
    λ b e. subst (λ full. ByNegation before members root full table₁ list₁) e c.by_negation-made.ensures.fact_3 in
    let first-ready : c.by_negation-made.result.full ≡ false → (memo : List ℕ) → length memo ≡ length c.args.memo.now →
    ListReady table₁ list₁ memo =
    λ e memo len. list-ready before members root table₁ list₁ c.args.memo.now memo (by-negation false e)
    c.requires.fact.0.ready.room len in
    let memo-length : length c.by_negation-made.new.memo ≡ length c.args.memo.now =
    c.by_negation-made.auto.memo ∙ memo-kept in (
      first-ready c.if-made.false c.supports_of-2.new.memo (c.supports_of-2.auto.memo ∙ memo-length),
      c.requires.fact.1 ∙ ap unmarked (sym c.by_negation-made.auto.vars),
    )

pub turns-requires : goal.turns-requires
unfolding nodes_of
turns-requires c =
    let before : Table =
    table_of c.args.vars.now c.args.lows.now c.args.highs.now c.args.heads.now c.args.links.now
    c.args.count in
    let memberwords₁ : List ℕ =
    c.supports_of.new.words in
    let memo₁ : List ℕ =
    c.support_from-word.new.memo in
    let worded : Worded before c.args.members.now memberwords₁ c.args.root.0 c.support_from-word.result =
    record {
      lengths = c.supports_of.auto.words ∙ c.requires.memberwords_len.0;
      have = c.supports_of.ensures.fact;
      has = c.support_from-word.ensures.support;
    } in
    let memo-kept : length memo₁ ≡ length c.args.memo.now =
    c.support_from-word.auto.memo ∙ c.supports_of.auto.memo in
    let members : List Diagram =
    diagrams_of (nodes_of before) c.args.members.now in
    let root : Diagram =
    diagram_at (nodes_of before) c.args.root.0 in
    let table₁ : Table =
    table_of c.by_negation-made.new.vars c.by_negation-made.new.lows c.by_negation-made.new.highs c.by_negation-made.new.heads
    c.by_negation-made.new.links c.by_negation-made.result.count in
    let list₁ : List ℕ =
    c.by_negation-made.new.list in
    let by-negation : (b : Bool) → c.by_negation-made.result.full ≡ b → ByNegation before members root b table₁ list₁ =
    λ b e. subst (λ full. ByNegation before members root full table₁ list₁) e c.by_negation-made.ensures.fact_3 in
    let first-ready : c.by_negation-made.result.full ≡ false → (memo : List ℕ) → length memo ≡ length c.args.memo.now →
    ListReady table₁ list₁ memo =
    λ e memo len. list-ready before members root table₁ list₁ c.args.memo.now memo (by-negation false e)
    c.requires.fact.0.ready.room len in
    let memo-length : length c.by_negation-made.new.memo ≡ length c.args.memo.now =
    c.by_negation-made.auto.memo ∙ memo-kept in
    let first-length : length list₁ ≡ length c.args.members.now =
    c.by_negation-made.auto.list ∙ c.requires.fact.2 in
    let memberwords-kept : c.by_negation-made.result.full ≡ false → Supports (nodes_of table₁) c.args.members.now memberwords₁ =
    λ e. let R = c.requires.fact.0.ready in
    supports-longer before table₁ (extended-longer before table₁ R.good (by-negation false e).extended)
    c.args.members.now memberwords₁ R.inside
    worded.have in
    let firstwords : Supports (nodes_of table₁) list₁ c.supports_of-2.new.words =
    c.supports_of-2.ensures.fact in
    let e = c.if-made.false in
    record {
      fact = (
        first-ready e c.look-looked.new.memo (c.look-looked.auto.memo ∙ c.supports_of-2.auto.memo ∙ memo-length),
        c.look-looked.ensures.marks_after,
        c.requires.fact.3 ∙ sym first-length,
        inside-more before table₁ c.args.members.now (by-negation false e).extended c.requires.fact.0.ready.inside,
        c.requires.fact.4,
        omega (arith, first-length, c.requires.fact.4),
      );
      fact_2 = (
        worded.lengths,
        memberwords-kept e,
        c.supports_of-2.auto.words ∙ c.by_negation-made.auto.words ∙ c.requires.memberwords_len.1 ∙ sym first-length,
        firstwords,
        c.requires.memberwords_len.2 ∙ sym first-length,
        c.look-looked.ensures.fact,
      );
    }

pub shape_of-vars : goal.shape_of-vars
shape_of-vars c =
    c.turns.auto.vars ∙ c.by_negation-made.auto.vars

pub shape_of-lows : goal.shape_of-lows
shape_of-lows c =
    c.turns.auto.lows ∙ c.by_negation-made.auto.lows

pub shape_of-highs : goal.shape_of-highs
shape_of-highs c =
    c.turns.auto.highs ∙ c.by_negation-made.auto.highs

pub shape_of-heads : goal.shape_of-heads
shape_of-heads c =
    c.turns.auto.heads ∙ c.by_negation-made.auto.heads

pub shape_of-links : goal.shape_of-links
shape_of-links c =
    c.turns.auto.links ∙ c.by_negation-made.auto.links

pub shape_of-memo : goal.shape_of-memo
shape_of-memo c =
    let memo₁ : List ℕ =
    c.support_from-word.new.memo in
    let memo-kept : length memo₁ ≡ length c.args.memo.now =
    c.support_from-word.auto.memo ∙ c.supports_of.auto.memo in
    let memo-length : length c.by_negation-made.new.memo ≡ length c.args.memo.now =
    c.by_negation-made.auto.memo ∙ memo-kept in
    c.turns.auto.memo ∙ c.look-looked.auto.memo
    ∙ c.supports_of-2.auto.memo
    ∙ memo-length

pub shape_of-marks : goal.shape_of-marks
shape_of-marks c =
    c.turns.auto.marks ∙ c.look-looked.auto.marks

pub shape_of-memberwords : goal.shape_of-memberwords
shape_of-memberwords c =
    c.supports_of.auto.words

pub shape_of-first : goal.shape_of-first
shape_of-first c =
    c.by_negation-made.auto.list

pub shape_of-firstwords : goal.shape_of-firstwords
shape_of-firstwords c =
    c.supports_of-2.auto.words ∙ c.by_negation-made.auto.words

pub shape_of-second : goal.shape_of-second
shape_of-second c =
    c.turns.auto.second

pub shape_of-secondwords : goal.shape_of-secondwords
shape_of-secondwords c =
    c.turns.auto.secondwords

pub returns : goal.returns
returns c =
    let before : Table =
    table_of c.args.vars.now c.args.lows.now c.args.highs.now c.args.heads.now c.args.links.now
    c.args.count in
    let members : List Diagram =
    diagrams_of (nodes_of before) c.args.members.now in
    let root : Diagram =
    diagram_at (nodes_of before) c.args.root.0 in
    let table₁ : Table =
    table_of c.by_negation-made.new.vars c.by_negation-made.new.lows c.by_negation-made.new.highs c.by_negation-made.new.heads
    c.by_negation-made.new.links c.by_negation-made.result.count in
    let list₁ : List ℕ =
    c.by_negation-made.new.list in
    let by-negation : (b : Bool) → c.by_negation-made.result.full ≡ b → ByNegation before members root b table₁ list₁ =
    λ b e. subst (λ full. ByNegation before members root full table₁ list₁) e c.by_negation-made.ensures.fact_3 in
    record {
      fact_2 = pr-judged before c.requires.fact.0.ready.good c.args.members.now c.requires.fact.0.ready.inside root table₁ list₁
          (by-negation false c.if-made.false) c.args.witness.positive c.args.witness.negative
          (64 * length c.args.members.now) c.turns.result
          (table_of c.turns.new.vars c.turns.new.lows c.turns.new.highs c.turns.new.heads c.turns.new.links c.turns.result.count)
          c.turns.ensures.fact_3;
      marks_after = c.turns.ensures.marks_after ∙ ap unmarked c.by_negation-made.auto.vars;
    }
