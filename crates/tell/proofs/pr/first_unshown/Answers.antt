-- `first_unshown`: member after member, up to the one that does not pass. Assumes nothing.
use mathlib.Core.Path.{◌≡◌, refl, sym, ap, ◌∙◌, subst}
use mathlib.Core.Bool.{Bool, true, not, ◌||◌}
use mathlib.Core.List.{List}
use Prim.Native.Nat.{ℕ, ◌-◌, ◌<◌}
use native.Mathlib.Omega.{arith}
use lib.ListN.{length, get_or}
use lib.Seq.{length-take-le, get_or-take}
use lib.Dec.{eqb}
use Rattle.meaning.specs.Diagram.{Diagram}
use Rattle.meaning.specs.Rules.{Line}
use Rattle.meaning.proofs.Booleans.{not-not}
use Rattle.table.specs.Nodes.{diagram_at}
use Rattle.table.specs.Indexed.{Table, table_of, size, nodes_of}
use Rattle.table.specs.Making.{line_reach}
use Rattle.table.specs.Lists.{diagrams_of}
use Rattle.conflict.specs.Marks.{unmarked}
use Rattle.supports.specs.Supports.{Supports}
use Rattle.judge.proofs.Ready.{again-ready}
use Rattle.tell.specs.Failed.{turn_line}
use Rattle.tell.proofs.Turns.{Searching, searching-start, searching-fits, searching-on, searching-found, searching-end}
use Rattle.tell.proofs.pr.first_unshown.Reads as reads
use Rattle.tell.proofs.pr.first_unshown.Lts as lts
use Rattle.tell.proofs.pr.first_unshown.Tie as tie
use Rattle.tell.proofs.pr.first_unshown.Goals as goal

module _ (s : lts.Start tie.the-claims reads.Pre reads.Post goal.the-invariant-loop-i goal.the-decreases-loop-i tie.handed_clauses) where
  abbrev before : Table
  before = table_of s.args.vars.now s.args.lows.now s.args.highs.now s.args.heads.now s.args.links.now
      s.args.count

  abbrev ms : List Diagram
  ms = diagrams_of (nodes_of before) s.args.first.now

  -- member i's turn over the table t
  abbrev one_on : Table → ℕ → Line
  one_on t i = turn_line s.args.witness.positive s.args.witness.negative (diagrams_of (nodes_of t) s.args.first.now)
      (diagram_at (nodes_of t) (get_or s.args.members.now i 0))

  abbrev live_at : ℕ → Bool
  live_at i = eqb (get_or s.args.struck.now i 0) 0

  abbrev Search : ℕ → Type 0
  Search i = Searching before s.args.witness.positive s.args.witness.negative ms s.args.members.now s.args.struck.now
      s.args.many i

  member-in : (i : ℕ) → i < s.args.many → get_or s.args.members.now i 0 < s.args.count
  member-in i h =
      subst (λ (k : ℕ). k < s.args.count) (get_or-take s.args.many s.args.members.now i 0 h)
      (s.requires.fact.6 i (omega (arith, h, length-take-le s.args.many s.args.members.now s.requires.fact.4)))

module _ (a : lts.After-passes tie.the-claims reads.Pre reads.Post goal.the-invariant-loop-i goal.the-decreases-loop-i tie.handed_clauses)
  where
    more : a.loop-i.i < a.args.many
    more = a.loop-i-test.true

    as_before :
        let a12 = a.before.before.before.before.before.before.before.before.before.before.before.before in
        let a24 = a12.before.before.before.before.before.before.before.before.before.before.before.before in
        table_of a.passes.new.vars a.passes.new.lows a.passes.new.highs a.passes.new.heads a.passes.new.links
        a.args.count ≡ before a24.before
    as_before = a.passes.ensures.fact_3.0 ∙ a.loop-i.invariant.0

    -- what it says, over the table as it was
    told :
        let a12 = a.before.before.before.before.before.before.before.before.before.before.before.before in
        let a24 = a12.before.before.before.before.before.before.before.before.before.before.before.before in
        a.passes.result ≡ (not
        (live_at a24.before a.loop-i.i) || (one_on a24.before (before a24.before) a.loop-i.i).shown)
    told =
        let a12 = a.before.before.before.before.before.before.before.before.before.before.before.before in
        let a24 = a12.before.before.before.before.before.before.before.before.before.before.before.before in
        a.passes.ensures.fact_3.1 ∙ ap (λ (t : Table). not
        (live_at a24.before a.loop-i.i) || (one_on a24.before t a.loop-i.i).shown)
        a.loop-i.invariant.0

    unmarked-again : a.passes.new.marks ≡ unmarked (length a.args.vars.now)
    unmarked-again = a.passes.ensures.marks_after ∙ ap (λ (t : Table). unmarked (length t.vars)) a.loop-i.invariant.0

pub loop-i-init : goal.loop-i-init
loop-i-init c =
    let c12 = c.before.before.before.before.before.before.before.before.before.before.before.before in (
      refl,
      searching-start (before c12.before.before)
          c.args.witness.positive c.args.witness.negative
          (ms c12.before.before) c.args.members.now
          c.args.struck.now c.args.many c.requires.fact_2.3,
      c.requires.fact.1,
      refl,
      refl,
      refl,
    )

pub passes-requires : goal.passes-requires
passes-requires c =
    let c12 = c.before.before.before.before.before.before.before.before.before.before.before.before in
    let c24 = c12.before.before.before.before.before.before.before.before.before.before.before.before in
    let more = c.loop-i-test.true in
    let here = table_of c.loop-i.vars c.loop-i.lows c.loop-i.highs c.loop-i.heads c.loop-i.links c.args.count in record {
      fact = (
        again-ready (before c24.before) here c.args.first.now c.args.memo.now c.loop-i.memo c.loop-i.invariant.0 c.loop-i.invariant.3
            c.requires.fact.0,
        c.loop-i.invariant.2 ∙ sym (ap (λ (t : Table). unmarked (length t.vars)) c.loop-i.invariant.0),
        c.loop-i.invariant.4 ∙ c.requires.fact.2,
        c.requires.fact.3,
        omega (arith, more, c.requires.fact.4),
        omega (arith, more, c.requires.fact.5),
        member-in c24.before c.loop-i.i more,
      );
      fact_2 = (
        c.requires.fact_2.0,
        subst (λ (t : Table). Supports (nodes_of t) c.args.first.now c.args.firstwords.now) (sym c.loop-i.invariant.0) c.requires.fact_2.1,
        c.loop-i.invariant.5 ∙ c.requires.fact_2.2,
        subst (λ (t : Table). live_at
            c24.before c.loop-i.i ≡ true → (line_reach (size t) (nodes_of t) (one_on c24.before t c.loop-i.i)).fits ≡ true)
            (sym c.loop-i.invariant.0)
            (searching-fits (before c24.before) c.args.witness.positive c.args.witness.negative (ms c24.before) c.args.members.now
            c.args.struck.now c.args.many c.requires.fact.4 c.requires.fact.5 c.loop-i.i more c.loop-i.invariant.1),
      );
    }

pub shape_of-vars-then-not-passes : goal.shape_of-vars-then-not-passes
shape_of-vars-then-not-passes c =
    c.passes.auto.vars ∙ ap (λ (t : Table). length t.vars)
    c.loop-i.invariant.0

pub shape_of-lows-then-not-passes : goal.shape_of-lows-then-not-passes
shape_of-lows-then-not-passes c =
    c.passes.auto.lows ∙ ap (λ (t : Table). length t.lows)
    c.loop-i.invariant.0

pub shape_of-highs-then-not-passes : goal.shape_of-highs-then-not-passes
shape_of-highs-then-not-passes c =
    c.passes.auto.highs ∙ ap (λ (t : Table). length t.highs)
    c.loop-i.invariant.0

pub shape_of-heads-then-not-passes : goal.shape_of-heads-then-not-passes
shape_of-heads-then-not-passes c =
    c.passes.auto.heads ∙ ap (λ (t : Table). length t.heads)
    c.loop-i.invariant.0

pub shape_of-links-then-not-passes : goal.shape_of-links-then-not-passes
shape_of-links-then-not-passes c =
    c.passes.auto.links ∙ ap (λ (t : Table). length t.links)
    c.loop-i.invariant.0

pub shape_of-memo-then-not-passes : goal.shape_of-memo-then-not-passes
shape_of-memo-then-not-passes c =
    c.passes.auto.memo
    ∙ c.loop-i.invariant.3

pub shape_of-marks-then-not-passes : goal.shape_of-marks-then-not-passes
shape_of-marks-then-not-passes c =
    let c12 = c.before.before.before.before.before.before.before.before.before.before.before.before in
    ap length (unmarked-again
    c12.before.before.before.before.before.before.before.before ∙ sym
    c.requires.fact.1)

pub shape_of-second-then-not-passes : goal.shape_of-second-then-not-passes
shape_of-second-then-not-passes c =
    c.passes.auto.second
    ∙ c.loop-i.invariant.4

pub shape_of-secondwords-then-not-passes : goal.shape_of-secondwords-then-not-passes
shape_of-secondwords-then-not-passes c =
    c.passes.auto.secondwords
    ∙ c.loop-i.invariant.5

pub returns-then-not-passes : goal.returns-then-not-passes
returns-then-not-passes c =
    let c12 = c.before.before.before.before.before.before.before.before.before.before.before.before in
    let c24 = c12.before.before.before.before.before.before.before.before.before.before.before.before in
    let c36 = c24.before.before.before.before.before.before.before.before.before.before.before.before in
    record {
      fact_3 = (
        as_before c12.before.before.before.before.before.before.before.before,
        searching-found (before c36.before.before.before.before.before.before.before.before.before) c.args.witness.positive
            c.args.witness.negative (ms c36.before.before.before.before.before.before.before.before.before) c.args.members.now
            c.args.struck.now c.args.many c.requires.fact.4 c.requires.fact.5 c.loop-i.i
            (more c12.before.before.before.before.before.before.before.before) c.loop-i.invariant.1
            (sym (told c12.before.before.before.before.before.before.before.before) ∙ sym (not-not c.passes.result)
            ∙ ap not c.if-not-passes.true-raw),
      );
      marks_after = unmarked-again
          c12.before.before.before.before.before.before.before.before;
    }

pub overflow_add-i : goal.overflow_add-i
overflow_add-i c =
    let c12 = c.before.before.before.before.before.before.before.before.before.before.before.before in
    let a = c12.before.before.before.before.before.before.before.before in
    omega (arith, more c12.before.before.before.before.before.before.before.before, a.requires.fact.7)

pub loop-i-smaller : goal.loop-i-smaller
loop-i-smaller c =
    let c12 = c.before.before.before.before.before.before.before.before.before.before.before.before in
    omega (arith, more c12.before.before.before.before.before.before.before.before)

pub loop-i-preserved : goal.loop-i-preserved
loop-i-preserved c =
    let c12 = c.before.before.before.before.before.before.before.before.before.before.before.before in
    let c24 = c12.before.before.before.before.before.before.before.before.before.before.before.before in
    let c36 = c24.before.before.before.before.before.before.before.before.before.before.before.before in (
      as_before c12.before.before.before.before.before.before.before.before,
      searching-on (before c36.before.before.before.before.before.before.before.before.before) c.args.witness.positive
          c.args.witness.negative
          (ms c36.before.before.before.before.before.before.before.before.before) c.args.members.now
          c.args.struck.now c.args.many c.requires.fact.4 c.requires.fact.5 c.loop-i.i
          (more c12.before.before.before.before.before.before.before.before) c.loop-i.invariant.1
          (sym (told c12.before.before.before.before.before.before.before.before) ∙ sym (not-not c.passes.result)
          ∙ ap not c.if-not-passes.false-raw),
      unmarked-again c12.before.before.before.before.before.before.before.before,
      c.passes.auto.memo ∙ c.loop-i.invariant.3,
      c.passes.auto.second ∙ c.loop-i.invariant.4,
      c.passes.auto.secondwords ∙ c.loop-i.invariant.5,
    )

pub shape_of-vars : goal.shape_of-vars
shape_of-vars c =
    ap (λ (t : Table). length t.vars) c.loop-i.invariant.0

pub shape_of-lows : goal.shape_of-lows
shape_of-lows c =
    ap (λ (t : Table). length t.lows) c.loop-i.invariant.0

pub shape_of-highs : goal.shape_of-highs
shape_of-highs c =
    ap (λ (t : Table). length t.highs) c.loop-i.invariant.0

pub shape_of-heads : goal.shape_of-heads
shape_of-heads c =
    ap (λ (t : Table). length t.heads) c.loop-i.invariant.0

pub shape_of-links : goal.shape_of-links
shape_of-links c =
    ap (λ (t : Table). length t.links) c.loop-i.invariant.0

pub shape_of-memo : goal.shape_of-memo
shape_of-memo c =
    c.loop-i.invariant.3

pub shape_of-marks : goal.shape_of-marks
shape_of-marks c =
    ap length (c.loop-i.invariant.2 ∙ sym c.requires.fact.1)

pub shape_of-second : goal.shape_of-second
shape_of-second c =
    c.loop-i.invariant.4

pub shape_of-secondwords : goal.shape_of-secondwords
shape_of-secondwords c =
    c.loop-i.invariant.5

pub returns : goal.returns
returns c =
    let c12 = c.before.before.before.before.before.before.before.before.before.before.before.before in
    record {
      fact_3 = absurd (searching-end
          (before c12.before.before.before.before)
          c.args.witness.positive c.args.witness.negative
          (ms c12.before.before.before.before)
          c.args.members.now
          c.args.struck.now c.args.many c.requires.fact.4 c.requires.fact.5 c.loop-i.i c.loop-i.invariant.1 c.loop-i-test.false);
      marks_after = absurd (searching-end (before
          c12.before.before.before.before)
          c.args.witness.positive c.args.witness.negative
          (ms c12.before.before.before.before)
          c.args.members.now
          c.args.struck.now c.args.many c.requires.fact.4 c.requires.fact.5 c.loop-i.i c.loop-i.invariant.1 c.loop-i-test.false);
    }
