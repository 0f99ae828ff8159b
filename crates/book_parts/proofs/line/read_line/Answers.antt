-- `read_line` says what the definition says of the call's records: at the loop's head what is to be said is what is left to be said
-- (Reading). Assumes nothing.
use mathlib.Core.Path.{refl, sym, ap, ◌∙◌}
use Prim.Native.Nat.{◌+◌, ◌-◌}
use native.Mathlib.Omega.{arith}
use Rattle.conflict.specs.Marks.{unmarked}
use Rattle.records.specs.Records.{length_of}
use Rattle.state.specs.States.{lent_of}
use Rattle.book_parts.proofs.Reading.{reading-start, reading-asks, reading-near, reading-stop, reading-spent, reading-taken}
use Rattle.book_parts.proofs.Reading.{reading-goes, reading-next}
use Rattle.commands.proofs.Stream.{record-short}
use Rattle.book_parts.proofs.line.read_line.Goals as goal

pub loop-at-init : goal.loop-at-init
loop-at-init c =
    (reading-start _ _ _ _ _ _ c.requires, refl, refl, refl, refl, refl, refl, refl, refl, refl, refl)

pub record_from-r-requires : goal.record_from-r-requires
record_from-r-requires c =
    tt

pub record_length-requires : goal.record_length-requires
record_length-requires c =
    tt

pub overflow_add-next : goal.overflow_add-next
overflow_add-next c =
    let n = c.record_length.ensures in omega (
      arith,
      c.loop-at-test.true,
      record-short c.record_from-r.result,
      n,
    )

pub book_step-requires : goal.book_step-requires
book_step-requires c =
    reading-asks _ _ _ _ _ _ _ _ _ _ c.loop-at.invariant.0

pub overflow_add-result : goal.overflow_add-result
overflow_add-result c =
    let G = c.loop-at.invariant.0 in let near = reading-near _ _ _ _ _ _ _ _ _ _ G _ c.record_from-r.ensures _
    (ap (λ n. c.loop-at.at + n) (c.record_length.ensures ∙ ap length_of c.record_from-r.ensures)) _ refl
    (lent_of c.book_step.new.vars c.book_step.new.lows c.book_step.new.highs c.book_step.new.heads c.book_step.new.links
    c.book_step.new.members c.book_step.new.scratch
    c.book_step.new.struck) _
    c.book_step.ensures.fact _ _ c.in-Stop.is in omega (arith, c.loop-at-test.true, near)

pub shape_of-vars-in-Stop : goal.shape_of-vars-in-Stop
shape_of-vars-in-Stop c =
    c.book_step.auto.vars ∙ c.loop-at.invariant.1

pub shape_of-lows-in-Stop : goal.shape_of-lows-in-Stop
shape_of-lows-in-Stop c =
    c.book_step.auto.lows ∙ c.loop-at.invariant.2

pub shape_of-highs-in-Stop : goal.shape_of-highs-in-Stop
shape_of-highs-in-Stop c =
    c.book_step.auto.highs ∙ c.loop-at.invariant.3

pub shape_of-heads-in-Stop : goal.shape_of-heads-in-Stop
shape_of-heads-in-Stop c =
    c.book_step.auto.heads ∙ c.loop-at.invariant.4

pub shape_of-links-in-Stop : goal.shape_of-links-in-Stop
shape_of-links-in-Stop c =
    c.book_step.auto.links ∙ c.loop-at.invariant.5

pub shape_of-memo-in-Stop : goal.shape_of-memo-in-Stop
shape_of-memo-in-Stop c =
    c.book_step.auto.memo ∙ c.loop-at.invariant.6

pub shape_of-marks-in-Stop : goal.shape_of-marks-in-Stop
shape_of-marks-in-Stop c =
    c.book_step.auto.marks ∙ c.loop-at.invariant.7

pub shape_of-members-in-Stop : goal.shape_of-members-in-Stop
shape_of-members-in-Stop c =
    c.book_step.auto.members ∙ c.loop-at.invariant.8

pub shape_of-scratch-in-Stop : goal.shape_of-scratch-in-Stop
shape_of-scratch-in-Stop c =
    c.book_step.auto.scratch ∙ c.loop-at.invariant.9

pub shape_of-struck-in-Stop : goal.shape_of-struck-in-Stop
shape_of-struck-in-Stop c =
    c.book_step.auto.struck ∙ c.loop-at.invariant.10

pub returns-in-Stop : goal.returns-in-Stop
returns-in-Stop c =
    let G = c.loop-at.invariant.0 in record {
      fact = reading-stop _ _ _ _ _ _ _ _ _ _ G _ c.record_from-r.ensures _
          (ap (λ n. c.loop-at.at + n) (c.record_length.ensures ∙ ap length_of c.record_from-r.ensures)) _ refl
          (lent_of c.book_step.new.vars c.book_step.new.lows c.book_step.new.highs c.book_step.new.heads c.book_step.new.links
          c.book_step.new.members c.book_step.new.scratch
          c.book_step.new.struck) _
          c.book_step.ensures.fact _ _ c.in-Stop.is;
      marks_after = c.book_step.ensures.marks_after ∙ ap unmarked c.loop-at.invariant.1;
    }

pub shape_of-vars-in-Spent : goal.shape_of-vars-in-Spent
shape_of-vars-in-Spent c =
    c.book_step.auto.vars ∙ c.loop-at.invariant.1

pub shape_of-lows-in-Spent : goal.shape_of-lows-in-Spent
shape_of-lows-in-Spent c =
    c.book_step.auto.lows ∙ c.loop-at.invariant.2

pub shape_of-highs-in-Spent : goal.shape_of-highs-in-Spent
shape_of-highs-in-Spent c =
    c.book_step.auto.highs ∙ c.loop-at.invariant.3

pub shape_of-heads-in-Spent : goal.shape_of-heads-in-Spent
shape_of-heads-in-Spent c =
    c.book_step.auto.heads ∙ c.loop-at.invariant.4

pub shape_of-links-in-Spent : goal.shape_of-links-in-Spent
shape_of-links-in-Spent c =
    c.book_step.auto.links ∙ c.loop-at.invariant.5

pub shape_of-memo-in-Spent : goal.shape_of-memo-in-Spent
shape_of-memo-in-Spent c =
    c.book_step.auto.memo ∙ c.loop-at.invariant.6

pub shape_of-marks-in-Spent : goal.shape_of-marks-in-Spent
shape_of-marks-in-Spent c =
    c.book_step.auto.marks ∙ c.loop-at.invariant.7

pub shape_of-members-in-Spent : goal.shape_of-members-in-Spent
shape_of-members-in-Spent c =
    c.book_step.auto.members ∙ c.loop-at.invariant.8

pub shape_of-scratch-in-Spent : goal.shape_of-scratch-in-Spent
shape_of-scratch-in-Spent c =
    c.book_step.auto.scratch ∙ c.loop-at.invariant.9

pub shape_of-struck-in-Spent : goal.shape_of-struck-in-Spent
shape_of-struck-in-Spent c =
    c.book_step.auto.struck ∙ c.loop-at.invariant.10

pub returns-in-Spent : goal.returns-in-Spent
returns-in-Spent c =
    let G = c.loop-at.invariant.0 in record {
      fact = reading-spent _ _ _ _ _ _ _ _ _ _ G _ c.record_from-r.ensures _
          (ap (λ n. c.loop-at.at + n) (c.record_length.ensures ∙ ap length_of c.record_from-r.ensures)) _ refl
          (lent_of c.book_step.new.vars c.book_step.new.lows c.book_step.new.highs c.book_step.new.heads c.book_step.new.links
          c.book_step.new.members c.book_step.new.scratch
          c.book_step.new.struck) _
          c.book_step.ensures.fact _ _ c.in-Spent.is;
      marks_after = c.book_step.ensures.marks_after
          ∙ ap unmarked c.loop-at.invariant.1;
    }

pub is_line-requires : goal.is_line-requires
is_line-requires c =
    tt

pub shape_of-vars-then-is_line : goal.shape_of-vars-then-is_line
shape_of-vars-then-is_line c =
    c.book_step.auto.vars ∙ c.loop-at.invariant.1

pub shape_of-lows-then-is_line : goal.shape_of-lows-then-is_line
shape_of-lows-then-is_line c =
    c.book_step.auto.lows ∙ c.loop-at.invariant.2

pub shape_of-highs-then-is_line : goal.shape_of-highs-then-is_line
shape_of-highs-then-is_line c =
    c.book_step.auto.highs ∙ c.loop-at.invariant.3

pub shape_of-heads-then-is_line : goal.shape_of-heads-then-is_line
shape_of-heads-then-is_line c =
    c.book_step.auto.heads ∙ c.loop-at.invariant.4

pub shape_of-links-then-is_line : goal.shape_of-links-then-is_line
shape_of-links-then-is_line c =
    c.book_step.auto.links ∙ c.loop-at.invariant.5

pub shape_of-memo-then-is_line : goal.shape_of-memo-then-is_line
shape_of-memo-then-is_line c =
    c.book_step.auto.memo ∙ c.loop-at.invariant.6

pub shape_of-marks-then-is_line : goal.shape_of-marks-then-is_line
shape_of-marks-then-is_line c =
    c.book_step.auto.marks ∙ c.loop-at.invariant.7

pub shape_of-members-then-is_line : goal.shape_of-members-then-is_line
shape_of-members-then-is_line c =
    c.book_step.auto.members ∙ c.loop-at.invariant.8

pub shape_of-scratch-then-is_line : goal.shape_of-scratch-then-is_line
shape_of-scratch-then-is_line c =
    c.book_step.auto.scratch ∙ c.loop-at.invariant.9

pub shape_of-struck-then-is_line : goal.shape_of-struck-then-is_line
shape_of-struck-then-is_line c =
    c.book_step.auto.struck ∙ c.loop-at.invariant.10

pub returns-then-is_line : goal.returns-then-is_line
returns-then-is_line c =
    let G = c.loop-at.invariant.0 in record {
      fact = reading-taken _ _ _ _ _ _ _ _ _ _ G _ c.record_from-r.ensures _
          (ap (λ n. c.loop-at.at + n) (c.record_length.ensures ∙ ap length_of c.record_from-r.ensures)) _ refl
          (lent_of c.book_step.new.vars c.book_step.new.lows c.book_step.new.highs c.book_step.new.heads c.book_step.new.links
          c.book_step.new.members c.book_step.new.scratch
          c.book_step.new.struck) _
          c.book_step.ensures.fact _ c.in-Next.is (sym c.is_line.ensures ∙ c.if-is_line.true);
      marks_after = c.book_step.ensures.marks_after ∙ ap unmarked c.loop-at.invariant.1;
    }

pub loop-at-smaller : goal.loop-at-smaller
loop-at-smaller c =
    let G = c.loop-at.invariant.0 in let on = reading-goes _ _ _ _ _ _ _ _ _ _ G _ c.record_from-r.ensures _
    (ap (λ n. c.loop-at.at + n) (c.record_length.ensures ∙ ap length_of c.record_from-r.ensures)) _ refl
    (lent_of c.book_step.new.vars c.book_step.new.lows c.book_step.new.highs c.book_step.new.heads c.book_step.new.links
    c.book_step.new.members c.book_step.new.scratch
    c.book_step.new.struck) _
    c.book_step.ensures.fact _ c.in-Next.is in omega (arith, on.0, on.1)

pub loop-at-preserved : goal.loop-at-preserved
loop-at-preserved c =
    let G = c.loop-at.invariant.0 in (
      reading-next _ _ _ _ _ _ _ _ _ _ G _ c.record_from-r.ensures _
          (ap (λ n. c.loop-at.at + n) (c.record_length.ensures ∙ ap length_of c.record_from-r.ensures)) _ refl
          (lent_of c.book_step.new.vars c.book_step.new.lows c.book_step.new.highs c.book_step.new.heads c.book_step.new.links
          c.book_step.new.members c.book_step.new.scratch
          c.book_step.new.struck) _
          c.book_step.ensures.fact _ c.in-Next.is (sym c.is_line.ensures ∙ c.if-is_line.false) _ _ c.book_step.auto.vars
          c.book_step.ensures.marks_after c.book_step.auto.memo,
      c.book_step.auto.vars ∙ c.loop-at.invariant.1,
      c.book_step.auto.lows ∙ c.loop-at.invariant.2,
      c.book_step.auto.highs ∙ c.loop-at.invariant.3,
      c.book_step.auto.heads ∙ c.loop-at.invariant.4,
      c.book_step.auto.links ∙ c.loop-at.invariant.5,
      c.book_step.auto.memo ∙ c.loop-at.invariant.6,
      c.book_step.auto.marks
          ∙ c.loop-at.invariant.7,
      c.book_step.auto.members ∙ c.loop-at.invariant.8,
      c.book_step.auto.scratch ∙ c.loop-at.invariant.9,
      c.book_step.auto.struck ∙ c.loop-at.invariant.10,
    )

pub shape_of-vars : goal.shape_of-vars
shape_of-vars c =
    c.loop-at.invariant.1

pub shape_of-lows : goal.shape_of-lows
shape_of-lows c =
    c.loop-at.invariant.2

pub shape_of-highs : goal.shape_of-highs
shape_of-highs c =
    c.loop-at.invariant.3

pub shape_of-heads : goal.shape_of-heads
shape_of-heads c =
    c.loop-at.invariant.4

pub shape_of-links : goal.shape_of-links
shape_of-links c =
    c.loop-at.invariant.5

pub shape_of-memo : goal.shape_of-memo
shape_of-memo c =
    c.loop-at.invariant.6

pub shape_of-marks : goal.shape_of-marks
shape_of-marks c =
    c.loop-at.invariant.7

pub shape_of-members : goal.shape_of-members
shape_of-members c =
    c.loop-at.invariant.8

pub shape_of-scratch : goal.shape_of-scratch
shape_of-scratch c =
    c.loop-at.invariant.9

pub shape_of-struck : goal.shape_of-struck
shape_of-struck c =
    c.loop-at.invariant.10

pub returns : goal.returns
returns c =
    absurd (omega (arith, c.loop-at.invariant.0.within, c.loop-at-test.false))
