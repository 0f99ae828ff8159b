-- `read_commands` says what the definition says of the proof: at the loop's head what is to be said is what is left to be said (Going).
-- Assumes nothing.
use mathlib.Core.Path.{refl, ◌∙◌}
use Prim.Native.Nat.{◌-◌}
use native.Mathlib.Omega.{arith}
use Rattle.state.specs.States.{lent_of}
use Rattle.replay.proofs.Going.{going_start, going-asks, going-reads, going-near, going-stop, going-spent, next-in}
use Rattle.replay.proofs.Going.{going_next, going-refused, next_is}
use Rattle.replay.proofs.read_commands.Goals as goal

pub loop-at-init : goal.loop-at-init
loop-at-init c =
    (going_start _ _ _ _ _ _ _ _ c.start_of-at.ensures.value c.requires, refl, refl, refl, refl, refl, refl, refl, refl, refl, refl)

pub admitted_at-requires : goal.admitted_at-requires
admitted_at-requires c =
    let G = c.loop-at.invariant.0 in
    (G.within, G.held.entries.narrow)

pub shape_of-vars-in-Err : goal.shape_of-vars-in-Err
shape_of-vars-in-Err c = c.loop-at.invariant.1

pub shape_of-lows-in-Err : goal.shape_of-lows-in-Err
shape_of-lows-in-Err c = c.loop-at.invariant.2

pub shape_of-highs-in-Err : goal.shape_of-highs-in-Err
shape_of-highs-in-Err c = c.loop-at.invariant.3

pub shape_of-heads-in-Err : goal.shape_of-heads-in-Err
shape_of-heads-in-Err c = c.loop-at.invariant.4

pub shape_of-links-in-Err : goal.shape_of-links-in-Err
shape_of-links-in-Err c = c.loop-at.invariant.5

pub shape_of-memo-in-Err : goal.shape_of-memo-in-Err
shape_of-memo-in-Err c = c.loop-at.invariant.6

pub shape_of-marks-in-Err : goal.shape_of-marks-in-Err
shape_of-marks-in-Err c = c.loop-at.invariant.7

pub shape_of-members-in-Err : goal.shape_of-members-in-Err
shape_of-members-in-Err c = c.loop-at.invariant.8

pub shape_of-scratch-in-Err : goal.shape_of-scratch-in-Err
shape_of-scratch-in-Err c = c.loop-at.invariant.9

pub shape_of-struck-in-Err : goal.shape_of-struck-in-Err
shape_of-struck-in-Err c = c.loop-at.invariant.10

pub returns-in-Err : goal.returns-in-Err
returns-in-Err c =
    let all = going-refused _ _ _ _ _ _ _ _ _ _ c.loop-at.invariant.0 _ c.in-Err.ensures in
    record { first_after = all.0; fact = all.1 }

pub command_step-requires : goal.command_step-requires
command_step-requires c = going-asks _ _ _ _ _ _ _ _ _ _ c.loop-at.invariant.0 _ c.in-Ok.ensures

pub overflow_add-result : goal.overflow_add-result
overflow_add-result c =
    let near = going-near _ _ _ _ _ _ _ _ _ _ c.loop-at.invariant.0
    (lent_of c.command_step.new.vars c.command_step.new.lows c.command_step.new.highs c.command_step.new.heads
    c.command_step.new.links c.command_step.new.members c.command_step.new.scratch c.command_step.new.struck) _
    (going-reads _ _ _ _ _ _ _ _ _ _ c.loop-at.invariant.0 _ c.in-Ok.ensures
    (lent_of c.command_step.new.vars c.command_step.new.lows c.command_step.new.highs c.command_step.new.heads
    c.command_step.new.links c.command_step.new.members c.command_step.new.scratch c.command_step.new.struck) _
    c.command_step.ensures.stepped) _ _
    c.in-Stop.is in
    omega (arith, near)

pub shape_of-vars-in-Stop : goal.shape_of-vars-in-Stop
shape_of-vars-in-Stop c =
    c.command_step.auto.vars ∙ c.loop-at.invariant.1

pub shape_of-lows-in-Stop : goal.shape_of-lows-in-Stop
shape_of-lows-in-Stop c =
    c.command_step.auto.lows ∙ c.loop-at.invariant.2

pub shape_of-highs-in-Stop : goal.shape_of-highs-in-Stop
shape_of-highs-in-Stop c =
    c.command_step.auto.highs ∙ c.loop-at.invariant.3

pub shape_of-heads-in-Stop : goal.shape_of-heads-in-Stop
shape_of-heads-in-Stop c =
    c.command_step.auto.heads ∙ c.loop-at.invariant.4

pub shape_of-links-in-Stop : goal.shape_of-links-in-Stop
shape_of-links-in-Stop c =
    c.command_step.auto.links ∙ c.loop-at.invariant.5

pub shape_of-memo-in-Stop : goal.shape_of-memo-in-Stop
shape_of-memo-in-Stop c =
    c.command_step.auto.memo ∙ c.loop-at.invariant.6

pub shape_of-marks-in-Stop : goal.shape_of-marks-in-Stop
shape_of-marks-in-Stop c =
    c.command_step.auto.marks ∙ c.loop-at.invariant.7

pub shape_of-members-in-Stop : goal.shape_of-members-in-Stop
shape_of-members-in-Stop c =
    c.command_step.auto.members ∙ c.loop-at.invariant.8

pub shape_of-scratch-in-Stop : goal.shape_of-scratch-in-Stop
shape_of-scratch-in-Stop c =
    c.command_step.auto.scratch ∙ c.loop-at.invariant.9

pub shape_of-struck-in-Stop : goal.shape_of-struck-in-Stop
shape_of-struck-in-Stop c =
    c.command_step.auto.struck ∙ c.loop-at.invariant.10

pub returns-in-Stop : goal.returns-in-Stop
returns-in-Stop c =
    let all = let G = c.loop-at.invariant.0 in
    let X = going-reads _ _ _ _ _ _ _ _ _ _ G _ c.in-Ok.ensures
    (lent_of c.command_step.new.vars c.command_step.new.lows c.command_step.new.highs c.command_step.new.heads
    c.command_step.new.links c.command_step.new.members c.command_step.new.scratch c.command_step.new.struck) _
    c.command_step.ensures.stepped in
    going-stop _ _ _ _ _ _ _ _ _ _ G
    (lent_of c.command_step.new.vars c.command_step.new.lows c.command_step.new.highs c.command_step.new.heads
    c.command_step.new.links c.command_step.new.members c.command_step.new.scratch c.command_step.new.struck) _ X _ _ c.in-Stop.is in
    record { first_after = all.0; fact = all.1 }

pub shape_of-vars-in-Spent : goal.shape_of-vars-in-Spent
shape_of-vars-in-Spent c =
    c.command_step.auto.vars ∙ c.loop-at.invariant.1

pub shape_of-lows-in-Spent : goal.shape_of-lows-in-Spent
shape_of-lows-in-Spent c =
    c.command_step.auto.lows ∙ c.loop-at.invariant.2

pub shape_of-highs-in-Spent : goal.shape_of-highs-in-Spent
shape_of-highs-in-Spent c =
    c.command_step.auto.highs ∙ c.loop-at.invariant.3

pub shape_of-heads-in-Spent : goal.shape_of-heads-in-Spent
shape_of-heads-in-Spent c =
    c.command_step.auto.heads ∙ c.loop-at.invariant.4

pub shape_of-links-in-Spent : goal.shape_of-links-in-Spent
shape_of-links-in-Spent c =
    c.command_step.auto.links ∙ c.loop-at.invariant.5

pub shape_of-memo-in-Spent : goal.shape_of-memo-in-Spent
shape_of-memo-in-Spent c =
    c.command_step.auto.memo ∙ c.loop-at.invariant.6

pub shape_of-marks-in-Spent : goal.shape_of-marks-in-Spent
shape_of-marks-in-Spent c =
    c.command_step.auto.marks ∙ c.loop-at.invariant.7

pub shape_of-members-in-Spent : goal.shape_of-members-in-Spent
shape_of-members-in-Spent c =
    c.command_step.auto.members ∙ c.loop-at.invariant.8

pub shape_of-scratch-in-Spent : goal.shape_of-scratch-in-Spent
shape_of-scratch-in-Spent c =
    c.command_step.auto.scratch ∙ c.loop-at.invariant.9

pub shape_of-struck-in-Spent : goal.shape_of-struck-in-Spent
shape_of-struck-in-Spent c =
    c.command_step.auto.struck ∙ c.loop-at.invariant.10

pub returns-in-Spent : goal.returns-in-Spent
returns-in-Spent c =
    let all = let G = c.loop-at.invariant.0 in
    let X = going-reads _ _ _ _ _ _ _ _ _ _ G _ c.in-Ok.ensures
    (lent_of c.command_step.new.vars c.command_step.new.lows c.command_step.new.highs c.command_step.new.heads
    c.command_step.new.links c.command_step.new.members c.command_step.new.scratch c.command_step.new.struck) _
    c.command_step.ensures.stepped in
    going-spent _ _ _ _ _ _ _ _ _ _ G
    (lent_of c.command_step.new.vars c.command_step.new.lows c.command_step.new.highs c.command_step.new.heads
    c.command_step.new.links c.command_step.new.members c.command_step.new.scratch c.command_step.new.struck) _ X _ _ c.in-Spent.is in
    record { first_after = all.0; fact = all.1 }

pub loop-at-smaller : goal.loop-at-smaller
loop-at-smaller c =
    let G = c.loop-at.invariant.0 in
    let X = going-reads _ _ _ _ _ _ _ _ _ _ G _ c.in-Ok.ensures
    (lent_of c.command_step.new.vars c.command_step.new.lows c.command_step.new.highs c.command_step.new.heads
    c.command_step.new.links c.command_step.new.members c.command_step.new.scratch c.command_step.new.struck) _
    c.command_step.ensures.stepped in
    let next = next-in _ _ _ _ _ _ _ _ _ _ G
    (lent_of c.command_step.new.vars c.command_step.new.lows c.command_step.new.highs c.command_step.new.heads
    c.command_step.new.links c.command_step.new.members c.command_step.new.scratch c.command_step.new.struck) _ X _ c.in-Next.is in
    let is = next_is _ _ _ _ _ _ _ _ _ _ G _ c.in-Ok.ensures in
    omega (arith, next.0, next.1, is)

pub loop-at-preserved : goal.loop-at-preserved
loop-at-preserved c =
    let G = c.loop-at.invariant.0 in
    let X = going-reads _ _ _ _ _ _ _ _ _ _ G _ c.in-Ok.ensures
    (lent_of c.command_step.new.vars c.command_step.new.lows c.command_step.new.highs c.command_step.new.heads
    c.command_step.new.links c.command_step.new.members c.command_step.new.scratch c.command_step.new.struck) _
    c.command_step.ensures.stepped in
    let is = next_is _ _ _ _ _ _ _ _ _ _ G _ c.in-Ok.ensures in
    let on = going_next _ _ _ _ _ _ _ _ _ _ G
    (lent_of c.command_step.new.vars c.command_step.new.lows c.command_step.new.highs c.command_step.new.heads
    c.command_step.new.links c.command_step.new.members c.command_step.new.scratch c.command_step.new.struck) _ X _ c.in-Next.is _ _ _ is
    c.command_step.auto.vars
    c.command_step.ensures.marks_after c.command_step.auto.memo in (
      on,
      c.command_step.auto.vars ∙ c.loop-at.invariant.1,
      c.command_step.auto.lows ∙ c.loop-at.invariant.2,
      c.command_step.auto.highs ∙ c.loop-at.invariant.3,
      c.command_step.auto.heads
          ∙ c.loop-at.invariant.4,
      c.command_step.auto.links ∙ c.loop-at.invariant.5,
      c.command_step.auto.memo ∙ c.loop-at.invariant.6,
      c.command_step.auto.marks ∙ c.loop-at.invariant.7,
      c.command_step.auto.members ∙ c.loop-at.invariant.8,
      c.command_step.auto.scratch
          ∙ c.loop-at.invariant.9,
      c.command_step.auto.struck ∙ c.loop-at.invariant.10,
    )

pub shape_of-vars : goal.shape_of-vars
shape_of-vars c =
    c.loop-at.invariant.1

pub shape_of-lows : goal.shape_of-lows
shape_of-lows c =
    c.loop-at.invariant.2

pub shape_of-highs : goal.shape_of-highs
shape_of-highs c =
    c.loop-at.invariant.3

pub shape_of-heads : goal.shape_of-heads
shape_of-heads c =
    c.loop-at.invariant.4

pub shape_of-links : goal.shape_of-links
shape_of-links c =
    c.loop-at.invariant.5

pub shape_of-memo : goal.shape_of-memo
shape_of-memo c =
    c.loop-at.invariant.6

pub shape_of-marks : goal.shape_of-marks
shape_of-marks c =
    c.loop-at.invariant.7

pub shape_of-members : goal.shape_of-members
shape_of-members c =
    c.loop-at.invariant.8

pub shape_of-scratch : goal.shape_of-scratch
shape_of-scratch c =
    c.loop-at.invariant.9

pub shape_of-struck : goal.shape_of-struck
shape_of-struck c =
    c.loop-at.invariant.10

pub returns : goal.returns
returns c =
    let within = c.loop-at.invariant.0.within in
    record {
      first_after = absurd (omega (arith, within, c.loop-at-test.false));
      fact = absurd (omega (arith, within, c.loop-at-test.false));
    }
