-- `read_records`: record after record. The idea: what is left of the loop is what is left of the definition's recursion. Assumes nothing.
use mathlib.Core.Path.{refl, ap, ◌∙◌}
use native.Mathlib.Omega.{arith}
use Prim.Native.Nat.{suc, ◌+◌}
use lib.ListN.{length}
use lib.Dec.{ltb}
use Rattle.commands.proofs.Stream.{record-short}
use Rattle.small.specs.WordSteps.{word_records}
use Rattle.small.specs.Lent.{words_lent, state_of}
use Rattle.small.proofs.RunWays.{going_start, going-near, going-stop, going_next}
use Rattle.small.proofs.proof.read_records.Goals as goal

pub loop-at-init : goal.loop-at-init
loop-at-init c = (
  going_start c.args.variables c.args.proof.now
      (words_lent c.args.members.now c.args.struck.now
      c.args.scratch.now) c.args.first c.requires,
  refl,
  refl,
  refl,
)

pub overflow_add-next : goal.overflow_add-next
overflow_add-next c = omega (
  arith,
  c.loop-at.invariant.0.within,
  c.record_length.ensures,
  record-short
      c.record_from-record.result,
)

pub record_step-requires : goal.record_step-requires
record_step-requires c = c.loop-at.invariant.0.held

pub overflow_add-result : goal.overflow_add-result
overflow_add-result c = omega (
  arith,
  c.loop-at.invariant.0.within,
  going-near c.args.variables
      c.args.proof.now (word_records (suc (length c.args.proof.now))
      c.args.variables c.args.proof.now
      (state_of (words_lent c.args.members.now c.args.struck.now
      c.args.scratch.now) c.args.first) 0)
      (words_lent c.loop-at.members c.loop-at.struck c.loop-at.scratch)
      c.loop-at.state c.loop-at.at c.loop-at.invariant.0
      c.record_from-record.result c.record_from-record.ensures
      (c.loop-at.at + c.record_length.result)
      (ap (◌+◌ c.loop-at.at) c.record_length.ensures)
      (ltb (c.loop-at.at + c.record_length.result)
      (length c.args.proof.now)) refl (words_lent c.record_step.new.members
      c.record_step.new.struck c.record_step.new.scratch)
      c.in-Err.stop.number c.in-Err.stop.offset c.record_step.result
      c.in-Err.is c.record_step.ensures,
)

pub shape_of-members-in-Err : goal.shape_of-members-in-Err
shape_of-members-in-Err c = c.record_step.auto.members ∙ c.loop-at.invariant.1

pub shape_of-struck-in-Err : goal.shape_of-struck-in-Err
shape_of-struck-in-Err c = c.record_step.auto.struck ∙ c.loop-at.invariant.2

pub shape_of-scratch-in-Err : goal.shape_of-scratch-in-Err
shape_of-scratch-in-Err c = c.record_step.auto.scratch ∙ c.loop-at.invariant.3

pub returns-in-Err : goal.returns-in-Err
returns-in-Err c = going-stop c.args.variables c.args.proof.now
    (word_records (suc (length c.args.proof.now)) c.args.variables
    c.args.proof.now (state_of (words_lent c.args.members.now
    c.args.struck.now c.args.scratch.now) c.args.first) 0)
    (words_lent c.loop-at.members c.loop-at.struck c.loop-at.scratch)
    c.loop-at.state c.loop-at.at c.loop-at.invariant.0
    c.record_from-record.result c.record_from-record.ensures
    (c.loop-at.at + c.record_length.result)
    (ap (◌+◌ c.loop-at.at) c.record_length.ensures)
    (ltb (c.loop-at.at + c.record_length.result)
    (length c.args.proof.now)) refl (words_lent c.record_step.new.members
    c.record_step.new.struck c.record_step.new.scratch)
    c.in-Err.stop.number c.in-Err.stop.offset c.record_step.result
    c.in-Err.is c.record_step.ensures

pub loop-at-smaller : goal.loop-at-smaller
loop-at-smaller c = omega (
  arith,
  c.loop-at.invariant.0.within,
  (going_next c.args.variables
      c.args.proof.now (word_records (suc (length c.args.proof.now))
      c.args.variables c.args.proof.now
      (state_of (words_lent c.args.members.now c.args.struck.now
      c.args.scratch.now) c.args.first) 0)
      (words_lent c.loop-at.members c.loop-at.struck
      c.loop-at.scratch) c.loop-at.state c.loop-at.at
      c.loop-at.invariant.0 c.record_from-record.result
      c.record_from-record.ensures (c.loop-at.at + c.record_length.result) (ap (◌+◌ c.loop-at.at) c.record_length.ensures)
      (ltb (c.loop-at.at + c.record_length.result)
      (length c.args.proof.now)) refl (words_lent c.record_step.new.members
      c.record_step.new.struck c.record_step.new.scratch)
      c.in-Ok.s c.record_step.result c.in-Ok.is
      c.record_step.ensures).1,
  (going_next c.args.variables
      c.args.proof.now (word_records (suc (length c.args.proof.now))
      c.args.variables c.args.proof.now
      (state_of (words_lent c.args.members.now c.args.struck.now
      c.args.scratch.now) c.args.first) 0)
      (words_lent c.loop-at.members c.loop-at.struck
      c.loop-at.scratch) c.loop-at.state c.loop-at.at
      c.loop-at.invariant.0 c.record_from-record.result
      c.record_from-record.ensures (c.loop-at.at + c.record_length.result) (ap (◌+◌ c.loop-at.at) c.record_length.ensures)
      (ltb (c.loop-at.at + c.record_length.result)
      (length c.args.proof.now)) refl (words_lent c.record_step.new.members
      c.record_step.new.struck c.record_step.new.scratch)
      c.in-Ok.s c.record_step.result c.in-Ok.is
      c.record_step.ensures).0.within,
)

pub loop-at-preserved : goal.loop-at-preserved
loop-at-preserved c = (
  (going_next c.args.variables c.args.proof.now
      (word_records (suc (length c.args.proof.now)) c.args.variables
      c.args.proof.now (state_of (words_lent c.args.members.now
      c.args.struck.now c.args.scratch.now) c.args.first) 0)
      (words_lent c.loop-at.members c.loop-at.struck
      c.loop-at.scratch) c.loop-at.state c.loop-at.at
      c.loop-at.invariant.0 c.record_from-record.result
      c.record_from-record.ensures (c.loop-at.at + c.record_length.result) (ap (◌+◌ c.loop-at.at) c.record_length.ensures)
      (ltb (c.loop-at.at + c.record_length.result)
      (length c.args.proof.now)) refl (words_lent c.record_step.new.members
      c.record_step.new.struck c.record_step.new.scratch)
      c.in-Ok.s c.record_step.result c.in-Ok.is
      c.record_step.ensures).0,
  c.record_step.auto.members ∙ c.loop-at.invariant.1,
  c.record_step.auto.struck ∙ c.loop-at.invariant.2,
  c.record_step.auto.scratch ∙ c.loop-at.invariant.3,
)

pub shape_of-members : goal.shape_of-members
shape_of-members c = c.loop-at.invariant.1

pub shape_of-struck : goal.shape_of-struck
shape_of-struck c = c.loop-at.invariant.2

pub shape_of-scratch : goal.shape_of-scratch
shape_of-scratch c = c.loop-at.invariant.3

pub returns : goal.returns
returns c = absurd (omega (arith, c.loop-at.invariant.0.within, c.loop-at-test.false))
