-- `remake`: record after record is done again; what is left leads to the same state. Assumes nothing.
use mathlib.Core.Path.{refl, sym, ap, ◌∙◌, subst}
use Prim.Native.Nat.{ℕ, ◌-◌}
use native.Mathlib.Omega.{arith}
use lib.ListN.{length}
use Rattle.conflict.specs.Marks.{unmarked}
use Rattle.commands.proofs.Stream.{record-short}
use Rattle.verdict.specs.Steps as check
use Rattle.state.specs.States.{Lent, lent_of, state_of}
use Rattle.why.specs.Again.{again, Retaken}
use Rattle.remake.specs.Remade.{Remade}
use Rattle.remake.proofs.Remaking.{remaking-last, remaking-on, remakes-is}
use Rattle.remake.proofs.remake.Reads as reads
use Rattle.remake.proofs.remake.Lts as lts
use Rattle.remake.proofs.remake.Tie as tie
use Rattle.remake.proofs.remake.Goals as goal

abbrev entry : lts.Start tie.the-claims reads.Pre reads.Post goal.the-invariant-loop-at goal.the-decreases-loop-at tie.handed_clauses → Lent
entry s = let a = s.args in lent_of a.vars.now a.lows.now a.highs.now a.heads.now a.links.now a.members.now
    a.scratch.now a.struck.now

abbrev here : lts.At-loop tie.the-claims reads.Pre reads.Post goal.the-invariant-loop-at goal.the-decreases-loop-at tie.handed_clauses →
    Lent
here l = lent_of l.loop-at.vars l.loop-at.lows l.loop-at.highs l.loop-at.heads l.loop-at.links l.loop-at.members l.loop-at.scratch
    l.loop-at.struck

abbrev after : lts.After-redo tie.the-claims reads.Pre reads.Post goal.the-invariant-loop-at goal.the-decreases-loop-at tie.handed_clauses →
    Lent
after c = lent_of c.redo-state.new.vars c.redo-state.new.lows c.redo-state.new.highs c.redo-state.new.heads c.redo-state.new.links
    c.redo-state.new.members c.redo-state.new.scratch c.redo-state.new.struck

pub loop-at-init : goal.loop-at-init
loop-at-init c =
    let a = c.args in
    let r = c.requires in (
      record {
        held = r.0;
        left = subst (λ (x : check.State). Retaken a.variables (length a.vars.now) a.proof.now
            (state_of (entry c.before.before.before.before.before.before.before.before.before.before.before.before) a.first) a.from x a.to)
            (remakes-is a.variables (length a.vars.now) a.proof.now
            (state_of (entry c.before.before.before.before.before.before.before.before.before.before.before.before) a.first) a.from a.to
            r.4)
            r.4.taken;
      },
      r.1,
      refl,
      refl,
      refl,
      refl,
      refl,
      refl,
      refl,
      refl,
      refl,
      refl,
    )

pub record_from-r-requires : goal.record_from-r-requires
record_from-r-requires c =
    omega (
      arith,
      c.loop-at-test.true,
      c.requires.3,
    )

pub overflow_add-next : goal.overflow_add-next
overflow_add-next c =
    omega (
      arith,
      c.loop-at-test.true,
      c.requires.3,
      c.record_length.ensures,
      record-short c.record_from-r.result,
    )

pub redo-state-requires : goal.redo-state-requires
redo-state-requires c =
    let a = c.args in (
      c.loop-at.invariant.0.held,
      c.loop-at.invariant.1 ∙ ap unmarked (sym c.loop-at.invariant.2),
      omega (arith, c.requires.2, c.loop-at.invariant.2, c.loop-at.invariant.7),
    )

pub loop-at-smaller : goal.loop-at-smaller
loop-at-smaller c =
    let c12 = c.before.before.before.before.before.before.before.before.before.before.before.before in
    let c24 = c12.before.before.before.before.before.before.before.before.before.before.before.before in
    let c36 = c24.before.before.before.before.before.before.before.before.before.before.before.before in
    let a = c.args in
    let g = remaking-on a.variables (length a.vars.now) a.proof.now
    (again a.to a.variables (length a.vars.now) a.proof.now
    (state_of (entry c36.before.before.before.before.before.before.before.before.before.before.before) a.first) a.from a.to) a.to
    (here c24.before.before.before.before.before.before.before.before.before.before.before) c.loop-at.state c.loop-at.at
    c.loop-at.invariant.0
    c.loop-at-test.true c.record_from-r.result c.record_from-r.ensures _
    c.record_length.ensures (after
    c12.before.before.before.before.before.before.before.before.before) c.redo-state.result
    (subst (λ (k : ℕ). Remade a.variables k (here
    c24.before.before.before.before.before.before.before.before.before.before.before)
    (after c12.before.before.before.before.before.before.before.before.before) c.loop-at.state c.record_from-r.result c.redo-state.result)
    c.loop-at.invariant.2 c.redo-state.ensures.fact) in
    omega (
      arith,
      g.0,
      g.1,
      c.loop-at-test.true,
    )

pub loop-at-preserved : goal.loop-at-preserved
loop-at-preserved c =
    let c12 = c.before.before.before.before.before.before.before.before.before.before.before.before in
    let c24 = c12.before.before.before.before.before.before.before.before.before.before.before.before in
    let c36 = c24.before.before.before.before.before.before.before.before.before.before.before.before in
    let a = c.args in
    let g = remaking-on a.variables (length a.vars.now) a.proof.now
    (again a.to a.variables (length a.vars.now) a.proof.now
    (state_of (entry c36.before.before.before.before.before.before.before.before.before.before.before) a.first) a.from a.to) a.to
    (here c24.before.before.before.before.before.before.before.before.before.before.before) c.loop-at.state c.loop-at.at
    c.loop-at.invariant.0
    c.loop-at-test.true c.record_from-r.result c.record_from-r.ensures _
    c.record_length.ensures (after
    c12.before.before.before.before.before.before.before.before.before) c.redo-state.result
    (subst (λ (k : ℕ). Remade a.variables k (here
    c24.before.before.before.before.before.before.before.before.before.before.before)
    (after c12.before.before.before.before.before.before.before.before.before) c.loop-at.state c.record_from-r.result c.redo-state.result)
    c.loop-at.invariant.2 c.redo-state.ensures.fact) in (
      g.2,
      c.redo-state.ensures.marks_after ∙ ap unmarked c.loop-at.invariant.2,
      c.redo-state.auto.vars ∙ c.loop-at.invariant.2,
      c.redo-state.auto.lows ∙ c.loop-at.invariant.3,
      c.redo-state.auto.highs ∙ c.loop-at.invariant.4,
      c.redo-state.auto.heads ∙ c.loop-at.invariant.5,
      c.redo-state.auto.links ∙ c.loop-at.invariant.6,
      c.redo-state.auto.memo ∙ c.loop-at.invariant.7,
      c.redo-state.auto.marks ∙ c.loop-at.invariant.8,
      c.redo-state.auto.members ∙ c.loop-at.invariant.9,
      c.redo-state.auto.scratch
          ∙ c.loop-at.invariant.10,
      c.redo-state.auto.struck ∙ c.loop-at.invariant.11,
    )

pub shape_of-vars : goal.shape_of-vars
shape_of-vars c =
    c.loop-at.invariant.2

pub shape_of-lows : goal.shape_of-lows
shape_of-lows c =
    c.loop-at.invariant.3

pub shape_of-highs : goal.shape_of-highs
shape_of-highs c =
    c.loop-at.invariant.4

pub shape_of-heads : goal.shape_of-heads
shape_of-heads c =
    c.loop-at.invariant.5

pub shape_of-links : goal.shape_of-links
shape_of-links c =
    c.loop-at.invariant.6

pub shape_of-memo : goal.shape_of-memo
shape_of-memo c =
    c.loop-at.invariant.7

pub shape_of-marks : goal.shape_of-marks
shape_of-marks c =
    c.loop-at.invariant.8

pub shape_of-members : goal.shape_of-members
shape_of-members c =
    c.loop-at.invariant.9

pub shape_of-scratch : goal.shape_of-scratch
shape_of-scratch c =
    c.loop-at.invariant.10

pub shape_of-struck : goal.shape_of-struck
shape_of-struck c =
    c.loop-at.invariant.11

pub returns : goal.returns
returns c =
    let c12 = c.before.before.before.before.before.before.before.before.before.before.before.before in
    let a = c.args in
    record {
      fact = (
        remaking-last a.variables (length a.vars.now) a.proof.now
            (again a.to a.variables (length a.vars.now) a.proof.now
            (state_of (entry c12.before.before)
            a.first) a.from a.to) a.to
            (here c.before.before) c.loop-at.state c.loop-at.at c.loop-at.invariant.0 c.loop-at-test.false,
        c.loop-at.invariant.0.held,
      );
      marks_after = c.loop-at.invariant.1;
    }
