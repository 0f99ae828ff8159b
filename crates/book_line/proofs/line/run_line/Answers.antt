-- `run_line`: the records, then sharing or what a refused call leaves (Ending). Assumes nothing.
use mathlib.Core.Path.{ap, ◌∙◌, subst}
use native.Mathlib.Omega.{arith}
use Rattle.state.specs.States.{lent_of}
use Rattle.book_parts.specs.Lines.{ending_of, EndsHeld}
use Rattle.book_line.proofs.Tests.{tested, few}
use Rattle.book_line.proofs.Ending.{refused-is, rounds-fit, shareable, give-ready, accepted-is}
use Rattle.book_line.proofs.line.run_line.Goals as goal

pub read_line-requires : goal.read_line-requires
read_line-requires c =
    let H = c.requires.fact in
    (H.0, H.1, H.2, (tested _ _ _ _ _ c.requires.line_ready H.0).0.variables)

pub keep-requires : goal.keep-requires
keep-requires c =
    let R = c.requires.line_ready in
    let H = c.requires.fact.0 in
    let t = (tested _ _ _ _ _ R H).0 in
    let m = few _ _ _ _ _ R H in (
      omega (arith, t.charge, t.places-in, R.own),
      omega (arith, m, R.members),
      omega (arith, m, R.members, R.struck),
      omega (arith, m, H.room, H.marked, c.read_line.auto.struck),
    )

pub give-made-requires : goal.give-made-requires
give-made-requires c =
    let g = c.in-Taken.is in
    let m = c.args.first.members in
    let e = c.read_line.ensures.fact.0 ∙ ap (ending_of
    (lent_of c.read_line.new.vars c.read_line.new.lows c.read_line.new.highs c.read_line.new.heads c.read_line.new.links
    c.read_line.new.members c.read_line.new.scratch
    c.read_line.new.struck) m) g in
    let H = subst (EndsHeld (lent_of c.read_line.new.vars c.read_line.new.lows c.read_line.new.highs c.read_line.new.heads
    c.read_line.new.links c.read_line.new.members c.read_line.new.scratch
    c.read_line.new.struck) m) g c.read_line.ensures.fact.1 in record {
      fact = shareable _ _ _ _ _ c.requires.line_ready c.requires.fact.0 c.args.bytes.now c.args.scratch.now
          (lent_of c.read_line.new.vars c.read_line.new.lows c.read_line.new.highs c.read_line.new.heads c.read_line.new.links
          c.read_line.new.members c.read_line.new.scratch
          c.read_line.new.struck) _ e H;
      give_ready = give-ready _ _ _ _ _ c.requires.line_ready c.requires.fact.0 c.args.bytes.now c.args.scratch.now
          (lent_of c.read_line.new.vars c.read_line.new.lows c.read_line.new.highs c.read_line.new.heads c.read_line.new.links
          c.read_line.new.members c.read_line.new.scratch
          c.read_line.new.struck) _ e H;
    }

pub with_line-requires : goal.with_line-requires
with_line-requires c =
    let g = c.in-Taken.is in
    let m = c.args.first.members in
    let e = c.read_line.ensures.fact.0 ∙ ap (ending_of
    (lent_of c.read_line.new.vars c.read_line.new.lows c.read_line.new.highs c.read_line.new.heads c.read_line.new.links
    c.read_line.new.members c.read_line.new.scratch
    c.read_line.new.struck) m) g in
    let H = subst (EndsHeld (lent_of c.read_line.new.vars c.read_line.new.lows c.read_line.new.highs c.read_line.new.heads
    c.read_line.new.links c.read_line.new.members c.read_line.new.scratch
    c.read_line.new.struck) m) g c.read_line.ensures.fact.1 in
    rounds-fit _ _ _ _ _ c.requires.line_ready c.requires.fact.0 c.args.bytes.now c.args.scratch.now
    (lent_of c.read_line.new.vars c.read_line.new.lows c.read_line.new.highs c.read_line.new.heads c.read_line.new.links
    c.read_line.new.members c.read_line.new.scratch
    c.read_line.new.struck) _ e H

pub shape_of-ownvars-in-Ended : goal.shape_of-ownvars-in-Ended
shape_of-ownvars-in-Ended c =
    c.read_line.auto.vars

pub shape_of-ownlows-in-Ended : goal.shape_of-ownlows-in-Ended
shape_of-ownlows-in-Ended c =
    c.read_line.auto.lows

pub shape_of-ownhighs-in-Ended : goal.shape_of-ownhighs-in-Ended
shape_of-ownhighs-in-Ended c =
    c.read_line.auto.highs

pub shape_of-ownheads-in-Ended : goal.shape_of-ownheads-in-Ended
shape_of-ownheads-in-Ended c =
    c.read_line.auto.heads

pub shape_of-ownlinks-in-Ended : goal.shape_of-ownlinks-in-Ended
shape_of-ownlinks-in-Ended c =
    c.read_line.auto.links

pub shape_of-memo-in-Ended : goal.shape_of-memo-in-Ended
shape_of-memo-in-Ended c =
    c.read_line.auto.memo

pub shape_of-marks-in-Ended : goal.shape_of-marks-in-Ended
shape_of-marks-in-Ended c =
    c.read_line.auto.marks

pub shape_of-found-in-Ended : goal.shape_of-found-in-Ended
shape_of-found-in-Ended c =
    c.read_line.auto.members

pub shape_of-scratch-in-Ended : goal.shape_of-scratch-in-Ended
shape_of-scratch-in-Ended c =
    c.read_line.auto.scratch

pub shape_of-strikes-in-Ended : goal.shape_of-strikes-in-Ended
shape_of-strikes-in-Ended c =
    c.read_line.auto.struck

pub shape_of-own-in-Ended : goal.shape_of-own-in-Ended
shape_of-own-in-Ended c =
    c.keep.auto.own

pub shape_of-members-in-Ended : goal.shape_of-members-in-Ended
shape_of-members-in-Ended c =
    c.keep.auto.members

pub shape_of-struck-in-Ended : goal.shape_of-struck-in-Ended
shape_of-struck-in-Ended c =
    c.keep.auto.struck

pub returns-in-Ended : goal.returns-in-Ended
returns-in-Ended c =
    let g = c.in-Ended.is in
    let m = c.args.first.members in
    let e = c.read_line.ensures.fact.0 ∙ ap (ending_of
    (lent_of c.read_line.new.vars c.read_line.new.lows c.read_line.new.highs c.read_line.new.heads c.read_line.new.links
    c.read_line.new.members c.read_line.new.scratch
    c.read_line.new.struck) m) g in
    refused-is _ _ _ _ _ c.requires.line_ready c.requires.fact.0 c.args.bytes.now c.args.scratch.now _ _ _
    (lent_of c.read_line.new.vars c.read_line.new.lows c.read_line.new.highs c.read_line.new.heads c.read_line.new.links
    c.read_line.new.members c.read_line.new.scratch
    c.read_line.new.struck).struck e _ _ _
    c.keep.ensures.own_after c.keep.ensures.members_after c.keep.ensures.struck_after _ c.bound.ensures _ c.said_by.ensures

pub shape_of-ownvars-in-Taken : goal.shape_of-ownvars-in-Taken
shape_of-ownvars-in-Taken c =
    c.read_line.auto.vars

pub shape_of-ownlows-in-Taken : goal.shape_of-ownlows-in-Taken
shape_of-ownlows-in-Taken c =
    c.read_line.auto.lows

pub shape_of-ownhighs-in-Taken : goal.shape_of-ownhighs-in-Taken
shape_of-ownhighs-in-Taken c =
    c.read_line.auto.highs

pub shape_of-ownheads-in-Taken : goal.shape_of-ownheads-in-Taken
shape_of-ownheads-in-Taken c =
    c.read_line.auto.heads

pub shape_of-ownlinks-in-Taken : goal.shape_of-ownlinks-in-Taken
shape_of-ownlinks-in-Taken c =
    c.read_line.auto.links

pub shape_of-memo-in-Taken : goal.shape_of-memo-in-Taken
shape_of-memo-in-Taken c =
    c.read_line.auto.memo

pub shape_of-marks-in-Taken : goal.shape_of-marks-in-Taken
shape_of-marks-in-Taken c =
    c.read_line.auto.marks

pub shape_of-found-in-Taken : goal.shape_of-found-in-Taken
shape_of-found-in-Taken c =
    c.read_line.auto.members

pub shape_of-scratch-in-Taken : goal.shape_of-scratch-in-Taken
shape_of-scratch-in-Taken c =
    c.read_line.auto.scratch

pub shape_of-strikes-in-Taken : goal.shape_of-strikes-in-Taken
shape_of-strikes-in-Taken c =
    c.read_line.auto.struck

pub shape_of-vars : goal.shape_of-vars
shape_of-vars c =
    c.give-made.auto.vars

pub shape_of-lows : goal.shape_of-lows
shape_of-lows c =
    c.give-made.auto.lows

pub shape_of-highs : goal.shape_of-highs
shape_of-highs c =
    c.give-made.auto.highs

pub shape_of-heads : goal.shape_of-heads
shape_of-heads c =
    c.give-made.auto.heads

pub shape_of-links : goal.shape_of-links
shape_of-links c =
    c.give-made.auto.links

pub shape_of-own-in-Taken : goal.shape_of-own-in-Taken
shape_of-own-in-Taken c =
    c.give-made.auto.own

pub shape_of-members-in-Taken : goal.shape_of-members-in-Taken
shape_of-members-in-Taken c =
    c.give-made.auto.members

pub shape_of-struck-in-Taken : goal.shape_of-struck-in-Taken
shape_of-struck-in-Taken c =
    c.give-made.auto.struck

pub returns-in-Taken : goal.returns-in-Taken
returns-in-Taken c =
    let g = c.in-Taken.is in
    let m = c.args.first.members in
    let e = c.read_line.ensures.fact.0 ∙ ap (ending_of
    (lent_of c.read_line.new.vars c.read_line.new.lows c.read_line.new.highs c.read_line.new.heads c.read_line.new.links
    c.read_line.new.members c.read_line.new.scratch
    c.read_line.new.struck) m) g in
    let H = subst (EndsHeld (lent_of c.read_line.new.vars c.read_line.new.lows c.read_line.new.highs c.read_line.new.heads
    c.read_line.new.links c.read_line.new.members c.read_line.new.scratch
    c.read_line.new.struck) m) g c.read_line.ensures.fact.1 in
    accepted-is _ _ _ _ _ c.requires.line_ready c.requires.fact.0 c.args.bytes.now c.args.scratch.now
    (lent_of c.read_line.new.vars c.read_line.new.lows c.read_line.new.highs c.read_line.new.heads c.read_line.new.links
    c.read_line.new.members c.read_line.new.scratch
    c.read_line.new.struck) _ e H _ _ _ _ c.give-made.ensures _
    c.with_line.ensures _ c.said_by-in-Taken.ensures
