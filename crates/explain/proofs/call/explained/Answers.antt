-- `explained`: the piece, and the cause where there is one beside the number. Assumes nothing.
use mathlib.Core.Path.{◌≡◌, sym, ap, ◌∙◌, subst}
use mathlib.Core.Bool.{true}
use Prim.Native.Nat.{ℕ}
use lib.ListN.{length}
use borrow.Author.Tests.{not-true}
use Rattle.table.specs.Columns.{columns_made}
use Rattle.state.specs.States.{Lent}
use Rattle.line_again.specs.Before.{has_cause}
use Rattle.command_causes.specs.declared.Cause.{Cause}
use Rattle.explain.specs.Inner.{why_of}
use Rattle.explain.specs.Why.{why_outcome}
use Rattle.explain.proofs.Explaining.{piece-asks, explained-so, explained-plain}
use Rattle.explain.proofs.call.explained.Goals as goal

pub piece_end-end-requires : goal.piece_end-end-requires
piece_end-end-requires c =
    piece-asks c.args.mode (length c.args.vars.now) c.args.formula.now
    c.args.proof.now c.requires.1 c.args.checked c.requires.2 c.requires.3 c.requires.4

pub returns-then-not-has_cause : goal.returns-then-not-has_cause
returns-then-not-has_cause c =
    ap (why_outcome (columns_made c.args.vars.now c.args.lows.now c.args.highs.now c.args.heads.now c.args.links.now)
    c.args.members.now c.args.struck.now c.args.scratch.now c.args.fixed.now)
    (c.why_of.ensures ∙ ap (λ (k : Cause). why_of c.args.checked c.piece_end-end.result k) c.no_cause.ensures)
    ∙ explained-plain c.args.mode (length c.args.vars.now) c.args.formula.now c.args.proof.now c.requires.1
    c.args.checked c.requires.2 c.requires.3 c.requires.4
    (columns_made c.args.vars.now c.args.lows.now c.args.highs.now c.args.heads.now c.args.links.now)
    c.args.members.now c.args.struck.now c.args.scratch.now c.piece_end-end.result c.piece_end-end.ensures
    (sym c.has_cause.ensures ∙ not-true _ c.if-not-has_cause.true-raw) c.args.fixed.now c.requires.6

pub cause_again-cause-requires : goal.cause_again-cause-requires
cause_again-cause-requires c = (
  c.requires.0,
  subst (λ (k : ℕ). has_cause k ≡ true) c.requires.2
      (sym c.has_cause.ensures ∙ c.if-not-has_cause.false),
  c.requires.2,
  c.requires.4,
  c.requires.5,
  c.requires.6,
)

pub shape_of-vars : goal.shape_of-vars
shape_of-vars c =
    c.cause_again-cause.auto.vars

pub shape_of-lows : goal.shape_of-lows
shape_of-lows c =
    c.cause_again-cause.auto.lows

pub shape_of-highs : goal.shape_of-highs
shape_of-highs c =
    c.cause_again-cause.auto.highs

pub shape_of-heads : goal.shape_of-heads
shape_of-heads c =
    c.cause_again-cause.auto.heads

pub shape_of-links : goal.shape_of-links
shape_of-links c =
    c.cause_again-cause.auto.links

pub shape_of-members : goal.shape_of-members
shape_of-members c =
    c.cause_again-cause.auto.members

pub shape_of-scratch : goal.shape_of-scratch
shape_of-scratch c =
    c.cause_again-cause.auto.scratch

pub shape_of-struck : goal.shape_of-struck
shape_of-struck c =
    c.cause_again-cause.auto.struck

pub shape_of-fixed : goal.shape_of-fixed
shape_of-fixed c =
    c.cause_again-cause.auto.fixed

pub returns : goal.returns
returns c =
    ap (λ (x : Lent). why_outcome (columns_made x.vars x.lows x.highs x.heads x.links) x.members x.struck x.scratch
    c.cause_again-cause.new.fixed c.why_of-2.result) c.cause_again-cause.ensures.returned_after
    ∙ ap (why_outcome (columns_made c.args.vars.now c.args.lows.now c.args.highs.now c.args.heads.now
    c.args.links.now) c.args.members.now c.args.struck.now c.args.scratch.now
    c.cause_again-cause.new.fixed) c.why_of-2.ensures
    ∙ explained-so c.args.mode (length c.args.vars.now) c.args.formula.now c.args.proof.now c.requires.1
    c.args.checked c.requires.2 c.requires.3 c.requires.4
    (columns_made c.args.vars.now c.args.lows.now c.args.highs.now c.args.heads.now c.args.links.now)
    c.args.members.now c.args.struck.now c.args.scratch.now c.piece_end-end.result c.piece_end-end.ensures
    c.cause_again-cause.result c.cause_again-cause.new.fixed
    (length c.args.fixed.now) c.cause_again-cause.ensures.fixed_after
