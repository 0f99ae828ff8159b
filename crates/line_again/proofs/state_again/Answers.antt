-- `state_again`: the state as the line began; in records the line's records done again over it. Assumes nothing.
use mathlib.Core.Path.{◌≡◌, sym, ◌∙◌}
use mathlib.Core.Bool.{false}
use Rattle.commands.specs.Commands.{is_drat}
use Rattle.state.specs.States.{Lent, lent_of}
use Rattle.line_again.proofs.Making.{few-lines, made_of, drat-made, start-asks, remake-asks, records-made}
use Rattle.line_again.proofs.state_again.Reads as reads
use Rattle.line_again.proofs.state_again.Lts as lts
use Rattle.line_again.proofs.state_again.Tie as tie
use Rattle.line_again.proofs.state_again.Goals as goal

module _ (s : lts.Start tie.the-claims reads.Pre reads.Post tie.handed_clauses) where
  abbrev lent : Lent
  lent = let a = s.args in lent_of a.vars.now a.lows.now a.highs.now a.heads.now a.links.now a.members.now
      a.scratch.now a.struck.now

module _ (c : lts.Else1 tie.the-claims reads.Pre reads.Post tie.handed_clauses) where
  records : is_drat c.args.mode.form ≡ false
  records = sym c.is_drat.ensures ∙ c.if-is_drat.false

module _ (c : lts.After-remake tie.the-claims reads.Pre reads.Post tie.handed_clauses) where
  abbrev returned : Lent
  returned = lent_of c.remake-state.new.vars c.remake-state.new.lows c.remake-state.new.highs c.remake-state.new.heads
      c.remake-state.new.links c.remake-state.new.members
      c.remake-state.new.scratch c.remake-state.new.struck

pub begun_of-begun-requires : goal.begun_of-begun-requires
begun_of-begun-requires c =
    let c12 = c.before.before.before.before.before.before.before.before.before.before.before.before in
    few-lines c.args.mode c.args.formula.now c.args.proof.now
    (lent c12.before)
    c.args.count c.args.lines c.args.place c.requires.0 c.requires.1 c.requires.2

pub returns-then-is_drat : goal.returns-then-is_drat
returns-then-is_drat c =
    let c12 = c.before.before.before.before.before.before.before.before.before.before.before.before in
    record {
      made_again = made_of c.args.mode c.args.formula.now c.args.proof.now
          (lent c12.before.before.before.before)
          c.args.count c.args.lines c.args.place
          c.requires.0 c.requires.1 c.requires.2
          (lent c12.before.before.before.before)
          c.begun_of-begun.result
          (drat-made c.args.mode c.args.formula.now c.args.proof.now
          (lent c12.before.before.before.before)
          c.args.count c.args.lines
          c.args.place c.requires.0 c.requires.1 c.requires.2 c.begun_of-begun.result c.begun_of-begun.ensures
          (sym c.is_drat.ensures ∙ c.if-is_drat.true));
      marks_after = c.requires.3;
    }

pub line_start-from-requires : goal.line_start-from-requires
line_start-from-requires c =
    let c12 = c.before.before.before.before.before.before.before.before.before.before.before.before in
    start-asks c.args.mode c.args.formula.now c.args.proof.now
    (lent c12.before.before.before.before)
    c.args.count c.args.lines c.args.place
    c.requires.0 c.requires.1 c.requires.2 c.begun_of-begun.result c.begun_of-begun.ensures (records c.before)

pub remake-state-requires : goal.remake-state-requires
remake-state-requires c =
    let c12 = c.before.before.before.before.before.before.before.before.before.before.before.before in
    let c24 = c12.before.before.before.before.before.before.before.before.before.before.before.before in
    remake-asks c.args.mode c.args.formula.now c.args.proof.now
    (lent c24.before.before.before.before) c.args.count c.args.lines c.args.place
    c.requires.0 c.requires.1 c.requires.2 c.begun_of-begun.result c.begun_of-begun.ensures
    (records c12.before) c.line_start-from.result
    c.line_start-from.ensures c.args.marks.now c.args.memo.now c.requires.3 c.requires.4

pub shape_of-vars : goal.shape_of-vars
shape_of-vars c =
    c.remake-state.auto.vars

pub shape_of-lows : goal.shape_of-lows
shape_of-lows c =
    c.remake-state.auto.lows

pub shape_of-highs : goal.shape_of-highs
shape_of-highs c =
    c.remake-state.auto.highs

pub shape_of-heads : goal.shape_of-heads
shape_of-heads c =
    c.remake-state.auto.heads

pub shape_of-links : goal.shape_of-links
shape_of-links c =
    c.remake-state.auto.links

pub shape_of-memo : goal.shape_of-memo
shape_of-memo c =
    c.remake-state.auto.memo

pub shape_of-marks : goal.shape_of-marks
shape_of-marks c =
    c.remake-state.auto.marks

pub shape_of-members : goal.shape_of-members
shape_of-members c =
    c.remake-state.auto.members

pub shape_of-scratch : goal.shape_of-scratch
shape_of-scratch c =
    c.remake-state.auto.scratch

pub shape_of-struck : goal.shape_of-struck
shape_of-struck c =
    c.remake-state.auto.struck

pub returns : goal.returns
returns c =
    let c12 = c.before.before.before.before.before.before.before.before.before.before.before.before in
    let c24 = c12.before.before.before.before.before.before.before.before.before.before.before.before in
    let c36 = c24.before.before.before.before.before.before.before.before.before.before.before.before in
    let c48 = c36.before.before.before.before.before.before.before.before.before.before.before.before in
    record {
      made_again = made_of c.args.mode c.args.formula.now c.args.proof.now
          (lent c48.before) c.args.count c.args.lines c.args.place
          c.requires.0 c.requires.1 c.requires.2
          (returned c12.before.before.before.before.before.before.before.before.before) _
          (records-made c.args.mode c.args.formula.now c.args.proof.now
          (lent c48.before) c.args.count c.args.lines
          c.args.place c.requires.0 c.requires.1 c.requires.2 c.begun_of-begun.result c.begun_of-begun.ensures
          (records c24.before.before.before.before.before.before.before.before.before.before)
          c.line_start-from.result c.line_start-from.ensures
          (returned c12.before.before.before.before.before.before.before.before.before) c.remake-state.result
          c.remake-state.ensures.fact.0 c.remake-state.ensures.fact.1 c.remake-state.auto.members
          c.remake-state.auto.struck);
      marks_after = c.remake-state.ensures.marks_after;
    }
