-- `cause_over`: the state made again, the command read again, its cause; then nodes dropped and scratch cleared. Assumes nothing.
use mathlib.Core.Path.{◌≡◌, sym, ap, ◌∙◌}
use native.Mathlib.Omega.{arith}
use lib.ListN.{length}
use Rattle.table.specs.Indexed.{Table, table_of}
use Rattle.table.specs.Columns.{columns_made}
use Rattle.conflict.specs.Marks.{unmarked}
use Rattle.verdict.specs.Check.{zeros}
use Rattle.state.specs.States.{Lent, lent_of}
use Rattle.command_causes.specs.Causes.{told_by}
use Rattle.cause_again.proofs.Causing.{command-asks, cause-asks, cause-told, drop-asks, dropped-columns, lists_back}
use Rattle.cause_again.proofs.cause_over.Reads as reads
use Rattle.cause_again.proofs.cause_over.Lts as lts
use Rattle.cause_again.proofs.cause_over.Tie as tie
use Rattle.cause_again.proofs.cause_over.Goals as goal

module _ (s : lts.Start tie.the-claims reads.Pre reads.Post tie.handed_clauses) where
  abbrev lent : Lent
  lent = let a = s.args in lent_of a.vars.now a.lows.now a.highs.now a.heads.now a.links.now a.members.now
      a.scratch.now a.struck.now

-- the state made again
module _ (a : lts.After-state_again tie.the-claims reads.Pre reads.Post tie.handed_clauses) where
  abbrev made : Lent
  made = lent_of a.state_again-again.new.vars a.state_again-again.new.lows a.state_again-again.new.highs a.state_again-again.new.heads
      a.state_again-again.new.links a.state_again-again.new.members
      a.state_again-again.new.scratch a.state_again-again.new.struck

  same_size :
      let a12 = a.before.before.before.before.before.before.before.before.before.before.before.before in
      let a24 = a12.before.before.before.before.before.before.before.before.before.before.before.before in
      length made.vars ≡ length
      (lent a24).vars
  same_size = a.state_again-again.auto.vars

-- the cause told
module _ (c : lts.After-cause tie.the-claims reads.Pre reads.Post tie.handed_clauses) where
  abbrev table₁ : Table
  table₁ = table_of c.cause-cause.new.vars c.cause-cause.new.lows c.cause-cause.new.highs c.cause-cause.new.heads c.cause-cause.new.links
      c.state_again-again.result.state.count

pub state_again-again-requires : goal.state_again-again-requires
state_again-again-requires c =
    (c.requires.0, c.requires.1, c.requires.3, c.requires.4, c.requires.5)

pub command_in-command-requires : goal.command_in-command-requires
command_in-command-requires c =
    let c12 = c.before.before.before.before.before.before.before.before.before.before.before.before in
    let c24 = c12.before.before.before.before.before.before.before.before.before.before.before.before in
    let c36 = c24.before.before.before.before.before.before.before.before.before.before.before.before in
    command-asks c.args.mode c.args.formula.now c.args.proof.now
    (lent c36.before.before.before.before.before.before.before.before.before.before) c.args.checked c.requires.0 c.requires.1
    c.requires.2 c.requires.3
    (made c12.before.before.before.before.before.before.before.before.before.before) c.state_again-again.result
    c.state_again-again.ensures.made_again

pub cause-cause-requires : goal.cause-cause-requires
cause-cause-requires c =
    let c12 = c.before.before.before.before.before.before.before.before.before.before.before.before in
    let c24 = c12.before.before.before.before.before.before.before.before.before.before.before.before in
    let c36 = c24.before.before.before.before.before.before.before.before.before.before.before.before in
    let c48 = c36.before.before.before.before.before.before.before.before.before.before.before.before in
    cause-asks c.args.mode c.args.formula.now c.args.proof.now
    (lent c48.before.before.before.before.before.before.before.before) c.args.checked c.requires.0 c.requires.1 c.requires.2
    c.requires.3 (made c24.before.before.before.before.before.before.before.before) c.state_again-again.result
    c.state_again-again.ensures.made_again c.command_in-command.result c.command_in-command.ensures
    c.state_again-again.new.marks c.state_again-again.new.memo c.args.fixed.now
    (length (made c24.before.before.before.before.before.before.before.before).vars)
    (same_size c24.before.before.before.before.before.before.before.before)
    (c.state_again-again.ensures.marks_after ∙ ap unmarked
    (sym (same_size c24.before.before.before.before.before.before.before.before)))
    (omega (arith, c.requires.5, c.state_again-again.auto.vars, c.state_again-again.auto.memo)) c.requires.6 c.requires.7

pub drop_to-requires : goal.drop_to-requires
drop_to-requires c =
    let c12 = c.before.before.before.before.before.before.before.before.before.before.before.before in
    let c24 = c12.before.before.before.before.before.before.before.before.before.before.before.before in
    let c36 = c24.before.before.before.before.before.before.before.before.before.before.before.before in
    let c48 = c36.before.before.before.before.before.before.before.before.before.before.before.before in
    let c60 = c48.before.before.before.before.before.before.before.before.before.before.before.before in
    let c72 = c60.before.before.before.before.before.before.before.before.before.before.before.before in
    drop-asks c.args.mode c.args.formula.now c.args.proof.now
    (lent c72.before.before.before.before.before.before.before.before) c.args.checked c.requires.0 c.requires.1 c.requires.2
    c.requires.3 (made c48.before.before.before.before.before.before.before.before) c.state_again-again.result
    c.state_again-again.ensures.made_again (table₁ c24) c.cause-cause.ensures.count_unchanged

pub shape_of-vars : goal.shape_of-vars
shape_of-vars c =
    c.drop_to.auto.vars ∙ c.cause-cause.auto.vars ∙ c.state_again-again.auto.vars

pub shape_of-lows : goal.shape_of-lows
shape_of-lows c =
    c.drop_to.auto.lows ∙ c.cause-cause.auto.lows
    ∙ c.state_again-again.auto.lows

pub shape_of-highs : goal.shape_of-highs
shape_of-highs c =
    c.drop_to.auto.highs ∙ c.cause-cause.auto.highs
    ∙ c.state_again-again.auto.highs

pub shape_of-heads : goal.shape_of-heads
shape_of-heads c =
    c.drop_to.auto.heads ∙ c.cause-cause.auto.heads
    ∙ c.state_again-again.auto.heads

pub shape_of-links : goal.shape_of-links
shape_of-links c =
    c.drop_to.auto.links ∙ c.cause-cause.auto.links
    ∙ c.state_again-again.auto.links

pub shape_of-memo : goal.shape_of-memo
shape_of-memo c =
    c.cause-cause.auto.memo ∙ c.state_again-again.auto.memo

pub shape_of-marks : goal.shape_of-marks
shape_of-marks c =
    c.cause-cause.auto.marks ∙ c.state_again-again.auto.marks

pub shape_of-members : goal.shape_of-members
shape_of-members c =
    c.state_again-again.auto.members

pub shape_of-scratch : goal.shape_of-scratch
shape_of-scratch c =
    c.clear_numbers.auto.numbers ∙ c.cause-cause.auto.scratch
    ∙ c.state_again-again.auto.scratch

pub shape_of-struck : goal.shape_of-struck
shape_of-struck c =
    c.state_again-again.auto.struck

pub shape_of-fixed : goal.shape_of-fixed
shape_of-fixed c =
    c.cause-cause.auto.fixed

pub returns : goal.returns
returns c =
    let c12 = c.before.before.before.before.before.before.before.before.before.before.before.before in
    let c24 = c12.before.before.before.before.before.before.before.before.before.before.before.before in
    let c36 = c24.before.before.before.before.before.before.before.before.before.before.before.before in
    let c48 = c36.before.before.before.before.before.before.before.before.before.before.before.before in
    let c60 = c48.before.before.before.before.before.before.before.before.before.before.before.before in
    let c72 = c60.before.before.before.before.before.before.before.before.before.before.before.before in
    let c84 = c72.before.before.before.before.before.before.before.before.before.before.before.before in
    record {
      fixed_after = cause-told c.args.mode c.args.formula.now c.args.proof.now
          (lent c84.before.before.before.before.before.before.before.before.before.before.before) c.args.checked c.requires.0 c.requires.1
          c.requires.2 c.requires.3
          (made c60.before.before.before.before.before.before.before.before.before.before.before) c.state_again-again.result
          c.state_again-again.ensures.made_again c.command_in-command.result
          c.command_in-command.ensures (length (made
          c60.before.before.before.before.before.before.before.before.before.before.before).vars) (length c.args.fixed.now)
          (same_size c60.before.before.before.before.before.before.before.before.before.before.before)
          (told_by c.cause-cause.result c.cause-cause.new.fixed) c.cause-cause.ensures.fixed_after;
      returned_after = lists_back c.args.mode c.args.formula.now c.args.proof.now
          (lent c84.before.before.before.before.before.before.before.before.before.before.before) c.args.checked c.requires.0 c.requires.1
          c.requires.2 c.requires.3
          (made c60.before.before.before.before.before.before.before.before.before.before.before) c.state_again-again.result
          c.state_again-again.ensures.made_again
          (columns_made c.drop_to.new.vars c.drop_to.new.lows c.drop_to.new.highs c.drop_to.new.heads c.drop_to.new.links)
          c.clear_numbers.new.numbers
          (dropped-columns c.args.mode c.args.formula.now c.args.proof.now
          (lent c84.before.before.before.before.before.before.before.before.before.before.before) c.args.checked c.requires.0 c.requires.1
          c.requires.2 c.requires.3
          (made c60.before.before.before.before.before.before.before.before.before.before.before) c.state_again-again.result
          c.state_again-again.ensures.made_again (table₁ c36.before.before.before) c.cause-cause.ensures.count_unchanged
          (table_of c.drop_to.new.vars c.drop_to.new.lows c.drop_to.new.highs c.drop_to.new.heads c.drop_to.new.links c.args.checked.count)
          _
          (c.cause-cause.auto.vars ∙ same_size
          c60.before.before.before.before.before.before.before.before.before.before.before) c.drop_to.ensures)
          (c.clear_numbers.ensures ∙ ap zeros
          (c.cause-cause.auto.scratch ∙ c.state_again-again.auto.scratch));
    }
