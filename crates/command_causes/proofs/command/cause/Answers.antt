-- `cause`: what the command's number and kind tell is worked out by its own function (Commands). Assumes nothing.
use mathlib.Core.Path.{◌≡◌, refl, sym, ◌∙◌}
use native.Mathlib.Omega.{arith}
use lib.ListN.{length}
use Rattle.table.specs.Indexed.{nodes_of}
use Rattle.walks.proofs.Here.{good-readable}
use Rattle.verdict.specs.Steps.{entry_node}
use Rattle.state.specs.States.{Lent, lent_of, table_in}
use Rattle.steps.proofs.Lines.{held-64}
use Rattle.command_causes.specs.Choice.{command_choice}
use Rattle.command_causes.proofs.Commands.{asks-node, asks-witness, asks-line, asks-clause, asks-pivot}
use Rattle.command_causes.proofs.Commands.{tells-plain, tells-node, tells-witness, tells-line, tells-clause, tells_as}
use Rattle.command_causes.proofs.command.cause.Reads as reads
use Rattle.command_causes.proofs.command.cause.Lts as lts
use Rattle.command_causes.proofs.command.cause.Tie as tie
use Rattle.command_causes.proofs.command.cause.Goals as goal

module _ (s : lts.Start tie.the-claims reads.Pre reads.Post tie.handed_clauses) where
  abbrev lent : Lent
  lent = lent_of s.args.vars.now s.args.lows.now s.args.highs.now s.args.heads.now s.args.links.now
      s.args.members.now s.args.scratch.now s.args.struck.now

module _ (a : lts.After-command_choice tie.the-claims reads.Pre reads.Post tie.handed_clauses) where
  chosen : command_choice a.args.number a.args.command ≡ a.command_choice.result
  chosen = sym a.command_choice.ensures

pub command_choice-requires : goal.command_choice-requires
command_choice-requires c =
    tt

pub of_numbers-requires : goal.of_numbers-requires
of_numbers-requires c =
    tt

pub node_cause-child-requires : goal.node_cause-child-requires
unfolding nodes_of
node_cause-child-requires c =
    let c12 = c.before.before.before.before.before.before.before.before.before.before.before.before in
    let H = c.requires.0 in
    let A = asks-node c.args.variables c.args.number
    (lent c12.before.before) c.args.st c.requires.0
    c.args.command c.requires.5 _
    (chosen c.before.before ∙ c.in-OutOfOrder.is) in (
      good-readable (table_in (lent c12.before.before)
          c.args.st.count) H.entries.good,
      H.entries.inside,
      omega (arith, H.entries.few, H.entries.room),
      A.0,
      A.1,
    )

pub of_numbers-requires-in-OutOfOrder : goal.of_numbers-requires-in-OutOfOrder
of_numbers-requires-in-OutOfOrder c =
    tt

pub shut_cause-word-requires : goal.shut_cause-word-requires
unfolding entry_node nodes_of
shut_cause-word-requires c =
    let c12 = c.before.before.before.before.before.before.before.before.before.before.before.before in
    let H = c.requires.0 in
    let A = asks-witness c.args.variables c.args.number
    (lent c12.before.before.before) c.args.st
    c.requires.0 c.args.command c.requires.5 _
    (chosen c.before.before.before ∙ c.in-NotWitnessed.is) in record {
      readable = (
        good-readable (table_in (lent
            c12.before.before.before) c.args.st.count)
            H.entries.good,
        H.entries.inside,
        omega (arith, H.entries.few, H.entries.room),
        A.0,
        c.requires.2,
        H.entries.narrow,
      );
      fact = A.1;
    }

pub of_numbers-requires-in-NotWitnessed : goal.of_numbers-requires-in-NotWitnessed
of_numbers-requires-in-NotWitnessed c =
    tt

pub line_cause-requires : goal.line_cause-requires
line_cause-requires c =
    let c12 = c.before.before.before.before.before.before.before.before.before.before.before.before in
    let H = c.requires.0 in (
      asks-line c.args.variables c.args.number (lent
          c12.before.before.before.before.before.before.before.before.before.before.before) c.args.st c.requires.0 c.args.command
          c.requires.5 _ _
          (chosen c.before.before.before.before.before.before.before.before.before.before.before ∙ c.in-NotShown.is),
      c.requires.1,
      c.requires.2,
      c.requires.3,
      c.requires.4,
    )

pub clause_cause-f-requires : goal.clause_cause-f-requires
clause_cause-f-requires c =
    let c12 = c.before.before.before.before.before.before.before.before.before.before.before.before in
    let H = c.requires.0 in
    let e = chosen c.before.before.before.before.before.before.before.before.before.before.before ∙ c.in-ClauseNotShown.is in (
      held-64 _ _ _ H,
      c.requires.1,
      c.requires.2,
      asks-pivot c.args.variables c.args.number
          (lent c12.before.before.before.before.before.before.before.before.before.before.before) c.args.st c.requires.0
          c.args.command c.requires.5 _ e,
      c.requires.3,
      c.requires.4,
      asks-clause c.args.variables c.args.number
          (lent c12.before.before.before.before.before.before.before.before.before.before.before) c.args.st
          c.requires.0 c.args.command c.requires.5 _ e,
    )

pub of_rounds-requires : goal.of_rounds-requires
of_rounds-requires c =
    tt

pub returns-in-Plain : goal.returns-in-Plain
returns-in-Plain c =
    let c12 = c.before.before.before.before.before.before.before.before.before.before.before.before in
    let H = c.requires.0 in record {
      fixed_after = tells_as c.args.variables c.args.number
          (lent c12.before.before.before) c.args.st
          c.requires.0 c.args.command (length c.args.fixed.now)
          c.args.fixed.now _ _ c.of_numbers.ensures.value
          (tells-plain c.args.variables c.args.number
          (lent c12.before.before.before) c.args.st
          c.requires.0 c.args.command
          (length c.args.fixed.now) c.args.fixed.now (chosen c.before.before.before ∙ c.in-Plain.is) c.requires.4);
      count_unchanged = refl;
      marks_after = c.requires.1;
    }

pub returns-in-OutOfOrder : goal.returns-in-OutOfOrder
returns-in-OutOfOrder c =
    let c12 = c.before.before.before.before.before.before.before.before.before.before.before.before in
    let H = c.requires.0 in record {
      fixed_after = tells_as c.args.variables c.args.number
          (lent c12.before.before.before.before) c.args.st
          c.requires.0 c.args.command (length c.args.fixed.now)
          c.args.fixed.now _ _ c.of_numbers-in-OutOfOrder.ensures.value
          (tells-node c.args.variables c.args.number
          (lent c12.before.before.before.before)
          c.args.st c.requires.0 c.args.command
          (length c.args.fixed.now) c.args.fixed.now _ (chosen c.before.before.before.before ∙ c.in-OutOfOrder.is) _
          (c.node_cause-child.ensures c.args.heads.now c.args.links.now c.args.members.now c.args.struck.now)
          c.requires.4);
      count_unchanged = refl;
      marks_after = c.requires.1;
    }

pub returns-in-NotWitnessed : goal.returns-in-NotWitnessed
returns-in-NotWitnessed c =
    let c12 = c.before.before.before.before.before.before.before.before.before.before.before.before in
    let H = c.requires.0 in
    record {
      fixed_after = tells_as c.args.variables c.args.number
          (lent c12.before.before.before.before.before.before.before) c.args.st c.requires.0 c.args.command (length c.args.fixed.now)
          c.args.fixed.now _ _ c.of_numbers-in-NotWitnessed.ensures.value
          (tells-witness c.args.variables c.args.number
          (lent c12.before.before.before.before.before.before.before) c.args.st c.requires.0 c.args.command
          (length c.args.fixed.now) c.args.fixed.now _ (chosen c.before.before.before.before.before.before.before ∙ c.in-NotWitnessed.is)
          c.shut_cause-word.result
          c.of_numbers-in-NotWitnessed.ensures.word_bound
          (c.shut_cause-word.ensures.g_value c.args.heads.now c.args.links.now c.args.members.now
          c.args.struck.now) c.shut_cause-word.ensures.by_index c.requires.4);
      count_unchanged = refl;
      marks_after = c.requires.1;
    }

pub shape_of-vars-in-NotShown : goal.shape_of-vars-in-NotShown
shape_of-vars-in-NotShown c =
    c.line_cause.auto.vars

pub shape_of-lows-in-NotShown : goal.shape_of-lows-in-NotShown
shape_of-lows-in-NotShown c =
    c.line_cause.auto.lows

pub shape_of-highs-in-NotShown : goal.shape_of-highs-in-NotShown
shape_of-highs-in-NotShown c =
    c.line_cause.auto.highs

pub shape_of-heads-in-NotShown : goal.shape_of-heads-in-NotShown
shape_of-heads-in-NotShown c =
    c.line_cause.auto.heads

pub shape_of-links-in-NotShown : goal.shape_of-links-in-NotShown
shape_of-links-in-NotShown c =
    c.line_cause.auto.links

pub shape_of-memo-in-NotShown : goal.shape_of-memo-in-NotShown
shape_of-memo-in-NotShown c =
    c.line_cause.auto.memo

pub shape_of-marks-in-NotShown : goal.shape_of-marks-in-NotShown
shape_of-marks-in-NotShown c =
    c.line_cause.auto.marks

pub shape_of-scratch-in-NotShown : goal.shape_of-scratch-in-NotShown
shape_of-scratch-in-NotShown c =
    c.line_cause.auto.scratch

pub shape_of-fixed-in-NotShown : goal.shape_of-fixed-in-NotShown
shape_of-fixed-in-NotShown c =
    c.line_cause.auto.fixed

pub returns-in-NotShown : goal.returns-in-NotShown
returns-in-NotShown c =
    let c12 = c.before.before.before.before.before.before.before.before.before.before.before.before in
    let c24 = c12.before.before.before.before.before.before.before.before.before.before.before.before in
    let c36 = c24.before.before.before.before.before.before.before.before.before.before.before.before in
    record {
      fixed_after = (
          tells-line c.args.variables c.args.number
          (lent c36.before.before.before.before.before.before) c.args.st c.requires.0 c.args.command (length c.args.fixed.now)
          c.line_cause.new.fixed _ _
          (chosen c24.before.before.before.before.before.before ∙ c.in-NotShown.is) c.line_cause.result c.line_cause.ensures.fixed_after
          );
      count_unchanged = c.line_cause.ensures.count_unchanged;
      marks_after = c.line_cause.ensures.marks_after;
    }

pub shape_of-vars-in-ClauseNotShown : goal.shape_of-vars-in-ClauseNotShown
shape_of-vars-in-ClauseNotShown c =
    c.clause_cause-f.auto.vars

pub shape_of-lows-in-ClauseNotShown : goal.shape_of-lows-in-ClauseNotShown
shape_of-lows-in-ClauseNotShown c =
    c.clause_cause-f.auto.lows

pub shape_of-highs-in-ClauseNotShown : goal.shape_of-highs-in-ClauseNotShown
shape_of-highs-in-ClauseNotShown c =
    c.clause_cause-f.auto.highs

pub shape_of-heads-in-ClauseNotShown : goal.shape_of-heads-in-ClauseNotShown
shape_of-heads-in-ClauseNotShown c =
    c.clause_cause-f.auto.heads

pub shape_of-links-in-ClauseNotShown : goal.shape_of-links-in-ClauseNotShown
shape_of-links-in-ClauseNotShown c =
    c.clause_cause-f.auto.links

pub shape_of-memo-in-ClauseNotShown : goal.shape_of-memo-in-ClauseNotShown
shape_of-memo-in-ClauseNotShown c =
    c.clause_cause-f.auto.memo

pub shape_of-marks-in-ClauseNotShown : goal.shape_of-marks-in-ClauseNotShown
shape_of-marks-in-ClauseNotShown c =
    c.clause_cause-f.auto.marks

pub shape_of-scratch-in-ClauseNotShown : goal.shape_of-scratch-in-ClauseNotShown
shape_of-scratch-in-ClauseNotShown c =
    c.clause_cause-f.auto.scratch

pub shape_of-fixed-in-ClauseNotShown : goal.shape_of-fixed-in-ClauseNotShown
shape_of-fixed-in-ClauseNotShown c =
    c.clause_cause-f.auto.fixed

pub returns-in-ClauseNotShown : goal.returns-in-ClauseNotShown
returns-in-ClauseNotShown c =
    let c12 = c.before.before.before.before.before.before.before.before.before.before.before.before in
    let c24 = c12.before.before.before.before.before.before.before.before.before.before.before.before in
    let c36 = c24.before.before.before.before.before.before.before.before.before.before.before.before in
    record {
      fixed_after = (
          tells_as c.args.variables c.args.number
          (lent c36.before.before.before.before.before.before.before) c.args.st c.requires.0 c.args.command (length c.args.fixed.now)
          c.clause_cause-f.new.fixed _ _ c.of_rounds.ensures
          (tells-clause c.args.variables c.args.number
          (lent c36.before.before.before.before.before.before.before) c.args.st c.requires.0 c.args.command
          (length c.args.fixed.now) c.clause_cause-f.new.fixed _
          (chosen c24.before.before.before.before.before.before.before ∙ c.in-ClauseNotShown.is) c.clause_cause-f.result
          c.clause_cause-f.ensures.st_value)
          );
      count_unchanged = c.clause_cause-f.ensures.count_unchanged;
      marks_after = c.clause_cause-f.ensures.marks_after;
    }
