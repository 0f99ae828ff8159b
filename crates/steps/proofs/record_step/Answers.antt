-- `record_step`: the step of the record's kind. Assumes nothing.
use mathlib.Core.Path.{refl}
use native.Mathlib.Omega.{arith}
use Rattle.state.specs.States.{Lent, lent_of}
use Rattle.steps.proofs.Lines.{held-64}
use Rattle.steps.proofs.Records.{as-node, as-witness, as_line, as-strike, as-set, as-end, cut_short, unknown-kind, no_record}
use Rattle.steps.proofs.record_step.Reads as reads
use Rattle.steps.proofs.record_step.Lts as lts
use Rattle.steps.proofs.record_step.Tie as tie
use Rattle.steps.proofs.record_step.Goals as goal

module _ (s : lts.Start tie.the-claims reads.Pre reads.Post tie.handed_clauses) where
  abbrev lent : Lent
  lent = lent_of s.args.vars.now s.args.lows.now s.args.highs.now s.args.heads.now s.args.links.now
      s.args.members.now s.args.scratch.now s.args.struck.now

pub node_step-requires : goal.node_step-requires
node_step-requires c = c.requires.0.entries

pub witness_step-requires : goal.witness_step-requires
witness_step-requires c = c.requires.0.entries.narrow

pub line_step-requires : goal.line_step-requires
line_step-requires c =
    let c12 = c.before.before.before.before.before.before.before.before.before.before.before.before in (
      held-64 c.args.variables
          (lent c12.before.before.before.before.before.before.before.before) c.args.st c.requires.0,
      c.requires.1,
      c.requires.2,
    )

pub strike_step-requires : goal.strike_step-requires
strike_step-requires c = omega
    (arith, c.requires.0.many, c.requires.0.lines, c.requires.0.room, c.requires.0.marked)

pub set_step-requires : goal.set_step-requires
set_step-requires c = c.requires.0.entries

pub shape_of-vars-in-NodeEntry : goal.shape_of-vars-in-NodeEntry
shape_of-vars-in-NodeEntry c = c.node_step.auto.vars

pub shape_of-lows-in-NodeEntry : goal.shape_of-lows-in-NodeEntry
shape_of-lows-in-NodeEntry c = c.node_step.auto.lows

pub shape_of-highs-in-NodeEntry : goal.shape_of-highs-in-NodeEntry
shape_of-highs-in-NodeEntry c = c.node_step.auto.highs

pub shape_of-heads-in-NodeEntry : goal.shape_of-heads-in-NodeEntry
shape_of-heads-in-NodeEntry c = c.node_step.auto.heads

pub shape_of-links-in-NodeEntry : goal.shape_of-links-in-NodeEntry
shape_of-links-in-NodeEntry c = c.node_step.auto.links

pub shape_of-scratch-in-NodeEntry : goal.shape_of-scratch-in-NodeEntry
shape_of-scratch-in-NodeEntry c = c.node_step.auto.scratch

pub returns-in-NodeEntry : goal.returns-in-NodeEntry
returns-in-NodeEntry c = record {
  fact = as-node _ _ _ _ _ _ _ _ _ c.in-NodeEntry.is
      (c.node_step.ensures c.args.members.now c.args.struck.now c.requires.0);
  marks_after = c.requires.1;
}

pub returns-in-Witness : goal.returns-in-Witness
returns-in-Witness c =
    let c12 = c.before.before.before.before.before.before.before.before.before.before.before.before in
    record {
      fact = as-witness _ _ _ _ _ _ _ _ _ _ c.in-Witness.is
          (c.witness_step.ensures (lent c12.before)
          c.requires.0);
      marks_after = c.requires.1;
    }

pub shape_of-vars-in-ProofLine : goal.shape_of-vars-in-ProofLine
shape_of-vars-in-ProofLine c = c.line_step.auto.vars

pub shape_of-lows-in-ProofLine : goal.shape_of-lows-in-ProofLine
shape_of-lows-in-ProofLine c = c.line_step.auto.lows

pub shape_of-highs-in-ProofLine : goal.shape_of-highs-in-ProofLine
shape_of-highs-in-ProofLine c = c.line_step.auto.highs

pub shape_of-heads-in-ProofLine : goal.shape_of-heads-in-ProofLine
shape_of-heads-in-ProofLine c = c.line_step.auto.heads

pub shape_of-links-in-ProofLine : goal.shape_of-links-in-ProofLine
shape_of-links-in-ProofLine c = c.line_step.auto.links

pub shape_of-memo : goal.shape_of-memo
shape_of-memo c = c.line_step.auto.memo

pub shape_of-marks : goal.shape_of-marks
shape_of-marks c = c.line_step.auto.marks

pub shape_of-members : goal.shape_of-members
shape_of-members c = c.line_step.auto.members

pub shape_of-scratch-in-ProofLine : goal.shape_of-scratch-in-ProofLine
shape_of-scratch-in-ProofLine c = c.line_step.auto.scratch

pub shape_of-struck-in-ProofLine : goal.shape_of-struck-in-ProofLine
shape_of-struck-in-ProofLine c = refl

pub returns-in-ProofLine : goal.returns-in-ProofLine
returns-in-ProofLine c = record {
  fact = as_line _ _ _ _ _ _ _ _ _ _ c.in-ProofLine.is
      (c.line_step.ensures.stepped c.args.variables c.requires.0);
  marks_after = c.line_step.ensures.marks_after;
}

pub shape_of-struck-in-Strike : goal.shape_of-struck-in-Strike
shape_of-struck-in-Strike c = c.strike_step.auto.struck

pub returns-in-Strike : goal.returns-in-Strike
returns-in-Strike c =
    record {
      fact = as-strike _ _ _ _ _ _ _ _ _ c.in-Strike.is
          (c.strike_step.ensures c.args.variables c.args.vars.now c.args.lows.now
          c.args.highs.now c.args.heads.now c.args.links.now c.args.members.now c.args.scratch.now
          c.requires.0);
      marks_after = c.requires.1;
    }

pub shape_of-vars-in-SetEntry : goal.shape_of-vars-in-SetEntry
shape_of-vars-in-SetEntry c = c.set_step.auto.vars

pub shape_of-lows-in-SetEntry : goal.shape_of-lows-in-SetEntry
shape_of-lows-in-SetEntry c = c.set_step.auto.lows

pub shape_of-highs-in-SetEntry : goal.shape_of-highs-in-SetEntry
shape_of-highs-in-SetEntry c = c.set_step.auto.highs

pub shape_of-heads-in-SetEntry : goal.shape_of-heads-in-SetEntry
shape_of-heads-in-SetEntry c = c.set_step.auto.heads

pub shape_of-links-in-SetEntry : goal.shape_of-links-in-SetEntry
shape_of-links-in-SetEntry c = c.set_step.auto.links

pub shape_of-scratch-in-SetEntry : goal.shape_of-scratch-in-SetEntry
shape_of-scratch-in-SetEntry c = c.set_step.auto.scratch

pub returns-in-SetEntry : goal.returns-in-SetEntry
returns-in-SetEntry c =
    record {
      fact = as-set _ _ _ _ _ _ _ _ _ _ c.in-SetEntry.is
          (c.set_step.ensures c.args.members.now c.args.struck.now c.requires.0);
      marks_after = c.requires.1;
    }

pub returns-in-End : goal.returns-in-End
returns-in-End c =
    let c12 = c.before.before.before.before.before.before.before.before.before.before.before.before in
    record {
      fact = as-end _ _ _ _ _ _ _ _ c.in-End.is
          (c.end_step.ensures c.args.variables (lent
          c12.before));
      marks_after = c.requires.1;
    }

pub returns-in-CutShort : goal.returns-in-CutShort
returns-in-CutShort c = record { fact = cut_short _ _ _ _ _ _ c.in-CutShort.is; marks_after = c.requires.1 }

pub returns-in-UnknownKind : goal.returns-in-UnknownKind
returns-in-UnknownKind c = record { fact = unknown-kind _ _ _ _ _ _ c.in-UnknownKind.is; marks_after = c.requires.1 }

pub returns-in-NoRecord : goal.returns-in-NoRecord
returns-in-NoRecord c = record { fact = no_record _ _ _ _ _ _ c.in-NoRecord.is; marks_after = c.requires.1 }
