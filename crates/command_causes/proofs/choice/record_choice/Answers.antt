-- `record_choice`: by the kind. Assumes nothing.
use mathlib.Core.Path.{sym, ap, ◌∙◌}
use Rattle.command_causes.specs.Choice.{record_choice}
use Rattle.command_causes.proofs.choice.record_choice.Goals as goal

pub node_choice-requires : goal.node_choice-requires
node_choice-requires c = tt

pub line_choice-requires : goal.line_choice-requires
line_choice-requires c = tt

pub returns-in-NodeEntry : goal.returns-in-NodeEntry
returns-in-NodeEntry c = c.node_choice.ensures ∙ sym (ap (record_choice c.args.number)
    c.in-NodeEntry.is)

pub returns-in-ProofLine : goal.returns-in-ProofLine
returns-in-ProofLine c = c.line_choice.ensures ∙ sym (ap (record_choice c.args.number)
    c.in-ProofLine.is)
