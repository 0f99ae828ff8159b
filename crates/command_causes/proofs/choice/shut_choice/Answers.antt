-- `shut_choice`: by the rule. Assumes nothing.
use mathlib.Core.Path.{sym, ap}
use Rattle.records.specs.declared.Rule.{Rule}
use Rattle.command_causes.specs.Choice.{shut_choice}
use Rattle.command_causes.proofs.choice.shut_choice.Goals as goal

pub returns-in-Pr : goal.returns-in-Pr
returns-in-Pr c = sym (ap (λ (k : Rule). shut_choice k c.args.root) c.in-Pr.is)
