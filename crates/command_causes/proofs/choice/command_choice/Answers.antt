-- `command_choice`: by the kind. Assumes nothing.
use Rattle.command_causes.proofs.choice.command_choice.Goals as goal

pub record_choice-requires : goal.record_choice-requires
record_choice-requires c = tt

pub clause_choice-requires : goal.clause_choice-requires
clause_choice-requires c = tt
