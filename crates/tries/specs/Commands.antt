-- What is asked of a command, as the definition reads it and as the code has it. No call open to others cites this file.
use Rattle.std.specs.Prelude.{ℕ, Result, Ok, Err}
use Rattle.dimacs.specs.declared.Refusal.{Refusal}
use Rattle.commands.specs.declared.Command as code
use Rattle.commands.specs.declared.Command.TheVariants.{Recorded, Added, Struck, Finished}
use Rattle.commands.specs.Commands.{Command, recorded, added, struck_out, wrong, finished}
use Rattle.tries.specs.Tries.{PivotFits}
use Rattle.meaning.specs.Literals.{OfVariables}

-- A clause's literals are the header's.
abbrev pub CommandFits : ℕ → Command → Type 0
CommandFits n (recorded r more) = Unit {0}
CommandFits n (added ls) = OfVariables n ls
CommandFits n (struck_out ls) = OfVariables n ls
CommandFits n (wrong number offset) = Unit {0}
CommandFits n finished = Unit {0}

-- An added clause's pivot is a variable.
abbrev pub PivotOfFits : Result code.Command Refusal → Type 0
PivotOfFits (Ok (Recorded r more)) = Unit {0}
PivotOfFits (Ok (Added c)) = PivotFits c.pivot
PivotOfFits (Ok (Struck c)) = Unit {0}
PivotOfFits (Ok Finished) = Unit {0}
PivotOfFits (Err r) = Unit {0}
