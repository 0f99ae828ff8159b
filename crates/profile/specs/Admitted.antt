-- What is judged of a command in the consequence profile, as the code has it: no PR record, and of a clause its first try alone. (02,
-- 11/14) No call open to others cites this file.
use Rattle.std.specs.Prelude.{Bool, cond, ℕ, None, Result, Ok, Err}
use Rattle.dimacs.specs.declared.Refusal.{Refusal}
use Rattle.dimacs.specs.Inner.{refusal_at}
use Rattle.commands.specs.declared.DratClause.{DratClause}
use Rattle.commands.specs.declared.Command.{Command}
use Rattle.commands.specs.declared.Command.TheVariants.{Recorded, Added, Struck, Finished}
use Rattle.verdict.specs.Check.{shut_out}

-- Without a pivot a clause has no second try.
abbrev pub tried_as : Bool → DratClause → DratClause
tried_as profile c = record { literals = c.literals; pivot = cond profile None c.pivot }

-- A command at a place, or 33 there for a PR record.
abbrev pub let_in : Bool → ℕ → Command → Result Command Refusal
let_in profile at (Recorded r more) = cond (shut_out profile r) (Err (refusal_at 33 at)) (Ok (Recorded r more))
let_in profile at (Added c) = Ok (Added (tried_as profile c))
let_in profile at (Struck c) = Ok (Struck c)
let_in profile at Finished = Ok Finished

-- The same of what is read; a place is counted from the command's first byte, and a fault of form stays.
abbrev pub admitted : Bool → Result Command Refusal → Result Command Refusal
admitted profile (Ok c) = let_in profile 0 c
admitted profile (Err r) = Err r
