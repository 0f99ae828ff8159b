-- What the cause of a refused command is worked out from, as its number and its kind tell. No call open to others cites this file.
use Rattle.std.specs.Prelude.{cond, ℕ, eqb, Option, None, Some}
use Rattle.records.specs.declared.EntryNo.{EntryNo}
use Rattle.records.specs.declared.NodeBody.{NodeBody}
use Rattle.records.specs.declared.Rule.{Rule}
use Rattle.records.specs.declared.Rule.TheVariants.{Rup, Pr, Path}
use Rattle.records.specs.declared.Record.{Record}
use Rattle.records.specs.declared.Record.TheVariants.{NodeEntry, Witness, ProofLine, Strike, SetEntry, End}
use Rattle.records.specs.declared.Record.TheVariants.{CutShort, UnknownKind, NoRecord}
use Rattle.commands.specs.declared.DratClause.{DratClause}
use Rattle.commands.specs.declared.Command.{Command}
use Rattle.commands.specs.declared.Command.TheVariants.{Recorded, Added, Struck, Finished}
use Rattle.command_causes.specs.declared.Refused.{Refused}
use Rattle.command_causes.specs.declared.Refused.TheVariants.{Plain, OutOfOrder, NotWitnessed, NotShown, ClauseNotShown}

-- 14 is a node record's alone.
abbrev pub node_choice : ℕ → NodeBody → Refused
node_choice number b = cond (eqb number 14) (OutOfOrder b) Plain

-- 18 is a PR line's alone.
abbrev pub shut_choice : Rule → EntryNo → Refused
shut_choice Rup root = Plain
shut_choice Pr root = NotWitnessed root
shut_choice Path root = Plain

abbrev pub line_choice : ℕ → Rule → EntryNo → Refused
line_choice number rule root = cond (eqb number 19) (NotShown rule root) (cond (eqb number 18) (shut_choice rule root) Plain)

abbrev pub record_choice : ℕ → Record → Refused
record_choice number (NodeEntry b) = node_choice number b
record_choice number (Witness v b) = Plain
record_choice number (ProofLine rule root) = line_choice number rule root
record_choice number (Strike k) = Plain
record_choice number (SetEntry kind b) = Plain
record_choice number End = Plain
record_choice number CutShort = Plain
record_choice number UnknownKind = Plain
record_choice number NoRecord = Plain

abbrev pub clause_choice : ℕ → DratClause → Refused
clause_choice number c = cond (eqb number 19) (ClauseNotShown c) Plain

-- Where no command is let in, the number alone tells it.
abbrev pub command_choice : ℕ → Option Command → Refused
command_choice number None = Plain
command_choice number (Some (Recorded r more)) = record_choice number r
command_choice number (Some (Added c)) = clause_choice number c
command_choice number (Some (Struck c)) = Plain
command_choice number (Some Finished) = Plain
