-- What a run counts, by its lines and not by the state that counts them: the accepted lines, and "A line's rounds are the sum over its
-- propagations". (01, The rules; 02, 4/14: "the rounds are those of the try that passes") No call open to others cites this file.
use Rattle.std.proofs.Common.{inl, inr}
use Rattle.std.specs.Prelude.{Bool, true, false, List, [], ◌∷◌, ℕ, ◌+◌}
use Rattle.meaning.specs.Operations as meaning
use Rattle.records.specs.declared.Record.{Record}
use Rattle.records.specs.declared.Record.TheVariants.{NodeEntry, Witness, ProofLine, Strike, SetEntry, End}
use Rattle.records.specs.declared.Record.TheVariants.{CutShort, UnknownKind, NoRecord}
use Rattle.commands.specs.declared.Mode.{Mode}
use Rattle.commands.specs.Commands.{Command, recorded, added, struck_out, wrong, finished}
use Rattle.verdict.specs.Steps.{State, with_entry, entry_node, live_members}
use Rattle.verdict.specs.Clausal.{second_line}
use Rattle.verdict.specs.Taken.{Meant, line_of}
use Rattle.verdict.specs.ClauseTaken.{first_line, TriesTaken}
use Rattle.verdict.specs.Run.{command_in, CommandTaken, Reached, begins, goes}

-- The lines that a record is, and its rounds: those of its rule over the live members.
abbrev pub record_lines : Record → ℕ
record_lines (ProofLine rule root) = 1
record_lines (NodeEntry b) = 0
record_lines (Witness v b) = 0
record_lines (Strike k) = 0
record_lines (SetEntry kind b) = 0
record_lines End = 0
record_lines CutShort = 0
record_lines UnknownKind = 0
record_lines NoRecord = 0

abbrev pub record_rounds : ℕ → State → Record → ℕ
record_rounds n st (ProofLine rule root) = (line_of n st rule (entry_node st root.0)).rounds
record_rounds n st (NodeEntry b) = 0
record_rounds n st (Witness v b) = 0
record_rounds n st (Strike k) = 0
record_rounds n st (SetEntry kind b) = 0
record_rounds n st End = 0
record_rounds n st CutShort = 0
record_rounds n st UnknownKind = 0
record_rounds n st NoRecord = 0

-- "the rounds are those of the try that passes"
abbrev pub tries_rounds : (profile : Bool) (n s : ℕ) (st : State) (k : ℕ) (ls : List meaning.Literal) (st' : State)
    → TriesTaken profile n s st k ls st' → ℕ
tries_rounds profile n s st k ls st' (inl J) = (first_line n st ls).rounds
tries_rounds true n s st k ls st' (inr T) = 0
tries_rounds false n s st k [] st' (inr T) = 0
tries_rounds false n s st k (p ∷ ls) st' (inr T) = (second_line n (live_members st) p ls).rounds

abbrev pub command_lines : Command → ℕ
command_lines (recorded r more) = record_lines r
command_lines (added ls) = 1
command_lines (struck_out ls) = 0
command_lines (wrong number offset) = 0
command_lines finished = 0

abbrev pub command_rounds : (profile : Bool) (n s : ℕ) (st : State) (c : Command) (st' : State) → CommandTaken profile n s st c st' → ℕ
command_rounds profile n s st (recorded r more) st' T = record_rounds n st r
command_rounds profile n s st (added ls) st' T =
    tries_rounds profile n s (with_entry st T.nodes T.node) T.node ls st' T.tried
command_rounds profile n s st (struck_out ls) st' T = 0
command_rounds profile n s st (wrong number offset) st' T = 0
command_rounds profile n s st finished st' T = 0

-- The same of all commands that were taken.
abbrev pub run_lines : {mode : Mode} {s : ℕ} {text proof : List ℕ} {n : ℕ} {st : State} {at : ℕ} {m : Meant}
    → Reached mode s text proof n st at m → ℕ
run_lines (begins M) = 0
run_lines {mode} {s} {text} {proof} {n} (goes {st} {st'} {at} R T) = run_lines R + command_lines (command_in mode proof n at)

abbrev pub run_rounds : {mode : Mode} {s : ℕ} {text proof : List ℕ} {n : ℕ} {st : State} {at : ℕ} {m : Meant}
    → Reached mode s text proof n st at m → ℕ
run_rounds (begins M) = 0
run_rounds {mode} {s} {text} {proof} {n} (goes {st} {st'} {at} R T) =
    run_rounds R + command_rounds mode.consequence n s st (command_in mode proof n at) st' T
