-- "the greatest count reached, dropped nodes included" (02, 2/14): the counts that a run passes through. No call open to others cites this
-- file.
use Rattle.std.specs.Prelude.{◌⊎◌, Bool, true, false, List, [], ◌∷◌, map, ℕ}
use Rattle.std.proofs.Common.{inl, inr}
use Rattle.meaning.specs.Diagram.{branch}
use Rattle.meaning.specs.Operations as meaning
use Rattle.dimacs.specs.Clauses.{formula}
use Rattle.records.specs.declared.Record.{Record}
use Rattle.records.specs.declared.Record.TheVariants.{NodeEntry, Witness, ProofLine, Strike, SetEntry, End}
use Rattle.records.specs.declared.Record.TheVariants.{CutShort, UnknownKind, NoRecord}
use Rattle.commands.specs.declared.Mode.{Mode}
use Rattle.commands.specs.Commands.{Command, recorded, added, struck_out, wrong, finished}
use Rattle.verdict.specs.Steps.{State, emptied, with_entry, entry_node, diagram_in, set_diagram, live_members}
use Rattle.verdict.specs.Clausal.{second_line}
use Rattle.verdict.specs.Taken.{Meant, line_of}
use Rattle.verdict.specs.ClauseTaken.{first_line, TriesTaken}
use Rattle.verdict.specs.Run.{command_in, CommandTaken, Reached, begins, goes}
use Rattle.verdict.specs.Satisfies.{clauses_of}
use Rattle.exactness.specs.Passing.{Passes, LinePasses}

-- Those before, P, or those of a record that is taken: an entry's node or diagram is placed; a line makes what its rule makes.
abbrev pub RecordPasses : (ℕ → Type 0) → ℕ → ℕ → State → Record → ℕ → Type 0
RecordPasses P n s st (NodeEntry b) k =
    P k ⊎ Passes s st.nodes (branch b.variable (diagram_in st (entry_node st b.low.0))
    (diagram_in st (entry_node st b.high.0)) ∷ []) k
RecordPasses P n s st (SetEntry kind b) k = P k ⊎ Passes s st.nodes (set_diagram n kind b ∷ []) k
RecordPasses P n s st (ProofLine rule root) k = P k ⊎ LinePasses s st.nodes (line_of n st rule (entry_node st root.0)) k
RecordPasses P n s st (Witness v b) k = P k
RecordPasses P n s st (Strike j) k = P k
RecordPasses P n s st End k = P k
RecordPasses P n s st CutShort k = P k
RecordPasses P n s st UnknownKind k = P k
RecordPasses P n s st NoRecord k = P k

-- Of an added clause's tries, over the nodes with its own diagram: "the first try's nodes dropped" before the second. (02, 4/14)
abbrev pub TriesPass : (ℕ → Type 0) → (profile : Bool) (n s : ℕ) (st : State) (j : ℕ) (ls : List meaning.Literal) (st' : State)
    → TriesTaken profile n s st j ls st' → ℕ → Type 0
TriesPass P profile n s st j ls st' (inl J) k = P k ⊎ LinePasses s st.nodes (first_line n st ls) k
TriesPass P true n s st j ls st' (inr T) k = P k
TriesPass P false n s st j [] st' (inr T) k = P k
TriesPass P false n s st j (p ∷ ls) st' (inr T) k =
    (P k ⊎ LinePasses s st.nodes (first_line n st (p ∷ ls)) k) ⊎ LinePasses s st.nodes (second_line n (live_members st) p ls) k

abbrev pub CommandPasses : (ℕ → Type 0) → (profile : Bool) (n s : ℕ) (st : State) (c : Command) (st' : State)
    → CommandTaken profile n s st c st' → ℕ → Type 0
CommandPasses P profile n s st (recorded r more) st' T k = RecordPasses P n s st r k
CommandPasses P profile n s st (added ls) st' T k =
    TriesPass (λ j. P j ⊎ Passes s st.nodes (meaning.clause n ls ∷ []) j) profile n s (with_entry st T.nodes T.node)
    T.node ls st' T.tried k
CommandPasses P profile n s st (struck_out ls) st' T k = P k
CommandPasses P profile n s st (wrong number offset) st' T k = P k
CommandPasses P profile n s st finished st' T k = P k

-- Of the clauses, and of all commands that were taken.
abbrev pub RunPasses : {mode : Mode} {s : ℕ} {text proof : List ℕ} {n : ℕ} {st : State} {at : ℕ} {m : Meant}
    → Reached mode s text proof n st at m → ℕ → Type 0
RunPasses {mode} {s} {text} {proof} {n} (begins M) k = Passes s emptied (map (meaning.clause n) (clauses_of (formula text))) k
RunPasses {mode} {s} {text} {proof} {n} (goes {st} {st'} {at} R T) k =
    CommandPasses (λ j. RunPasses R j) mode.consequence n s st (command_in mode proof n at) st' T k
