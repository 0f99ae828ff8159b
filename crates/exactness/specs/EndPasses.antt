-- "On a refusal that count covers all that was placed before" (02, 2/14): the counts that the command which ends the run passes through,
-- once it makes nodes. No call open to others cites this file.
use Rattle.std.specs.Prelude.{◌≡◌, Bool, true, false, List, [], ◌∷◌, ℕ}
use Rattle.meaning.specs.Diagram.{branch}
use Rattle.meaning.specs.Operations as meaning
use Rattle.table.specs.Nodes.{Node, placed, place}
use Rattle.table.specs.Making.{line_reach}
use Rattle.records.specs.declared.Record.TheVariants.{NodeEntry, Witness, ProofLine, Strike, SetEntry, End}
use Rattle.records.specs.declared.Record.TheVariants.{CutShort, UnknownKind, NoRecord}
use Rattle.commands.specs.Commands.{Command, recorded, added, struck_out, wrong, finished}
use Rattle.verdict.specs.Steps.{State, with_entry, entry_node, diagram_in, set_diagram, live_members}
use Rattle.verdict.specs.Clausal.{second_line}
use Rattle.verdict.specs.Taken.{line_of}
use Rattle.verdict.specs.ClauseTaken.{first_line}
use Rattle.exactness.specs.Passing.{Passes, LinePasses}

-- Of an added clause: its diagram; its first line, over the nodes with it; or, that one failed, its second, but in the consequence profile.
pub data AddedPasses (profile : Bool) (n s : ℕ) (st : State) (ls : List meaning.Literal) : ℕ → Type 0 where
  in-clause : {k : ℕ} → Passes s st.nodes (meaning.clause n ls ∷ []) k → AddedPasses profile n s st ls k
  in-first : {t : List Node} {j k : ℕ} → place s st.nodes (meaning.clause n ls) ≡ placed t j
      → LinePasses s t (first_line n (with_entry st t j) ls) k → AddedPasses profile n s st ls k
  in-second : {t : List Node} {j k : ℕ} {p : meaning.Literal} {rest : List meaning.Literal} → profile ≡ false → ls ≡ p ∷ rest
      → place s st.nodes (meaning.clause n ls) ≡ placed t j → (line_reach s t (first_line n (with_entry st t j) ls)).fits ≡ true
      → (first_line n (with_entry st t j) ls).shown ≡ false → LinePasses s t (second_line n (live_members (with_entry st t j)) p rest) k
      → AddedPasses profile n s st ls k

-- Of every command that can make nodes.
abbrev pub EndPasses : Bool → ℕ → ℕ → State → Command → ℕ → Type 0
EndPasses profile n s st (recorded (NodeEntry b) more) k =
    Passes s st.nodes (branch b.variable (diagram_in st (entry_node st b.low.0)) (diagram_in st (entry_node st b.high.0)) ∷ []) k
EndPasses profile n s st (recorded (SetEntry kind b) more) k = Passes s st.nodes (set_diagram n kind b ∷ []) k
EndPasses profile n s st (recorded (ProofLine rule root) more) k = LinePasses s st.nodes (line_of n st rule (entry_node st root.0)) k
EndPasses profile n s st (recorded (Witness v b) more) k = ⊥
EndPasses profile n s st (recorded (Strike j) more) k = ⊥
EndPasses profile n s st (recorded End more) k = ⊥
EndPasses profile n s st (recorded CutShort more) k = ⊥
EndPasses profile n s st (recorded UnknownKind more) k = ⊥
EndPasses profile n s st (recorded NoRecord more) k = ⊥
EndPasses profile n s st (added ls) k = AddedPasses profile n s st ls k
EndPasses profile n s st (struck_out ls) k = ⊥
EndPasses profile n s st (wrong number offset) k = ⊥
EndPasses profile n s st finished k = ⊥
