-- What members and entries stand for, and what a record has to pass to be taken. No call open to others cites this file: the theorems on
-- what `check` says do.
use Rattle.std.specs.Prelude.{◌≡◌, ◌≢◌, Bool, true, false, not, cond, List, [], ◌∷◌, ◌++◌, ℕ, ◌^◌, ◌≤◌, ◌<◌, max, length, get_or, set, eqb}
use Rattle.meaning.specs.Diagram.{Assignment, Diagram, holds, value}
use Rattle.meaning.specs.Sets.{parity_value, at_least_value}
use Rattle.meaning.specs.Rules.{Line, rup, pr, witnessed}
use Rattle.meaning.specs.Words.{in_word}
use Rattle.paths.specs.Paths.{path_line, path_count}
use Rattle.table.specs.Nodes.{Node, above, diagram_at, placed, put, place}
use Rattle.table.specs.Making.{line_reach}
use Rattle.records.specs.declared.NodeBody.{NodeBody}
use Rattle.records.specs.declared.Rule.{Rule}
use Rattle.records.specs.declared.Rule.TheVariants.{Rup, Pr, Path}
use Rattle.records.specs.declared.SetKind.{SetKind}
use Rattle.records.specs.declared.SetKind.TheVariants.{Parity, AtLeast}
use Rattle.records.specs.declared.SetBody.{SetBody}
use Rattle.records.specs.declared.Record.{Record}
use Rattle.records.specs.declared.Record.TheVariants.{NodeEntry, Witness, ProofLine, Strike, SetEntry, End}
use Rattle.records.specs.declared.Record.TheVariants.{CutShort, UnknownKind, NoRecord}
use Rattle.verdict.specs.Steps.{State, with_entry, with_witness, with_marks, is_entry, entry_node, assigned, waiting, accepted}
use Rattle.verdict.specs.Steps.{is_live, diagram_in, live_members, no_parity, set_diagram}

-- ---- what members and entries stand for

-- A Boolean function of assignments.
abbrev pub Function : Type 0
Function = Assignment → Bool

-- The functions that the members, and the line's entries from entry 2 on, stand for.
pub record Meant : Type 0 where
  pub members : List Function
  pub entries : List Function

-- "Entries 0 and 1 are 0 and 1"
abbrev pub numbered_meant : Meant → List Function
numbered_meant m = (λ a. false) ∷ (λ a. true) ∷ m.entries

unfoldable pub entry_meant : Meant → ℕ → Function
entry_meant m e = get_or (numbered_meant m) e (λ a. false)

-- "a node record's entry has the value of its high entry where its variable is true, of its low entry where it is false"
abbrev pub node_meant : Meant → NodeBody → Function
node_meant m b a = cond (holds a b.variable) (entry_meant m b.high.0 a) (entry_meant m b.low.0 a)

-- "its value [..] is 1 where the number of the set's true variables is odd or even, as the byte says, or at least k; else 0" (02, 5/14)
abbrev pub set_meant : SetKind → SetBody → Function
set_meant Parity b = parity_value (in_word b.set) (eqb b.byte 1)
set_meant AtLeast b = at_least_value (in_word b.set) b.byte

-- After a record that is not refused: "Makes the next entry"; "After an accepted line its root is the next member and entries [..]
-- start anew."
unfoldable pub after_record : Meant → Record → Meant
unfolding entry_meant
after_record m (NodeEntry b) = record { members = m.members; entries = m.entries ++ node_meant m b ∷ [] }
after_record m (ProofLine rule root) = record { members = m.members ++ entry_meant m root.0 ∷ []; entries = [] }
after_record m (Witness v b) = m
after_record m (Strike k) = m
after_record m (SetEntry kind b) = record { members = m.members; entries = m.entries ++ set_meant kind b ∷ [] }
after_record m End = m
after_record m CutShort = m
after_record m UnknownKind = m
after_record m NoRecord = m

-- Each of the numbers is a node below the bound and has the values of its function, in the nodes t.
abbrev pub Valued : List Node → ℕ → List ℕ → List Function → Type 0
Valued t bound [] [] = Unit {0}
Valued t bound [] (f ∷ fs) = ⊥
Valued t bound (k ∷ ks) [] = ⊥
Valued t bound (k ∷ ks) (f ∷ fs) = (k < bound) × ((a : Assignment) → value (diagram_at t k) a ≡ f a) × Valued t bound ks fs

-- ---- a record that is taken

-- "Node: 10, 21, 12, 13, 14, 23": none of them holds, and the node has a place.
pub record NodeTaken (n s : ℕ) (st : State) (b : NodeBody) (st' : State) : Type 0 where
  pub few : length st.entries < 4096
  pub least : 1 ≤ b.variable
  pub most : b.variable ≤ n
  pub low : is_entry st b.low.0 ≡ true
  pub high : is_entry st b.high.0 ≡ true
  pub over-low : above st.nodes b.variable (entry_node st b.low.0) ≡ true
  pub over-high : above st.nodes b.variable (entry_node st b.high.0) ≡ true
  pub nodes : List Node
  pub entry : ℕ
  pub room : put s st.nodes b.variable (entry_node st b.low.0) (entry_node st b.high.0) ≡ placed nodes entry
  pub is : with_entry st nodes entry ≡ st'

-- "Witness: 10, 12, 15": none of them holds.
pub record WitnessTaken (n : ℕ) (st : State) (v : ℕ) (b : Bool) (st' : State) : Type 0 where
  pub least : 1 ≤ v
  pub most : v ≤ n
  pub new-positive : in_word st.positive v ≡ false
  pub new-negative : in_word st.negative v ≡ false
  pub is : with_witness st (assigned b st.positive v) (assigned (not b) st.negative v) ≡ st'

-- A line by its rule: RUP, PR with the witness of two words, or a path line, of the members ms and the root g.
abbrev pub line_by : ℕ → Rule → ℕ → ℕ → List Diagram → Diagram → Line
line_by n Rup positive negative ms g = rup n ms g
line_by n Pr positive negative ms g = pr n (in_word positive) (in_word negative) ms g
line_by n Path positive negative ms g = path_line n ms g

-- The line whose root is node g, over the live members.
abbrev pub line_of : ℕ → State → Rule → ℕ → Line
line_of n st rule g = line_by n rule st.positive st.negative (live_members st) (diagram_in st g)

-- What its rule asks of the witness, and of the paths: none is left at a RUP line and at a path line; "g under ω is 1" at a PR line; a
-- path line has at most 4,096 paths.
abbrev pub Witnessed : ℕ → State → Rule → ℕ → Type 0
Witnessed n st Rup g = waiting st ≡ false
Witnessed n st Pr g = witnessed n (in_word st.positive) (in_word st.negative) (diagram_in st g) ≡ true
Witnessed n st Path g = (waiting st ≡ false) × (path_count (diagram_in st g) ≤ 4096)

-- The greatest count once a line is tried: what was reached before, or what the line reaches.
abbrev pub peak_with : ℕ → State → Line → ℕ
peak_with s st line = max st.peak (line_reach s st.nodes line).peak

-- "RUP: 10, 13, 16, 22, 17, then 19 or 23 [..]. PR: 10, 13, 22, 17, 18, then the same"; a path line has "34, just after 17" (02,
-- 12/14): none of them holds: its rule shows the line, and all that it makes finds room.
pub record LineTaken (n s : ℕ) (st : State) (rule : Rule) (root : ℕ) (st' : State) : Type 0 where
  pub entry : is_entry st root ≡ true
  pub few : st.lines < 1024
  pub not-one : entry_node st root ≢ 1
  pub witness : Witnessed n st rule (entry_node st root)
  pub fits : (line_reach s st.nodes (line_of n st rule (entry_node st root))).fits ≡ true
  pub shown : (line_of n st rule (entry_node st root)).shown ≡ true
  pub is : (let line = line_of n st rule (entry_node st root) in accepted st (entry_node st root) line (peak_with s st line) ≡ st')

-- "after 10 and then 16 for a waiting witness", 28: none of them holds, and the member's mark is 1. (02, 3/14)
pub record StrikeTaken (st : State) (k : ℕ) (st' : State) : Type 0 where
  pub none-waits : waiting st ≡ false
  pub live : is_live st k ≡ true
  pub is : with_marks st (set st.struck k 1) ≡ st'

-- "after 10 and 21, a set bit beyond the header with 12, a parity byte above 1 with 29, then 23" (02, 5/14): none of them holds, and
-- the set's diagram has its places.
pub record SetTaken (n s : ℕ) (st : State) (kind : SetKind) (b : SetBody) (st' : State) : Type 0 where
  pub few : length st.entries < 4096
  pub within : b.set < 2 ^ n
  pub byte : no_parity kind b.byte ≡ false
  pub nodes : List Node
  pub entry : ℕ
  pub room : place s st.nodes (set_diagram n kind b) ≡ placed nodes entry
  pub is : with_entry st nodes entry ≡ st'

-- What a record has to pass, by its kind, and the state that it leads to. No other record is followed by a state.
abbrev pub Taken : ℕ → ℕ → State → Record → State → Type 0
Taken n s st (NodeEntry b) st' = NodeTaken n s st b st'
Taken n s st (Witness v b) st' = WitnessTaken n st v b st'
Taken n s st (ProofLine rule root) st' = LineTaken n s st rule root.0 st'
Taken n s st (Strike k) st' = StrikeTaken st k.0 st'
Taken n s st (SetEntry kind b) st' = SetTaken n s st kind b st'
Taken n s st End st' = ⊥
Taken n s st CutShort st' = ⊥
Taken n s st UnknownKind st' = ⊥
Taken n s st NoRecord st' = ⊥
