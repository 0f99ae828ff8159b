-- The state between the records of a proof, and what each record comes to: the next state, or the end. A line is judged by the rules
-- over the members' diagrams, and what it makes must find room. (01)
use Rattle.std.specs.Prelude.{Bool, false, not, ◌&&◌, ◌||◌, cond, List, [], ◌∷◌, ◌++◌, map, ℕ, suc, ◌+◌, ◌-◌, ◌^◌, max, length, get_or, set}
use Rattle.std.specs.Prelude.{replicate, eqb, ltb, leb}
use Rattle.meaning.specs.Diagram.{Diagram}
use Rattle.meaning.specs.Rules.{Line, rup, pr, witnessed}
use Rattle.meaning.specs.Sets.{parity, at_least}
use Rattle.meaning.specs.Words.{in_word}
use Rattle.paths.specs.Paths.{path_line, path_count}
use Rattle.table.specs.Nodes.{Node, blank, above, diagram_at, Placing, full, placed, put, place}
use Rattle.table.specs.Making.{line_reach}
use Rattle.records.specs.declared.NodeBody.{NodeBody}
use Rattle.records.specs.declared.Rule.{Rule}
use Rattle.records.specs.declared.Rule.TheVariants.{Rup, Pr, Path}
use Rattle.records.specs.declared.SetKind.{SetKind}
use Rattle.records.specs.declared.SetKind.TheVariants.{Parity, AtLeast}
use Rattle.records.specs.declared.SetBody.{SetBody}
use Rattle.records.specs.declared.Record.{Record}
use Rattle.records.specs.declared.Record.TheVariants.{NodeEntry, Witness, ProofLine, Strike, SetEntry, End}
use Rattle.records.specs.declared.Record.TheVariants.{CutShort, UnknownKind, NoRecord}
use Rattle.records.specs.Records.{number_of}

-- ---- the state between records

-- The table's nodes, those of the line's entries included; how many of them stay if the line is not accepted; the members (clauses
-- and accepted lines) as node numbers and their marks, "1 once struck, else 0" (02, 3/14); the line's entries from entry 2 on, as node
-- numbers; the witness, the variables that it sets true and those that it sets false as two words; the accepted lines, their rounds, the
-- greatest count so far, and whether a line is the 0 diagram.
pub record State : Type 0 where
  pub nodes : List Node
  pub kept : ℕ
  pub members : List ℕ
  pub struck : List ℕ
  pub entries : List ℕ
  pub positive : ℕ
  pub negative : ℕ
  pub lines : ℕ
  pub rounds : ℕ
  pub peak : ℕ
  pub refuted : Bool

-- "The whole check starts by emptying the table and lists": the constants alone.
abbrev pub emptied : List Node
emptied = blank ∷ blank ∷ []

-- The state before the first record.
abbrev pub begun : List Node → List ℕ → State
begun nodes members = record {
  nodes = nodes;
  kept = length nodes;
  members = members;
  struck = replicate (length members) 0;
  entries = [];
  positive = 0;
  negative = 0;
  lines = 0;
  rounds = 0;
  peak = length nodes;
  refuted = false;
}

-- The state with one more entry.
abbrev pub with_entry : State → List Node → ℕ → State
with_entry st t k = record {
  nodes = t;
  kept = st.kept;
  members = st.members;
  struck = st.struck;
  entries = st.entries ++ k ∷ [];
  positive = st.positive;
  negative = st.negative;
  lines = st.lines;
  rounds = st.rounds;
  peak = max st.peak (length t);
  refuted = st.refuted;
}

-- The state with another witness.
abbrev pub with_witness : State → ℕ → ℕ → State
with_witness st positive negative = record {
  nodes = st.nodes;
  kept = st.kept;
  members = st.members;
  struck = st.struck;
  entries = st.entries;
  positive = positive;
  negative = negative;
  lines = st.lines;
  rounds = st.rounds;
  peak = st.peak;
  refuted = st.refuted;
}

-- The state with other marks.
abbrev pub with_marks : State → List ℕ → State
with_marks st struck = record {
  nodes = st.nodes;
  kept = st.kept;
  members = st.members;
  struck = struck;
  entries = st.entries;
  positive = st.positive;
  negative = st.negative;
  lines = st.lines;
  rounds = st.rounds;
  peak = st.peak;
  refuted = st.refuted;
}

-- What a record comes to: the next state; the end with a number and the place, counted from the record's first byte, where it made no
-- node; or the end with 23 or 19 at its first byte and the greatest count so far, once it made nodes: "On a refusal that count covers all
-- that was placed before". (02, 2/14)
pub data Step : Type 0 where
  next : State → Step
  stop : (number offset : ℕ) → Step
  spent : (number peak : ℕ) → Step

-- ---- node and witness records

-- "Makes the next entry, from 2; entries 0 and 1 are the constants." (01, The proof)
abbrev pub numbered : State → List ℕ
numbered st = 0 ∷ 1 ∷ st.entries

-- "13: no such entry or node"
unfoldable pub is_entry : State → ℕ → Bool
is_entry st e = ltb e (length (numbered st))

unfoldable pub entry_node : State → ℕ → ℕ
entry_node st e = get_or (numbered st) e 0

-- "12: variable 0 or beyond the header"
unfoldable pub is_variable : ℕ → ℕ → Bool
is_variable n v = leb 1 v && leb v n

-- The entry made, or 23.
unfoldable pub entered : State → Placing → Step
entered st (full t) = spent 23 (max st.peak (length t))
entered st (placed t k) = next (with_entry st t k)

-- "Node: 10, 21, 12, 13, 14, 23." "14: variable not before its children's"
unfoldable pub node_step : ℕ → ℕ → State → NodeBody → Step
unfolding is_entry entry_node is_variable entered
node_step n s st b =
    let l = entry_node st b.low.0 in
    let h = entry_node st b.high.0 in
    let made = entered st (put s st.nodes b.variable l h) in
    cond (leb 4096 (length st.entries)) (stop 21 0)
    (cond (not (is_variable n b.variable)) (stop 12 0)
    (cond (not (is_entry st b.low.0 && is_entry st b.high.0)) (stop 13 0)
    (cond (not (above st.nodes b.variable l && above st.nodes b.variable h)) (stop 14 0) made)))

-- "The witness sets it true, false": the word with the variable, where it is the one that is set.
abbrev pub assigned : Bool → ℕ → ℕ → ℕ
assigned set w v = cond set (w + 2 ^ (v - 1)) w

-- "Witness: 10, 12, 15." "15: witness names a variable twice"
unfoldable pub witness_step : ℕ → State → ℕ → Bool → Step
unfolding is_variable
witness_step n st v b =
    cond (not (is_variable n v)) (stop 12 0)
    (cond (in_word st.positive v || in_word st.negative v) (stop 15 0)
    (next (with_witness st (assigned b st.positive v) (assigned (not b) st.negative v))))

-- "16: witness left at a RUP line or the end"; "and then 16 for a waiting witness" (02, 3/14)
unfoldable pub waiting : State → Bool
waiting st = not (eqb st.positive 0 && eqb st.negative 0)

-- ---- lines

-- "After an accepted line its root is the next member and entries and witness start anew." (01, The proof)
abbrev pub accepted : State → ℕ → Line → ℕ → State
accepted st g line greatest = record {
  nodes = st.nodes;
  kept = length st.nodes;
  members = st.members ++ g ∷ [];
  struck = st.struck ++ 0 ∷ [];
  entries = [];
  positive = 0;
  negative = 0;
  lines = suc st.lines;
  rounds = st.rounds + line.rounds;
  peak = greatest;
  refuted = st.refuted || eqb g 0;
}

unfoldable pub judged : ℕ → State → ℕ → Line → Step
unfolding line_reach
judged s st g line =
    let r = line_reach s st.nodes line in
    let peak = max st.peak r.peak in
    cond (not r.fits) (spent 23 peak) (cond (not line.shown) (spent 19 peak) (next (accepted st g line peak)))

abbrev pub diagram_in : State → ℕ → Diagram
diagram_in st k = diagram_at st.nodes k

-- Of things that stand beside the marks those whose mark is 0, by place.
unfoldable pub unstruck : {A : Type 0} → List ℕ → List A → List A
unstruck marks [] = []
unstruck [] (x ∷ xs) = x ∷ xs
unstruck (m ∷ marks) (x ∷ xs) = let rest = unstruck marks xs in cond (eqb m 0) (x ∷ rest) rest

-- "Making, propagation and PR pass over struck members": the diagrams of the others, by place. (02, 3/14)
abbrev pub live_members : State → List Diagram
live_members st = map (diagram_in st) (unstruck st.struck st.members)

-- "RUP: 10, 13, 16, 22, 17, then 19 or 23, the one met first. PR: 10, 13, 22, 17, 18, then the same."
-- "It refuses as a RUP line does, and with 34, just after 17, a diagram with more than 4,096 such paths." (02, 12/14)
-- "17: line is always true"; "18: witness does not make the line 1"; "22: over 1,024 lines"
unfoldable pub line_step : ℕ → ℕ → State → Rule → ℕ → Step
unfolding is_entry entry_node waiting judged unstruck path_line path_count
line_step n s st Rup root =
    let g = entry_node st root in
    let last = judged s st g (rup n (live_members st) (diagram_in st g)) in
    cond (not (is_entry st root)) (stop 13 0)
    (cond (waiting st) (stop 16 0) (cond (leb 1024 st.lines) (stop 22 0) (cond (eqb g 1) (stop 17 0) last)))
line_step n s st Pr root =
    let g = entry_node st root in
    let P = in_word st.positive in
    let N = in_word st.negative in
    let last = judged s st g (pr n P N (live_members st) (diagram_in st g)) in
    let shut = cond (not (witnessed n P N (diagram_in st g))) (stop 18 0) last in
    cond (not (is_entry st root)) (stop 13 0) (cond (leb 1024 st.lines) (stop 22 0) (cond (eqb g 1) (stop 17 0) shut))
line_step n s st Path root =
    let g = entry_node st root in
    let last = judged s st g (path_line n (live_members st) (diagram_in st g)) in
    let few = cond (ltb 4096 (path_count (diagram_in st g))) (stop 34 0) last in
    cond (not (is_entry st root)) (stop 13 0)
    (cond (waiting st) (stop 16 0) (cond (leb 1024 st.lines) (stop 22 0) (cond (eqb g 1) (stop 17 0) few)))

-- ---- strikings

-- Whether there is a member of that number that is not struck.
unfoldable pub is_live : State → ℕ → Bool
is_live st k = ltb k (length st.members) && eqb (get_or st.struck k 0) 0

-- "A record of kind `44` [..] strikes out the member of that number [..] numbers are not reused, nodes stay. [..] It refuses with 28 a
-- member that does not exist or is struck already, after 10 and then 16 for a waiting witness." (02, 3/14)
unfoldable pub strike_step : State → ℕ → Step
unfolding waiting is_live
strike_step st k =
    cond (waiting st) (stop 16 0)
    (cond (not (is_live st k)) (stop 28 0)
    (next (with_marks st (set st.struck k 1))))

-- ---- either-or and at-least entries

-- "a set bit beyond the header": the word has a variable above n.
unfoldable pub beyond : ℕ → ℕ → Bool
beyond n set = leb (2 ^ n) set

-- "a parity byte above 1"
abbrev pub no_parity : SetKind → ℕ → Bool
no_parity Parity byte = ltb 1 byte
no_parity AtLeast byte = false

-- "one byte, 1 for odd and 0 for even"; "one byte k"
abbrev pub set_diagram : ℕ → SetKind → SetBody → Diagram
set_diagram n Parity b = parity n (in_word b.set) (eqb b.byte 1)
set_diagram n AtLeast b = at_least n (in_word b.set) b.byte

-- "Each makes the next entry. [..] It refuses, after 10 and 21, a set bit beyond the header with 12, a parity byte above 1 with 29,
-- then 23." (02, 5/14)
unfoldable pub set_step : ℕ → ℕ → State → SetKind → SetBody → Step
unfolding beyond entered
set_step n s st kind b =
    let made = entered st (place s st.nodes (set_diagram n kind b)) in
    cond (leb 4096 (length st.entries)) (stop 21 0)
    (cond (beyond n b.set) (stop 12 0) (cond (no_parity kind b.byte) (stop 29 0) made))

-- ---- every record

-- "End: 16, 11, 20." "11: the byte after the end record"
unfoldable pub end_step : State → Bool → Step
unfolding waiting
end_step st more = cond (waiting st) (stop 16 0) (cond more (stop 11 1) (cond st.refuted (stop 0 0) (stop 20 0)))

-- A record; `more` tells whether a byte follows it. "each record's kind (9) before all else"; 10: `number_of`.
unfoldable pub record_step : ℕ → ℕ → State → Bool → Record → Step
unfolding node_step witness_step line_step strike_step set_step end_step
record_step n s st more (NodeEntry b) = node_step n s st b
record_step n s st more (Witness v b) = witness_step n st v b
record_step n s st more (ProofLine rule root) = line_step n s st rule root.0
record_step n s st more (Strike k) = strike_step st k.0
record_step n s st more (SetEntry kind b) = set_step n s st kind b
record_step n s st more End = end_step st more
record_step n s st more CutShort = stop (number_of CutShort) 0
record_step n s st more UnknownKind = stop (number_of UnknownKind) 0
record_step n s st more NoRecord = stop (number_of NoRecord) 0
