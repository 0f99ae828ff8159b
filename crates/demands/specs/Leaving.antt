-- What the theorems on the whole check speak of: where it ends, and what every lent place holds after it. No call open to others
-- cites this file.
use Rattle.table.specs.Making.{line_reach}
use Rattle.std.specs.Prelude.{◌≡◌, ◌≢◌, true, false, cond, Bool, List, [], ◌∷◌, ℕ, ◌+◌, ◌≤◌, ◌<◌, length, get_or, eqb}
use Rattle.meaning.specs.Diagram.{Assignment, Diagram}
use Rattle.meaning.specs.Operations.{Literal, clause_value, clause}
use Rattle.table.specs.Nodes.{Node, placed, place}
use Rattle.table.specs.Columns.{Columns}
use Rattle.dimacs.specs.Header.{header}
use Rattle.dimacs.specs.Clauses.{formula}
use Rattle.records.specs.declared.EntryNo.{EntryNo}
use Rattle.records.specs.declared.MemberNo.{MemberNo}
use Rattle.records.specs.declared.Rule.{Rule}
use Rattle.records.specs.declared.Record.TheVariants.{ProofLine, Strike, NoRecord}
use Rattle.commands.specs.declared.Form.TheVariants.{Records}
use Rattle.commands.specs.declared.Mode.{Mode}
use Rattle.commands.specs.Commands.{Command, recorded, added, struck_out, wrong, finished, is_drat}
use Rattle.verdict.specs.Steps.{State, with_entry, Step, next, stop, spent, entry_node, waiting, live_members}
use Rattle.verdict.specs.Clausal.{second_line}
use Rattle.verdict.specs.Check.{step, Verdict, CheckOutcome, lent_fits, zeros, outcome, check}
use Rattle.verdict.specs.Taken.{Function, Meant}
use Rattle.verdict.specs.ClauseTaken.{first_line, IsThere, SecondFits}
use Rattle.verdict.specs.Run.{command_in, line_functions, variables_of, Reached, Ended, ProofNumber}
use Rattle.verdict.specs.Marks.{strikings_before, mark_of}
use Rattle.verdict.specs.MetFirst.{no-conflict, met_by}
use Rattle.verdict.specs.Satisfies.{clauses_of, read_to_end}
use Rattle.demands.specs.Calls.{value_at, in_good_order}
use Rattle.demands.specs.Texts.{clauses_before}

-- What is handed to the check: the proof's form, the columns with their index and count, the member list and its marks, the scratch list,
-- the bytes of formula and proof.
pub record Handed : Type 0 where
  pub mode : Mode
  pub columns : Columns
  pub count : ℕ
  pub members : List ℕ
  pub struck : List ℕ
  pub scratch : List ℕ
  pub text : List ℕ
  pub proof : List ℕ

-- What the call says and leaves: the definition that the contracts of `checker`, `nodes` and `export` cite.
abbrev pub checked : Handed → CheckOutcome
checked i = check i.mode i.columns i.count i.members i.struck i.scratch i.text i.proof

-- The sizes that are asked of what is lent. (01, What is checked; 02, 3/14 and 7/14)
abbrev pub Fits : Handed → Type 0
Fits i = lent_fits i.columns i.members i.struck i.scratch ≡ true

-- The size of the table.
abbrev pub places : Handed → ℕ
places i = length i.columns.vars

-- The clauses read, in file order.
abbrev pub clauses_read : Handed → List (List Literal)
clauses_read i = clauses_of (formula i.text)

-- The functions of the proof's lines, as its bytes fix them.
abbrev pub lines_of : Handed → List Function
lines_of i = line_functions i.mode (variables_of (header i.text)) i.proof

-- ---- where it ends

-- "Number 7 changes nothing": "place 0, no lines, no rounds and the count as lent". "with 7, 24 and 25 it is 0" (02, 2/14)
abbrev pub seven : Handed → CheckOutcome
seven i = record {
  number = 7;
  in_proof = false;
  place = 0;
  lines = 0;
  rounds = 0;
  count = i.count;
  peak = 0;
  columns = i.columns;
  members = i.members;
  struck = i.struck;
  scratch = i.scratch;
}

-- "Order: 7, formula [..], proof": the call ends at the first place that is refused, or at the proof's end, and says what that says.
pub data Ends (i : Handed) : CheckOutcome → Type 0 where
  wrong_size : (Fits i → ⊥) → Ends i (seven i)
  at_place : {v : Verdict} → Fits i → Ended i.mode (places i) i.text i.proof v
      → Ends i (outcome (places i) (length i.members) (length i.scratch) v)

-- ---- what it leaves

-- "A refused formula leaves table and lists all zero, count 2. [..] Scratch ends as zeros." The peak is within the table; with 8 it
-- is the size.
pub record Emptied (i : Handed) (o : CheckOutcome) : Type 0 where
  pub number : (1 ≤ o.number) × (o.number ≤ 8) × (o.number ≢ 7)
  pub in-formula : o.in_proof ≡ false
  pub lines : o.lines ≡ 0
  pub rounds : o.rounds ≡ 0
  pub count : o.count ≡ 2
  pub peak : (2 ≤ o.peak) × (o.peak ≤ places i)
  pub filled : o.number ≡ 8 → o.peak ≡ places i
  pub vars : o.columns.vars ≡ zeros (length i.columns.vars)
  pub lows : o.columns.lows ≡ zeros (length i.columns.lows)
  pub highs : o.columns.highs ≡ zeros (length i.columns.highs)
  pub heads : o.columns.heads ≡ zeros (length i.columns.heads)
  pub links : o.columns.links ≡ zeros (length i.columns.links)
  pub members : o.members ≡ zeros (length i.members)
  pub struck : o.struck ≡ zeros (length i.struck)
  pub scratch : o.scratch ≡ zeros (length i.scratch)

-- Member k is a node of the table as left, and has under every assignment the value of the function.
abbrev pub Member : CheckOutcome → ℕ → Function → Type 0
Member o k f = (get_or o.members k 0 < o.count) × ((a : Assignment) → value_at o.columns o.count (get_or o.members k 0) a ≡ f a)

-- "A refused proof leaves the clauses and accepted lines with their nodes (those of all their entries), zeros above. Number 0
-- leaves the same": the member list holds the clauses, in file order, and then the roots of the accepted lines (in DRAT, its added
-- clauses), in theirs, each with its value, the struck ones too ("nodes stay"); the table is in good order. A mark is "1 once struck, else
-- 0, which stays, after a refused proof too": in records 1 exactly for the numbers in the strikings before the place where the run ends
-- (`AtEnd`: all of them taken); in DRAT as its clauses before that place fix it. The peak covers the count and is within the table; with
-- 23 it is the size.
pub record Kept (i : Handed) (o : CheckOutcome) : Type 0 where
  pub number : ProofNumber i.mode.form o.number
  pub in-proof : o.in_proof ≡ true
  pub peak : (o.count ≤ o.peak) × (o.peak ≤ places i)
  pub filled : o.number ≡ 23 → o.peak ≡ places i
  pub read : read_to_end (formula i.text) ≡ true
  pub good : in_good_order o.columns o.count ≡ true
  pub clauses : (k : ℕ) → k < length (clauses_read i) → Member o k (clause_value (get_or (clauses_read i) k []))
  pub lines : (j : ℕ) → j < o.lines → Member o (length (clauses_read i) + j) (get_or (lines_of i) j (λ a. false))
  pub marks : i.mode.form ≡ Records → (k : ℕ) → get_or o.struck k 0 ≡ mark_of (strikings_before i.proof o.place) k
  pub drat-marks : is_drat i.mode.form ≡ true → (k : ℕ) → get_or o.struck k 0
      ≡ get_or (clauses_before i.mode i.text i.proof o.place).marks k 0
  pub above : (k : ℕ) → length (clauses_read i) + o.lines ≤ k → (get_or o.members k 0 ≡ 0) × (get_or o.struck k 0 ≡ 0)
  pub long : (length o.members ≡ length i.members) × (length o.struck ≡ length i.struck)
  pub scratch : o.scratch ≡ zeros (length i.scratch)

-- What every lent place holds after the call, for every input.
pub data Leaves (i : Handed) (o : CheckOutcome) : Type 0 where
  unchanged : (Fits i → ⊥) → o ≡ seven i → Leaves i o
  emptied : Fits i → Emptied i o → Leaves i o
  kept : Fits i → Kept i o → Leaves i o

-- ---- its place

-- The number that a command ends the run with, and its place from the command's first byte on.
abbrev pub EndsWith : Step → ℕ → ℕ → Type 0
EndsWith (next st) number offset = ⊥
EndsWith (stop k o) number offset = (k ≡ number) × (o ≡ offset)
EndsWith (spent k peak) number offset = (k ≡ number) × (offset ≡ 0)

-- "9 to 23 [..] the record's first byte ([..] 11: the byte after the end record)"; "3, 4 (the token), 6, 22, 17, then 23 or 19, [..] 28, at
-- the first byte of the clause or its `d`" (02, 4/14); "31 and 4 at the literal, the others at the opening byte" (02,
-- 9/14): where that place is, by the command.
abbrev pub OffsetOf : Command → ℕ → ℕ → Type 0
OffsetOf (recorded r more) number offset = offset ≡ cond (eqb number 11) 1 0
OffsetOf (added ls) number offset = offset ≡ 0
OffsetOf (struck_out ls) number offset = offset ≡ 0
OffsetOf (wrong k o) number offset = (number ≡ k) × (offset ≡ o) × (number ≡ 6 → offset ≡ 0)
OffsetOf finished number offset = offset ≡ 0

-- "10 with no record begun: the length"; "20, at its length as is 0" (02, 4/14)
abbrev pub NoneBegun : Command → Type 0
NoneBegun (recorded r more) = r ≡ NoRecord
NoneBegun (added ls) = ⊥
NoneBegun (struck_out ls) = ⊥
NoneBegun (wrong k o) = ⊥
NoneBegun finished = Unit {0}

-- The command at which the run ends, all commands before it taken, and where the place given is.
pub record AtEnd (i : Handed) (o : CheckOutcome) : Type 0 where
  pub n : ℕ
  pub state : State
  pub at : ℕ
  pub offset : ℕ
  pub meant : Meant
  pub reached : Reached i.mode (places i) i.text i.proof n state at meant
  pub says : EndsWith (step i.mode.consequence n (places i) state (command_in i.mode i.proof n at)) o.number offset
  pub place : o.place ≡ at + offset
  pub stands : OffsetOf (command_in i.mode i.proof n at) o.number offset
  pub none-begun : NoneBegun (command_in i.mode i.proof n at) → o.place ≡ length i.proof

-- A state between the commands is reached: the formula is read and its clauses made.
pub record FormulaMade (i : Handed) : Type 0 where
  pub n : ℕ
  pub state : State
  pub at : ℕ
  pub meant : Meant
  pub reached : Reached i.mode (places i) i.text i.proof n state at meant

-- "refused with 3, 4 (the token), 6"; "6, then [..] 31, then [..] 4 [..]; another opening byte with 9": what the reader of a DRAT proof
-- refuses, at its place. (02, 4/14 and 9/14)
pub record AtFault (i : Handed) (o : CheckOutcome) : Type 0 where
  pub end : AtEnd i o
  pub here : command_in i.mode i.proof end.n end.at ≡ wrong o.number end.offset

-- ---- its 0 line

-- "an accepted line is 0": behind the first c members, the clauses, one is node 0.
pub record ZeroLine (c : ℕ) (st : State) : Type 0 where
  pub line : ℕ
  pub accepted : line < st.lines
  pub is_zero : get_or st.members (c + line) 0 ≡ 0

-- ---- a striking that is refused

-- "a member that does not exist or is struck already" (02, 3/14)
pub data NotLive (st : State) (k : ℕ) : Type 0 where
  not_there : length st.members ≤ k → NotLive st k
  struck-already : get_or st.struck k 0 ≡ 1 → NotLive st k

-- What a striking asks for is not there: of a record, the live member of its number, no witness waiting; of a `d` clause, a live member
-- that is its diagram. (02, 4/14)
abbrev pub Absent : ℕ → State → Command → Type 0
Absent n st (recorded r more) = (k : MemberNo) × (r ≡ Strike k) × (waiting st ≡ false) × NotLive st k.0
Absent n st (added ls) = ⊥
Absent n st (struck_out ls) = (k : ℕ) → k < length st.members → IsThere st (clause n ls) k → ⊥
Absent n st (wrong number offset) = ⊥
Absent n st finished = ⊥

-- A striking at the place, all commands before it taken, of what is absent.
pub record AtStriking (mode : Mode) (s : ℕ) (text proof : List ℕ) (at : ℕ) : Type 0 where
  pub n : ℕ
  pub state : State
  pub meant : Meant
  pub reached : Reached mode s text proof n state at meant
  pub absent : Absent n state (command_in mode proof n at)

-- ---- a line that is not shown

abbrev pub SecondFails : ℕ → List Diagram → List Literal → Type 0
SecondFails n ms [] = Unit {0}
SecondFails n ms (p ∷ ls) = (second_line n ms p ls).shown ≡ false

-- The second try has room and fails; in the consequence profile there is none. (02, 11/14)
abbrev pub SecondNotShown : Bool → ℕ → ℕ → List Node → List Diagram → List Literal → Type 0
SecondNotShown true n s t ms ls = Unit {0}
SecondNotShown false n s t ms ls = SecondFits n s t ms ls × SecondFails n ms ls

-- Neither try shows the clause, though both have room: "The empty clause has no pivot." (02, 4/14)
pub record ClauseNotShown (profile : Bool) (n s : ℕ) (st : State) (ls : List Literal) : Type 0 where
  pub nodes : List Node
  pub node : ℕ
  pub few : st.lines < 1024
  pub made : place s st.nodes (clause n ls) ≡ placed nodes node
  pub first_fits : (line_reach s nodes (first_line n (with_entry st nodes node) ls)).fits ≡ true
  pub first-fails : (first_line n (with_entry st nodes node) ls).shown ≡ false
  pub second-fails : SecondNotShown profile n s nodes (live_members (with_entry st nodes node)) ls

-- A line of which a propagation ends without conflict before a diagram finds no room.
abbrev pub NotShown : Bool → ℕ → ℕ → State → Command → Type 0
NotShown profile n s st (recorded r more) =
    (rule : Rule) × (root : EntryNo) × (r ≡ ProofLine rule root) × (met_by n s st rule (entry_node st root.0) ≡ no-conflict)
NotShown profile n s st (added ls) = ClauseNotShown profile n s st ls
NotShown profile n s st (struck_out ls) = ⊥
NotShown profile n s st (wrong number offset) = ⊥
NotShown profile n s st finished = ⊥

-- The line at which the run ends, at the place, all commands before it taken.
pub record AtLine (i : Handed) (at : ℕ) : Type 0 where
  pub n : ℕ
  pub state : State
  pub meant : Meant
  pub reached : Reached i.mode (places i) i.text i.proof n state at meant
  pub not-shown : NotShown i.mode.consequence n (places i) state (command_in i.mode i.proof n at)
