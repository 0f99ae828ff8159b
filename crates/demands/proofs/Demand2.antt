-- Demand 2, the rules: one theorem a sentence. The idea: proved in the files named. Assumes nothing.
use mathlib.Core.Path.{◌≡◌}
use mathlib.Core.Logic.{◌↔◌}
use mathlib.Core.Bool.{Bool, true, false}
use mathlib.Core.List.{List, [], ◌∷◌, map}
use Prim.Native.Nat.{ℕ}
use lib.ListN.{length, replicate}
use Rattle.meaning.specs.Diagram.{Assignment, Diagram}
use Rattle.meaning.specs.Operations.{nearest, clause}
use Rattle.meaning.specs.Rules.{conflicts, by_units, by_diagram}
use Rattle.meaning.proofs.Nearest as Near
use Rattle.meaning.proofs.Nearest.{Nearest, Satisfied}
use Rattle.table.specs.Nodes.{Node, diagram_at}
use Rattle.table.specs.Columns.{Columns, columns_made}
use Rattle.dimacs.specs.Clauses.{formula}
use Rattle.records.specs.declared.Rule.{Rule}
use Rattle.clausal.specs.Drat.{Plain, AllPlain, Accepted}
use Rattle.clausal.specs.Literals.{Clause}
use Rattle.commands.specs.declared.Form.{Form}
use Rattle.commands.specs.declared.Mode.{Mode}
use Rattle.commands.specs.Commands.{Command, added, in_records, is_drat, in_form}
use Rattle.operate.specs.declared.Operation.{Operation}
use Rattle.operate.specs.declared.Operation.TheVariants.{Negation, Cofactor}
use Rattle.operate.specs.Operate.{result}
use Rattle.single.specs.Single.{operation}
use Rattle.verdict.specs.Steps.{State, next, spent, judged, live_members}
use Rattle.verdict.specs.Check.{step, verdict, CheckOutcome, outcome, check}
use Rattle.verdict.specs.Taken.{Meant, line_of, peak_with}
use Rattle.verdict.specs.ClauseTaken.{GoesOn as StepGoesOn, HasRoom}
use Rattle.verdict.specs.Run.{command_in, CommandTaken, Reached, Refutation}
use Rattle.verdict.specs.Satisfies.{clauses_of}
use Rattle.verdict.specs.MetFirst.{met_by, say_met}
use Rattle.dimacs.specs.Texts.{bytes}
use Rattle.verdict.specs.Cases.{Gives, GivesAll, over, rup_line, A-formula, A-proof, case_table, number_table, waiting_table, strike_table}
use Rattle.verdict.specs.Cases.{set_table}
use Rattle.verdict.specs.TextRows.{text_table}
use Rattle.verdict.specs.PathRows.{path_table, profile_table}
use Rattle.verdict.proofs.Cases as Tables
use Rattle.verdict.proofs.TextRows as TextRows
use Rattle.verdict.proofs.PathRows as PathRows
use Rattle.verdict.proofs.Commands as Commands
use Rattle.verdict.proofs.MetFirst as MetFirst
use Rattle.demands.specs.Calls.{nodes_of_columns}
use Rattle.demands.specs.Words.{Conflict, Among, AmongLive}
use Rattle.demands.specs.Leaving.{Handed, checked, Fits, places, ZeroLine, AtStriking, AtLine}
use Rattle.demands.specs.Texts.{live_clauses}
use Rattle.demands.specs.Full.{Wants, AtClause, AtCommand}
use Rattle.demands.specs.LongRows.{entries_row, lines_row, entries_order, lines_order}
use Rattle.demands.proofs.Words as Words
use Rattle.demands.proofs.Words.{GoesOn}
use Rattle.demands.proofs.Ending as Ending
use Rattle.demands.proofs.NoRoom as NoRoom
use Rattle.demands.proofs.TextMembers as TextMembers
use Rattle.demands.proofs.TextRules as TextRules
use Rattle.demands.proofs.ZeroLines as ZeroLines
use Rattle.demands.proofs.NotShown as NotShown
use Rattle.demands.proofs.Strikings as Strikings
use Rattle.demands.proofs.Rows as Rows
use Rattle.demands.proofs.LineRows as LineRows

-- ---- the check

-- 0 is given exactly where the sizes fit, the formula is read and its clauses made, each record in turn passes what 01 asks of its kind (a
-- line: RUP or PR, within room and limits), an accepted line is 0, and the end record ends the proof with no witness left and no byte
-- behind it; in a text each clause passes, one is empty, and the text is read to its end. (02, 4/14)
pub check-zero-exactly : (i : Handed) → ((checked i).number ≡ 0) ↔ (Fits i × Refutation i.mode (places i) i.text i.proof)
check-zero-exactly = Ending.check-zero-exactly

-- "0: refuted; place of the end record"
pub check-zero-place : (i : Handed) → Fits i → (F : Refutation i.mode (places i) i.text i.proof) → (checked i).place ≡ F.place
check-zero-place = Ending.check-zero-place

-- "20, at its length as is 0": in DRAT that place is its length. (02, 4/14)
pub drat-zero-place : (i : Handed) → is_drat i.mode.form ≡ true → (F : Refutation i.mode (places i) i.text i.proof) → F.place
    ≡ length i.proof
drat-zero-place = Ending.drat-zero-place

-- "an accepted line is 0": what the refutation's `zero-line` says.
pub zero-line-exactly : (mode : Mode) (s : ℕ) (text proof : List ℕ) {n : ℕ} {st : State} {at : ℕ} {m : Meant} →
    Reached mode s text proof n st at m
    → (st.refuted ≡ true) ↔ ZeroLine (length (clauses_of (formula text))) st
zero-line-exactly = ZeroLines.zero-line-exactly

-- A command leads to a next state exactly where it passes what 01 and 02 ask of its kind: `NodeTaken`, `WitnessTaken`, `LineTaken`,
-- `StrikeTaken`, `SetTaken`; of a text's, `ClauseTaken`, `ClauseStruck`.
pub step-exactly : (profile : Bool) (n s : ℕ) (st : State) (c : Command) (st' : State) →
    (step profile n s st c ≡ next st') ↔ CommandTaken profile n s st c st'
step-exactly = Commands.step-exactly

-- "then 19 or 23, the one met first": a line is judged as its diagrams are made, in 01's making order.
pub met-first : (n s : ℕ) (st : State) (rule : Rule) (g : ℕ) → judged s st g (line_of n st rule g)
    ≡ say_met st g (line_of n st rule g) (peak_with s st (line_of n st rule g)) (met_by n s st rule g)
met-first = MetFirst.met-first

-- "19: not shown: no conflict": of the call, the line at the place given; its propagation ends without conflict before a diagram finds no
-- room. Of an added clause, neither try shows it, and both had room; the empty one has no second. (02, 4/14)
pub nineteen-only : (i : Handed) → (checked i).number ≡ 19 → AtLine i (checked i).place
nineteen-only = NotShown.nineteen-only

-- "It refuses with 28 a member that does not exist or is struck already, after 10 and then 16 for a waiting witness": at the record. (02,
-- 3/14) "an absent clause to strike with 28": no live member is its diagram; at its `d`. (02, 4/14)
pub twenty-eight-exactly : (i : Handed) → Fits i → (at : ℕ) → (((checked i).number ≡ 28) × ((checked i).place ≡ at)) ↔ AtStriking i.mode
    (places i) i.text i.proof at
twenty-eight-exactly = Strikings.twenty-eight-exactly

-- "8 and 23 are given only where a node not in the table is to be placed and the count equals the size."
pub eight-only : (i : Handed) → (checked i).number ≡ 8 → AtClause (places i) i.text (checked i).place
eight-only = NoRoom.eight-only

pub twenty-three-only : (i : Handed) → (checked i).number ≡ 23 → AtCommand i.mode (places i) i.text i.proof (checked i).place
twenty-three-only = NoRoom.twenty-three-only

pub operation-full : (op : Operation) (c : Columns) (count f g : ℕ) → (operation op c count f g).number ≡ 23
    → Wants (length c.vars) (nodes_of_columns c count)
    (result op (diagram_at (nodes_of_columns c count) f) (diagram_at (nodes_of_columns c count) g))
operation-full = NoRoom.operation-full

-- ---- clauses of a DRAT proof

-- "Prove that for clauses and members without both signs of a variable the two tries accept exactly what RUP and RAT over clauses accept,
-- the table having room": in every state that the check of a DRAT proof reaches. The members are the formula's clauses and those that the
-- proof added, by place, and the live ones are those that it has not struck out. (02, 4/14)
pub added-exactly : (form : Form) → is_drat form ≡ true → (s : ℕ) (text proof : List ℕ) {n : ℕ} {st : State} {at : ℕ} {m : Meant} →
    Reached (in_form form false) s text proof n st at m
    → (c : Clause) → command_in (in_form form false) proof n at ≡ added c → AllPlain (live_clauses (in_form form false) text proof at) →
    Plain c → (t : List Node) (k : ℕ) → HasRoom n s st c t k
    → StepGoesOn (step false n s st (command_in (in_form form false) proof n at)) ↔ Accepted
    (live_clauses (in_form form false) text proof at) c
added-exactly = TextRules.added-exactly

-- Else it is refused with 19.
pub added-refused : (form : Form) → is_drat form ≡ true → (s : ℕ) (text proof : List ℕ) {n : ℕ} {st : State} {at : ℕ} {m : Meant} →
    Reached (in_form form false) s text proof n st at m
    → (c : Clause) → command_in (in_form form false) proof n at ≡ added c → AllPlain (live_clauses (in_form form false) text proof at) →
    Plain c → (t : List Node) (k : ℕ) → HasRoom n s st c t k
    → (Accepted (live_clauses (in_form form false) text proof at) c → ⊥) → (peak : ℕ)
    × (step false n s st (command_in (in_form form false) proof n at) ≡ spent 19 peak)
added-refused = TextRules.added-refused

-- What the tries look at: the diagrams of those clauses.
pub drat-live : (mode : Mode) → is_drat mode.form ≡ true → (s : ℕ) (text proof : List ℕ) {n : ℕ} {st : State} {at : ℕ} {m : Meant} →
    Reached mode s text proof n st at m
    → live_members st ≡ map (clause n) (live_clauses mode text proof at)
drat-live = TextMembers.drat-live

-- ---- the rules' words

-- "Making, propagation and PR pass over struck members": a diagram is among those that a line looks at exactly where a member that is not
-- struck has it.
pub live-exactly : (st : State) (D : Diagram) → Among (live_members st) D ↔ AmongLive st D
live-exactly = Strikings.live-exactly

-- "the nearest one that satisfies g": there is one where g is satisfied at all, and only one.
pub nearest-is : (n : ℕ) (g : Assignment → Bool) (a : Assignment) → Satisfied n g → Nearest n g a (nearest n g a)
nearest-is = Near.nearest-is

pub nearest-unique : (n : ℕ) (g : Assignment → Bool) (a b c : Assignment) → length a ≡ n → Nearest n g a b → Nearest n g a c → b ≡ c
nearest-unique = Near.nearest-unique

-- "(a) a member is 0 or the negation of another: conflict"
pub conflicts-exactly : (n : ℕ) (ms : List Diagram) → (conflicts n ms ≡ true) ↔ Conflict n ms
conflicts-exactly = Words.conflicts-exactly

-- "(b) else, if some U is not empty, take the member of lowest place, cofactor all members by its U, count one round, go to (a); (c) else
-- no conflict": of the members that a line's propagation begins with, and of those that a round leaves.
pub line-goes-on : (n : ℕ) (g : Diagram) (ms : List Diagram) → GoesOn n (by_diagram n g ms)
line-goes-on = Words.line-goes-on

pub round-goes-on : (n : ℕ) (u : Diagram) (ms : List Diagram) → GoesOn n (by_units n u ms)
round-goes-on = Words.round-goes-on

-- ---- the tables

-- "A to J form one table, and one theorem says that the rules give each row."
pub cases : GivesAll case_table
cases = Tables.cases

pub numbers : GivesAll number_table
numbers = Tables.numbers

-- 02's strikings: 28, its order with 10 and 16, the marks that are left.
pub strikings : GivesAll strike_table
strikings = Tables.strikings

-- 02's sets: odd and even, at least k; 10, 12, 29 and 23 in their order, and the edges.
pub set-entries : GivesAll set_table
set-entries = Tables.set-entries

-- 02's texts: each number that a text can get, at its place; comments, `d` lines, second tries, full tables.
pub texts : GivesAll text_table
texts = TextRows.texts

-- 02's path lines: 10, 13, 16, 17 and 34 in their order, the one path of line 0, what RUP refuses, what is made.
pub path-lines : GivesAll path_table
path-lines = PathRows.path-lines

-- 02's consequence profile: 33 and its order, what passes, the first try alone.
pub profile-lines : GivesAll profile_table
profile-lines = PathRows.profile-lines

-- "7: table of 1 place"; "21: node record 4,097 of a line"; "22: line 1,025"; "26: node 2 = 1, 0, 0"; "27: f = 1, g = 0". 24 and 25 are the
-- program's (report/proofs/Saying: `long-formula`, `long-proof`, `no-formula`, `no_proof`).
abbrev sized : Columns → ℕ
sized c = (check in_records c 2 (replicate 2048 0) (replicate 2048 0) (replicate 4096 0) (bytes A-formula) A-proof).number

pub seven : (sized (columns_made (0 ∷ []) (0 ∷ []) (0 ∷ []) (0 ∷ 0 ∷ []) (0 ∷ [])) ≡ 7)
    × (sized (columns_made (0 ∷ 0 ∷ []) (0 ∷ 0 ∷ []) (0 ∷ 0 ∷ []) (0 ∷ 0 ∷ 0 ∷ []) (0 ∷ 0 ∷ [])) ≡ 7)
    × (sized (columns_made (0 ∷ 0 ∷ []) (0 ∷ 0 ∷ []) (0 ∷ 0 ∷ []) (0 ∷ 0 ∷ 0 ∷ 0 ∷ []) (0 ∷ 0 ∷ 0 ∷ [])) ≡ 7)
seven = Tables.seven

-- What a waiting witness is: one of false variables waits too.
pub witnesses-wait : GivesAll waiting_table
witnesses-wait = Tables.witnesses-wait

-- The count and the peak that are left, where all entries are of accepted lines, and where one is not.
abbrev left : List ℕ → CheckOutcome
left proof = outcome 16 2048 4096 (verdict in_records 16 (bytes A-formula) proof)

pub counts-left : ((left A-proof).count ≡ 8) × ((left A-proof).peak ≡ 10) × ((left (over 1 0 1 [])).count ≡ 8)
    × ((left (over 1 0 1 [])).peak ≡ 9)
counts-left = Tables.counts-left

pub twenty-one : Gives (entries_row (over 1 0 1 []) 21)
twenty-one = Rows.twenty-one

pub twenty-two : Gives (lines_row (rup_line 0 []) 22 3072)
twenty-two = LineRows.twenty-two

-- Two faults at that place: 10 before 21, 21 before 12, 13 and 29; 13 and 16 before 22, 22 before 17 and 18.
pub entries-order : GivesAll entries_order
entries-order = Rows.entries-order

pub lines-order : GivesAll lines_order
lines-order = LineRows.lines-order

pub twenty-six : (operation Negation (columns_made (0 ∷ 0 ∷ 1 ∷ []) (0 ∷ 0 ∷ 0 ∷ []) (0 ∷ 0 ∷ 0 ∷ []) (0 ∷ 2 ∷ 0 ∷ 0 ∷ 0 ∷ 0 ∷ [])
    (0 ∷ 0 ∷ 0 ∷ [])) 3 2 1).number ≡ 26
twenty-six = Rows.twenty-six

pub twenty-seven : (operation Cofactor (columns_made (0 ∷ 0 ∷ []) (0 ∷ 0 ∷ []) (0 ∷ 0 ∷ []) (0 ∷ 0 ∷ 0 ∷ 0 ∷ []) (0 ∷ 0 ∷ [])) 2 1 0).number
    ≡ 27
twenty-seven = Rows.twenty-seven

-- "It refuses [..] in single calls, a wrong one with 26": the index of one node, right and wrong. (02, 7/14)
pub index-judged : (Rows.evaluated_with (2 ∷ 0 ∷ 0 ∷ 0 ∷ 0 ∷ 0 ∷ []) (0 ∷ 0 ∷ 0 ∷ []) ≡ 0)
    × (Rows.evaluated_with (0 ∷ 0 ∷ 0 ∷ 0 ∷ 0 ∷ 0 ∷ []) (0 ∷ 0 ∷ 0 ∷ []) ≡ 26)
    × (Rows.evaluated_with (0 ∷ 2 ∷ 0 ∷ 0 ∷ 0 ∷ 0 ∷ []) (0 ∷ 0 ∷ 0 ∷ []) ≡ 26)
    × (Rows.evaluated_with (2 ∷ 0 ∷ 0 ∷ 0 ∷ 0 ∷ 0 ∷ []) (0 ∷ 0 ∷ 2 ∷ []) ≡ 26)
index-judged = Rows.index-judged
