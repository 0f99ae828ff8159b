-- The run of a check as 01 tells it: what a command has to pass to be taken, the states between commands with what members and entries
-- stand for, and where the run ends. No call open to others cites this file: the theorems on what `check` says do.
use Rattle.std.specs.Prelude.{◌≡◌, ◌≢◌, Bool, true, false, List, [], ◌∷◌, ◌++◌, map, ℕ, zero, suc, ◌+◌, ◌≤◌, ◌<◌, length, take}
use Rattle.meaning.specs.Operations as meaning
use Rattle.table.specs.Nodes.{Node, full, placed, place}
use Rattle.dimacs.specs.Header.{Header, Proper, Improper, header}
use Rattle.dimacs.specs.Clauses.{Reading, clause, complete, refusal, clauses_from, formula}
use Rattle.records.specs.declared.Record.TheVariants.{End}
use Rattle.commands.specs.declared.Form.{Form}
use Rattle.commands.specs.declared.Form.TheVariants.{Records, Text, Binary}
use Rattle.commands.specs.declared.Mode.{Mode}
use Rattle.commands.specs.Commands.{Command, recorded, added, struck_out, wrong, finished, start, command_at}
use Rattle.verdict.specs.Steps.{State, emptied, begun, stop, spent, waiting}
use Rattle.verdict.specs.Check.{shut_out, step, Verdict, left, refused_formula}
use Rattle.verdict.specs.Taken.{Function, Meant, after_record, Taken}
use Rattle.verdict.specs.ClauseTaken.{ClauseTaken, ClauseStruck}
use Rattle.verdict.specs.Satisfies.{clauses_of}

-- ---- a command

-- The command at a place of a proof in a formula of n variables, and the place of the next.
abbrev pub command_in : Mode → List ℕ → ℕ → ℕ → Command
command_in mode proof n at = (command_at mode.form proof n at).command

abbrev pub next_in : Mode → List ℕ → ℕ → ℕ → ℕ
next_in mode proof n at = (command_at mode.form proof n at).next

-- What a command has to pass, by its kind, and the state that it leads to. No other command is followed by a state.
-- In the consequence profile no PR line is. (02, 11/14)
abbrev pub CommandTaken : Bool → ℕ → ℕ → State → Command → State → Type 0
CommandTaken profile n s st (recorded r more) st' = (shut_out profile r ≡ false) × Taken n s st r st'
CommandTaken profile n s st (added ls) st' = ClauseTaken profile n s st ls st'
CommandTaken profile n s st (struck_out ls) st' = ClauseStruck n st ls st'
CommandTaken profile n s st (wrong number offset) st' = ⊥
CommandTaken profile n s st finished st' = ⊥

-- ---- what members and entries stand for

-- After a command that is not refused: an added clause is the next member, "entries and witness start anew".
unfoldable pub after_command : Meant → Command → Meant
unfolding after_record
after_command m (recorded r more) = after_record m r
after_command m (added ls) = record { members = m.members ++ meaning.clause_value ls ∷ []; entries = [] }
after_command m (struck_out ls) = m
after_command m (wrong number offset) = m
after_command m finished = m

-- What members and entries stand for once so many commands from a place on are taken.
unfoldable pub meant_after : ℕ → Mode → ℕ → List ℕ → ℕ → Meant → Meant
unfolding after_command
meant_after zero mode n proof at m = m
meant_after (suc k) mode n proof at m =
    meant_after k mode n proof (next_in mode proof n at) (after_command m (command_in mode proof n at))

-- The functions of a proof's lines, line after line, as its bytes fix them: of the roots in records, of the added clauses in DRAT.
-- There are no more commands than bytes.
abbrev pub line_functions : Mode → ℕ → List ℕ → List Function
line_functions mode n proof =
    (meant_after (length proof) mode n proof (start mode.form proof) (record { members = []; entries = [] })).members

-- The functions of a formula's clauses, in file order.
abbrev pub clause_functions : List ℕ → List Function
clause_functions text = map meaning.clause_value (clauses_of (formula text))

-- The variables that a proper header names.
abbrev pub variables_of : Header → ℕ
variables_of (Proper n many at) = n
variables_of (Improper number place) = 0

-- "Clauses become members 0, 1, 2 and so on"; "After an accepted line its root is the next member": what the members stand for once so many
-- lines are accepted.
abbrev pub stands_for : Mode → List ℕ → List ℕ → ℕ → List Function
stands_for mode text proof lines = clause_functions text ++ take lines (line_functions mode (variables_of (header text)) proof)

-- ---- the states

-- While the clauses are made of a formula whose header has n variables and `many` clauses: the nodes, the members, the functions that
-- these stand for, and what is still to be read.
pub data Making (s : ℕ) (text : List ℕ) (n many : ℕ) : List Node → List ℕ → List Function → Reading → Type 0 where
  opened : {at : ℕ} → header text ≡ Proper n many at → Making s text n many emptied [] [] (clauses_from text n many at)
  made : {t t₁ : List Node} {ms : List ℕ} {k : ℕ} {fs : List Function} {ls : List meaning.Literal} {first : ℕ} {rest : Reading}
      → Making s text n many t ms fs (clause ls first rest) → place s t (meaning.clause n ls) ≡ placed t₁ k
      → Making s text n many t₁ (ms ++ k ∷ []) (fs ++ meaning.clause_value ls ∷ []) rest

-- The states between commands, each with the place of the next command and what members and entries stand for.
pub data Reached (mode : Mode) (s : ℕ) (text proof : List ℕ) (n : ℕ) : State → ℕ → Meant → Type 0 where
  begins : {many : ℕ} {t : List Node} {ms : List ℕ} {fs : List Function} → Making s text n many t ms fs complete
      → Reached mode s text proof n (begun t ms) (start mode.form proof) (record { members = fs; entries = [] })
  goes : {st st' : State} {at : ℕ} {m : Meant}
      → Reached mode s text proof n st at m → CommandTaken mode.consequence n s st (command_in mode proof n at) st'
      → Reached mode s text proof n st' (next_in mode proof n at) (after_command m (command_in mode proof n at))

-- The states that are reached from one by commands that are taken.
pub data Later (mode : Mode) (s : ℕ) (proof : List ℕ) (n : ℕ) (st : State) (at : ℕ) : State → ℕ → Type 0 where
  here : Later mode s proof n st at st at
  after : {st₁ st₂ : State} {at₁ : ℕ} → Later mode s proof n st at st₁ at₁ →
      CommandTaken mode.consequence n s st₁ (command_in mode proof n at₁) st₂
      → Later mode s proof n st at st₂ (next_in mode proof n at₁)

-- How a check ends, with what it says and leaves: there is no proper header; a token of the formula is refused, all clauses before
-- it made; a clause finds no room; a command is refused before it makes a node, or ends the proof; or it is refused once it made
-- some; all commands before it taken. Each gives its number, its place and the greatest count.
pub data Ended (mode : Mode) (s : ℕ) (text proof : List ℕ) : Verdict → Type 0 where
  no_header : {number place : ℕ} → header text ≡ Improper number place
      → Ended mode s text proof (refused_formula number place (length emptied))
  not-read : {n many number place : ℕ} {t : List Node} {ms : List ℕ} {fs : List Function}
      → Making s text n many t ms fs (refusal number place) → Ended mode s text proof (refused_formula number place (length t))
  no_room : {n many first : ℕ} {t t₁ : List Node} {ms : List ℕ} {fs : List Function} {ls : List meaning.Literal} {rest : Reading}
      → Making s text n many t ms fs (clause ls first rest) → place s t (meaning.clause n ls) ≡ full t₁
      → Ended mode s text proof (refused_formula 8 first (length t₁))
  stopped : {n number offset at : ℕ} {st : State} {m : Meant}
      → Reached mode s text proof n st at m → step mode.consequence n s st (command_in mode proof n at) ≡ stop number offset
      → Ended mode s text proof (left number (at + offset) st.peak st)
  tried : {n number peak at : ℕ} {st : State} {m : Meant}
      → Reached mode s text proof n st at m → step mode.consequence n s st (command_in mode proof n at) ≡ spent number peak
      → Ended mode s text proof (left number at peak st)

-- The numbers that a proof can get: 0, 9 to 23, 28, 29, 33 and 34 in records; 0, 3, 4, 6, 17, 19, 20, 22, 23 and 28 in a text; 0, 4, 6, 9,
-- 17, 19, 20, 22, 23, 28 and 31 in binary.
abbrev pub ProofNumber : Form → ℕ → Type 0
ProofNumber Records number = (number ≢ 28 → number ≢ 29 → number ≢ 33 → number ≢ 34 → number ≤ 23) × (number ≢ 0 → 9 ≤ number)
ProofNumber Text number =
    (number ≢ 28 → number ≤ 23) × (number ≢ 0 → 3 ≤ number) × (number ≢ 5) × (6 < number → 17 ≤ number) × (number ≢ 18) × (number ≢ 21)
ProofNumber Binary number =
    (number ≢ 28 → number ≢ 31 → number ≤ 23) × (number ≢ 0 → 4 ≤ number) × (number ≢ 5) × (6 < number → 9 ≤ number)
    × (9 < number → 17 ≤ number)
    × (number ≢ 18) × (number ≢ 21)

-- "End: 16, 11, 20": an end record with no witness waiting and no byte behind it; or the end of a DRAT proof. (02, 4/14)
abbrev pub Closes : State → Command → Type 0
Closes st (recorded r more) = (r ≡ End) × (waiting st ≡ false) × (more ≡ false)
Closes st (added ls) = ⊥
Closes st (struck_out ls) = ⊥
Closes st (wrong number offset) = ⊥
Closes st finished = Unit {0}

-- A refutation: the check reaches the proof's end with a 0 line among the accepted ones.
pub record Refutation (mode : Mode) (s : ℕ) (text proof : List ℕ) : Type 0 where
  pub variables : ℕ
  pub state : State
  pub place : ℕ
  pub meant : Meant
  pub reached : Reached mode s text proof variables state place meant
  pub end : Closes state (command_in mode proof variables place)
  pub zero-line : state.refuted ≡ true
