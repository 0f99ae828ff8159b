-- The members of a check of a DRAT proof, as formula and proof fix them: clauses, and which of them are struck out. (02, 4/14 and 9/14) No
-- call open to others cites this file.
use Rattle.std.specs.Prelude.{◌≡◌, ◌&&◌, cond, List, [], ◌∷◌, ◌++◌, map, ℕ, zero, suc, length, replicate, eqb, ltb}
use Rattle.meaning.specs.Diagram.{Diagram, same}
use Rattle.meaning.specs.Operations as meaning
use Rattle.dimacs.specs.Header.{header}
use Rattle.dimacs.specs.Clauses.{formula}
use Rattle.commands.specs.declared.Mode.{Mode}
use Rattle.commands.specs.Commands.{Command, recorded, added, struck_out, wrong, finished, start}
use Rattle.clausal.specs.Literals.{Clause}
use Rattle.verdict.specs.Steps.{State, diagram_in, unstruck}
use Rattle.verdict.specs.Run.{command_in, next_in, variables_of}
use Rattle.verdict.specs.Satisfies.{clauses_of}

-- The members' clauses, in order, and their marks.
pub record ClauseList : Type 0 where
  pub clauses : List Clause
  pub marks : List ℕ

-- "A `d` line strikes the live member of lowest place that is the same diagram": the marks after it, of members with those diagrams.
unfoldable pub strike_lowest : Diagram → List Diagram → List ℕ → List ℕ
strike_lowest g [] marks = marks
strike_lowest g (d ∷ ds) [] = []
strike_lowest g (d ∷ ds) (m ∷ marks) = let rest = m ∷ strike_lowest g ds marks in cond (eqb m 0 && same d g) (1 ∷ marks) rest

-- After a command that is taken: an added clause is the next member, not struck.
abbrev pub list_after : ℕ → ClauseList → Command → ClauseList
list_after n l (recorded r more) = l
list_after n l (added ls) = record { clauses = l.clauses ++ ls ∷ []; marks = l.marks ++ 0 ∷ [] }
list_after n l (struck_out ls) =
    record { clauses = l.clauses; marks = strike_lowest (meaning.clause n ls) (map (meaning.clause n) l.clauses) l.marks }
list_after n l (wrong number offset) = l
list_after n l finished = l

-- After the commands that begin before a place, of at most so many from `at` on.
unfoldable pub list_from : ℕ → Mode → ℕ → List ℕ → ℕ → ℕ → ClauseList → ClauseList
unfolding strike_lowest
list_from zero mode n proof at end l = l
list_from (suc steps) mode n proof at end l =
    let later = list_from steps mode n proof (next_in mode proof n at) end (list_after n l (command_in mode proof n at)) in
    cond (ltb at end) later l

-- "Clauses become members 0, 1, 2 and so on", none of them struck.
abbrev pub formula_clauses : List ℕ → ClauseList
formula_clauses text = let cs = clauses_of (formula text) in record { clauses = cs; marks = replicate (length cs) 0 }

-- The members before a place of the proof. There are no more commands than bytes.
abbrev pub clauses_before : Mode → List ℕ → List ℕ → ℕ → ClauseList
clauses_before mode text proof end =
    list_from (length proof) mode (variables_of (header text)) proof (start mode.form proof) end (formula_clauses text)

-- The clauses of those that are not struck.
abbrev pub live_clauses : Mode → List ℕ → List ℕ → ℕ → List Clause
live_clauses mode text proof end = let l = clauses_before mode text proof end in unstruck l.marks l.clauses

-- In a state of a formula of n variables: the members are the clauses, each with its clause's diagram, and the marks are theirs.
pub record Matches (n : ℕ) (st : State) (l : ClauseList) : Type 0 where
  pub diagrams : map (diagram_in st) st.members ≡ map (meaning.clause n) l.clauses
  pub marks : st.struck ≡ l.marks
