-- What is shown for a refused check: its number, the offending piece and the true cause. (02, 8/14)
use Rattle.std.specs.Prelude.{cond, List, [], ◌∷◌, ◌++◌, ℕ, zero, suc, length, eqb}
use Rattle.meaning.specs.Operations as meaning
use Rattle.table.specs.Nodes.{Node, Placing, full, placed, place}
use Rattle.dimacs.specs.Header.{Header, Proper, Improper, header}
use Rattle.dimacs.specs.Clauses.{Reading, clause, complete, refusal, clauses_from}
use Rattle.commands.specs.declared.Mode.{Mode}
use Rattle.commands.specs.Commands.{start, command_at}
use Rattle.verdict.specs.Steps.{State, emptied, begun, Step, next, stop, spent}
use Rattle.verdict.specs.Check.{step, verdict}
use Rattle.causes.specs.Parts.{Part, nothing, part_of}
use Rattle.causes.specs.Causes.{Cause, plain, cause}

-- ---- where the proof ends

-- The formula is refused; or a command ends the proof: the formula's variables, the state before the command, and its first byte.
pub data Ending : Type 0 where
  unread : Ending
  ended : (n : ℕ) (st : State) (at : ℕ) → Ending

abbrev pub ends_after : Step → Ending → (State → Ending) → Ending
ends_after (stop number offset) here rest = here
ends_after (spent number peak) here rest = here
ends_after (next st) here rest = rest st

-- Command after command as `commands` (Check) goes.
unfoldable pub commands_ending : ℕ → Mode → ℕ → ℕ → List ℕ → State → ℕ → Ending
unfolding step
commands_ending zero mode n s proof st at = ended n st at
commands_ending (suc steps) mode n s proof st at =
    let r = command_at mode.form proof n at in
    ends_after (step mode.consequence n s st r.command) (ended n st at) (λ st'. commands_ending steps mode n s proof st' r.next)

abbrev pub after_placing : Placing → (List Node → ℕ → Ending) → Ending
after_placing (full t) rest = unread
after_placing (placed t k) rest = rest t k

-- Clause after clause as `clauses` (Check) goes, then the commands.
unfoldable pub clauses_ending : Mode → ℕ → ℕ → List ℕ → List Node → List ℕ → Reading → Ending
unfolding commands_ending
clauses_ending mode n s proof t ms (clause ls first rest) =
    after_placing (place s t (meaning.clause n ls)) (λ t₁ k. clauses_ending mode n s proof t₁ (ms ++ k ∷ []) rest)
clauses_ending mode n s proof t ms complete =
    commands_ending (suc (length proof)) mode n s proof (begun t ms) (start mode.form proof)
clauses_ending mode n s proof t ms (refusal number place) = unread

abbrev pub ending_after_header : Mode → ℕ → List ℕ → List ℕ → Header → Ending
ending_after_header mode s formula proof (Proper n many at) = clauses_ending mode n s proof emptied [] (clauses_from formula n many at)
ending_after_header mode s formula proof (Improper number place) = unread

-- Where the check of a formula and a proof with a table of s places ends. That it is where `verdict` ends: theorem `ending-is`.
unfoldable pub ending : Mode → ℕ → List ℕ → List ℕ → Ending
unfolding clauses_ending header
ending mode s formula proof = ending_after_header mode s formula proof (header formula)

-- ---- the explanation

pub record Explanation : Type 0 where
  pub number : ℕ
  pub part : Part
  pub cause : Cause

abbrev pub explained : ℕ → Part → Cause → Explanation
explained number part cause = record { number = number; part = part; cause = cause }

-- The cause of a number, by where the proof ends.
abbrev pub cause_in : Mode → ℕ → List ℕ → Ending → Cause
cause_in mode number proof unread = plain
cause_in mode number proof (ended n st at) = cause mode.consequence n number st (command_at mode.form proof n at).command

-- "For a refused check a new call shows the offending piece [..] with the true cause. [..] It refuses with 30, showing an empty part, a
-- check that did not refuse."
unfoldable pub explanation : Mode → ℕ → List ℕ → List ℕ → Explanation
unfolding verdict ending part_of cause
explanation mode s formula proof =
    let v = verdict mode s formula proof in
    let refused = explained v.number (part_of mode formula proof v) (cause_in mode v.number proof (ending mode s formula proof)) in
    cond (eqb v.number 0) (explained 30 nothing plain) refused
