-- A cause in numbers as the code has it, and what is asked of the command that is refused. No call open to others cites this file.
use Rattle.std.specs.Prelude.{◌≡◌, ◌≢◌, Bool, false, List, ℕ, ◌<◌, length, Option}
use Rattle.std.specs.Result.{result_ok}
use Rattle.meaning.specs.Words.{in_word}
use Rattle.records.specs.declared.Rule.{Rule}
use Rattle.commands.specs.declared.Command as code
use Rattle.commands.specs.Commands.{Command}
use Rattle.commands.specs.Inner.{command_of}
use Rattle.verdict.specs.Steps as check
use Rattle.verdict.specs.Steps.{stop, spent, line_step}
use Rattle.verdict.specs.Check.{step}
use Rattle.profile.specs.Admitted.{admitted}
use Rattle.state.specs.declared.State.{State}
use Rattle.state.specs.States.{Lent, state_of, Held}
use Rattle.tries.specs.Commands.{CommandFits}
use Rattle.causes.specs.Answers.{Told}
use Rattle.command_causes.specs.declared.Cause.{Cause}

-- ---- the cause

-- With the words of the literals.
abbrev pub told_by : Cause → List ℕ → Told
told_by r words = record {
  variable = r.variable;
  child = r.child;
  word = r.word;
  rounds = r.rounds;
  has_member = r.has_member;
  member = r.member;
  words = words;
}

-- Two variables or an assignment's word.
abbrev pub of_numbers : ℕ → ℕ → ℕ → Cause
of_numbers variable child word =
    record { variable = variable; child = child; word = word; rounds = 0; has_member = false; member = 0 }

-- So many rounds, and maybe a member.
abbrev pub of_rounds : ℕ → Bool → ℕ → Cause
of_rounds rounds named member =
    record { variable = 0; child = 0; word = 0; rounds = rounds; has_member = named; member = member }

-- ---- the command

-- It is refused with the number: before it made a node, or with 19 once it made some.
abbrev pub RefusedWith : Bool → ℕ → ℕ → check.State → ℕ → Command → Type 0
RefusedWith profile n s st number c =
    (number ≢ 19 → step profile n s st c ≡ stop number 0) × (number ≡ 19 → (peak : ℕ) × (step profile n s st c ≡ spent 19 peak))

-- The command as the code has it, where the profile lets it in.
abbrev pub command_let : Bool → Command → Option code.Command
command_let profile c = result_ok (admitted profile (command_of c))

-- The command, as the code has it, is refused with the number; the witness has variables of the header alone.
pub record RefusedBy (n s : ℕ) (st : check.State) (number : ℕ) (command : Option code.Command) : Type 0 where
  pub profile : Bool
  pub said : Command
  pub admits : command_let profile said ≡ command
  pub fits : CommandFits n said
  pub within : (v : ℕ) → n < v → in_word st.positive v ≡ false
  pub refused : RefusedWith profile n s st number said

-- A line is refused with 19 in the state that the lists hold.
pub record LineRefused (lent : Lent) (st : State) (rule : Rule) (root : ℕ) : Type 0 where
  pub n : ℕ
  pub peak : ℕ
  pub held : Held n lent st
  pub refused : line_step n (length lent.vars) (state_of lent st) rule root ≡ spent 19 peak
