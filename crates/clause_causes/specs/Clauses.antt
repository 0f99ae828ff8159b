-- An added clause that is refused with 19: what is required of it, and what its last try gives. No call open to others cites this file.
use Rattle.std.specs.Prelude.{◌≡◌, Bool, true, false, List, ℕ, length, take}
use Rattle.meaning.specs.Operations.{Literal}
use Rattle.meaning.specs.Literals.{OfVariables}
use Rattle.words.specs.declared.Literals.{Literals}
use Rattle.table.specs.Nodes.{Node, diagram_at}
use Rattle.table.specs.Indexed.{Table}
use Rattle.table.specs.Lists.{diagrams_of}
use Rattle.std.specs.Prelude.{Option, None, Some}
use Rattle.dimacs.specs.declared.Literal as code_literal
use Rattle.commands.specs.declared.DratClause.{DratClause}
use Rattle.commands.specs.Inner.{clause_words}
use Rattle.verdict.specs.Steps.{spent, unstruck}
use Rattle.verdict.specs.Clausal.{add_step}
use Rattle.profile.specs.Admitted.{tried_as}
use Rattle.state.specs.declared.State.{State}
use Rattle.state.specs.States.{Lent, state_of, Held}
use Rattle.tries.specs.Words.{witness_words}
use Rattle.tries.specs.Tries.{rup_in, pr_in}
use Rattle.causes.specs.Answers.{Told}
use Rattle.tell.specs.Failed.{Unshown, Fixed, by_not, PrTold}
use Rattle.clause_causes.specs.declared.Failed.{Failed}

-- The clause, as the code has it, is refused with 19 in the state that the lists hold.
pub record ClauseRefused (lent : Lent) (st : State) (clause : DratClause) : Type 0 where
  pub profile : Bool
  pub n : ℕ
  pub literals : List Literal
  pub peak : ℕ
  pub held : Held n lent st
  pub within : OfVariables n literals
  pub is : tried_as profile (clause_words literals) ≡ clause
  pub refused : add_step profile n (length lent.vars) (state_of lent st) literals ≡ spent 19 peak

-- The cause in numbers, from an answer and its words.
abbrev pub told_of : Failed → List ℕ → Told
told_of r words = record {
  variable = 0;
  child = 0;
  word = 0;
  rounds = r.rounds;
  has_member = r.has_member;
  member = r.member;
  words = words;
}

-- ---- the last try, over the table with the clause's node g

-- It finds room and is not shown: a RUP line without a pivot, else a PR line with the clause's witness.
abbrev pub TryFails : Table → List ℕ → ℕ → Literals → Option code_literal.Literal → Type 0
TryFails t live g u None = Unshown t (rup_in t live g)
TryFails t live g u (Some l) = Unshown t (pr_in t live g (witness_words u l.variable l.positive))

-- Of the propagation: its rounds and their words, and no member.
abbrev pub FirstTold : List Node → List ℕ → ℕ → Failed → List ℕ → Type 0
FirstTold t live g r words =
    (r.has_member ≡ false) × (r.member ≡ 0) × Fixed (by_not (diagram_at t g) (diagrams_of t live)) r.rounds words

-- Of the lowest member that is not shown: its turn's.
abbrev pub SecondTold : List Node → List ℕ → List ℕ → ℕ → ℕ → Literals → Failed → List ℕ → Type 0
SecondTold t members struck many g w r words =
    let live = unstruck (take many struck) (take many members) in
    (r.has_member ≡ true)
    × PrTold t w.positive w.negative (by_not (diagram_at t g) (diagrams_of t live)) members struck many r.member r.rounds words

abbrev pub TryTold : List Node → List ℕ → List ℕ → ℕ → ℕ → Literals → Option code_literal.Literal → Failed → List ℕ → Type 0
TryTold t members struck many g u None r words = FirstTold t (unstruck (take many struck) (take many members)) g r words
TryTold t members struck many g u (Some l) r words = SecondTold t members struck many g (witness_words u l.variable l.positive) r words
