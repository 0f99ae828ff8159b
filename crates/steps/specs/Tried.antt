-- A line judged over a table that is then as before, and what it comes to. No call open to others cites this file.
use Rattle.std.specs.Prelude.{◌≡◌, false, not, cond, ◌||◌, List, [], ◌∷◌, ◌++◌, ℕ, suc, ◌+◌, ◌≤◌, max, length, set, eqb}
use Rattle.meaning.specs.Rules.{Line}
use Rattle.table.specs.Indexed.{Table, size, nodes_of}
use Rattle.table.specs.Making.{reach, line_reach}
use Rattle.judge.specs.declared.Judged.{Judged}
use Rattle.verdict.specs.Steps as check
use Rattle.state.specs.declared.State.{State}
use Rattle.state.specs.declared.Step.{Step}
use Rattle.state.specs.declared.Step.TheVariants.{Next, Spent}
use Rattle.paths.specs.Rounds.{most_rounds}
use Rattle.steps.specs.NextStates.{with_line}

-- As `Says` (judge/specs/Lines) has it, once the nodes made are dropped.
pub record Tried (t : Table) (line : Line) (r : Judged) : Type 0 where
  pub reaches : line_reach (size t) (nodes_of t) line ≡ reach (not r.full) r.peak
  pub shown : r.full ≡ false → r.shown ≡ line.shown
  pub rounds : r.full ≡ false → r.rounds ≡ line.rounds
  pub most : r.rounds ≤ most_rounds

-- ---- what it comes to, node g being the line's root

-- The definition's state after an accepted line of so many rounds.
abbrev pub accepted_by : check.State → ℕ → ℕ → ℕ → check.State
accepted_by st g rounds greatest = record {
  nodes = st.nodes;
  kept = length st.nodes;
  members = st.members ++ g ∷ [];
  struck = st.struck ++ 0 ∷ [];
  entries = [];
  positive = 0;
  negative = 0;
  lines = suc st.lines;
  rounds = st.rounds + rounds;
  peak = greatest;
  refuted = st.refuted || eqb g 0;
}

-- In the definition's terms.
abbrev pub said_by : check.State → ℕ → Judged → check.Step
said_by st g j =
    let peak = max st.peak j.peak in
    cond j.full (check.spent 23 peak) (cond (not j.shown) (check.spent 19 peak) (check.next (accepted_by st g j.rounds peak)))

-- In the code's.
abbrev pub step_by : State → Judged → ℕ → Step
step_by st j g =
    let peak = max st.peak j.peak in
    cond j.full (Spent 23 peak) (cond (not j.shown) (Spent 19 peak) (Next (with_line st j.rounds peak g)))

abbrev pub members_by : List ℕ → State → Judged → ℕ → List ℕ
members_by members st j g = cond j.full members (cond (not j.shown) members (set members st.members g))
