-- A line's record with the same or with more live members: what is asked of it, and what two checks of it have in common. No call open to
-- others cites this file. (02, 13/14)
use Rattle.std.specs.Prelude.{◌≡◌, ◌≢◌, Bool, true, cond, List, [], ◌∷◌, ℕ, ◌<◌}
use Rattle.meaning.specs.Rules.{Line}
use Rattle.table.specs.Making.{line_reach}
use Rattle.records.specs.declared.Rule.{Rule}
use Rattle.verdict.specs.Steps.{State, Step, next, stop, spent, is_entry, entry_node, accepted, diagram_in}
use Rattle.verdict.specs.Taken.{line_of, Witnessed, peak_with}

-- "with enough room": all that the line makes finds a place in a table of s places.
abbrev pub RoomFor : ℕ → ℕ → State → Rule → ℕ → Type 0
RoomFor n s st rule root = (line_reach s st.nodes (line_of n st rule (entry_node st root))).fits ≡ true

-- The line comes to its rule: 13, 16 or 18, 22 and 17 are passed, so that only 19 and 23 are left.
pub record ComesToRule (n : ℕ) (st : State) (rule : Rule) (root : ℕ) : Type 0 where
  pub entry : is_entry st root ≡ true
  pub few : st.lines < 1024
  pub not-one : entry_node st root ≢ 1
  pub witness : Witnessed n st rule (entry_node st root)

-- What is left where there is room: the line is accepted where it is shown, else refused with 19.
abbrev pub by_rule : ℕ → State → ℕ → Line → Bool → Step
by_rule s st g line shown = cond shown (next (accepted st g line (peak_with s st line))) (spent 19 (peak_with s st line))

-- One line in two states, which may have other tables, other members and other entries: the root's diagram and the witness are the same.
pub record SameLine (st : State) (root : ℕ) (st' : State) (root' : ℕ) : Type 0 where
  pub line : diagram_in st (entry_node st root) ≡ diagram_in st' (entry_node st' root')
  pub positive : st.positive ≡ st'.positive
  pub negative : st.negative ≡ st'.negative

-- Two records are both accepted, or both refused with one number at one place. Rounds and peaks may differ.
abbrev pub Alike : Step → Step → Type 0
Alike (next st) (next st') = Unit {0}
Alike (stop number offset) (stop number' offset') = (number ≡ number') × (offset ≡ offset')
Alike (spent number peak) (spent number' peak') = number ≡ number'
Alike (next st) (stop number offset) = ⊥
Alike (next st) (spent number peak) = ⊥
Alike (stop number offset) (next st) = ⊥
Alike (stop number offset) (spent number' peak) = ⊥
Alike (spent number peak) (next st) = ⊥
Alike (spent number peak) (stop number' offset) = ⊥

-- ---- other members

-- The state with other members and other marks.
abbrev pub with_members : State → List ℕ → List ℕ → State
with_members st members marks = record {
  nodes = st.nodes;
  kept = st.kept;
  members = members;
  struck = marks;
  entries = st.entries;
  positive = st.positive;
  negative = st.negative;
  lines = st.lines;
  rounds = st.rounds;
  peak = st.peak;
  refuted = st.refuted;
}

-- Each thing with its mark, by place; one without a mark is not struck.
abbrev pub beside : {A : Type 0} → List ℕ → List A → List (ℕ × A)
beside marks [] = []
beside [] (x ∷ xs) = (0, x) ∷ beside [] xs
beside (m ∷ marks) (x ∷ xs) = (m, x) ∷ beside marks xs
