-- What a clause of a DRAT proof has to pass to be taken, as `verdict/specs/Taken` says it of records. No call open to others cites this
-- file.
use Rattle.std.specs.Prelude.{◌≡◌, ◌⊎◌, Bool, true, false, ◌&&◌, List, [], ◌∷◌, ℕ, ◌<◌, length, get_or, set}
use Rattle.meaning.specs.Diagram.{Diagram, leaf, same}
use Rattle.meaning.specs.Operations as meaning
use Rattle.meaning.specs.Rules.{Line, rup}
use Rattle.table.specs.Nodes.{Node, placed, place}
use Rattle.table.specs.Making.{line_reach}
use Rattle.verdict.specs.Steps.{State, with_entry, with_marks, Step, next, stop, spent, accepted, diagram_in, live_members, is_live}
use Rattle.verdict.specs.Taken.{peak_with}
use Rattle.verdict.specs.Clausal.{with_peak, second_line}

-- Neither 23 nor 19: what the line makes finds room, and its rule shows it.
pub record Judged (s : ℕ) (st : State) (g : ℕ) (line : Line) (st' : State) : Type 0 where
  pub fits : (line_reach s st.nodes line).fits ≡ true
  pub shown : line.shown ≡ true
  pub is : accepted st g line (peak_with s st line) ≡ st'

-- "A clause is tried as a RUP line"
abbrev pub first_line : ℕ → State → List meaning.Literal → Line
first_line n st ls = rup n (live_members st) (meaning.clause n ls)

-- "failing with 19, as a PR line": the first try finds room and is not shown, the second passes.
pub record SecondPasses (n s : ℕ) (st : State) (k : ℕ) (p : meaning.Literal) (ls : List meaning.Literal) (st' : State) : Type 0 where
  pub room : (line_reach s st.nodes (first_line n st (p ∷ ls))).fits ≡ true
  pub failed : (first_line n st (p ∷ ls)).shown ≡ false
  pub passes : Judged s (with_peak st (peak_with s st (first_line n st (p ∷ ls)))) k (second_line n (live_members st) p ls) st'

-- In the consequence profile there is no second try. (02, 11/14)
abbrev pub SecondTaken : Bool → ℕ → ℕ → State → ℕ → List meaning.Literal → State → Type 0
SecondTaken true n s st k ls st' = ⊥
SecondTaken false n s st k [] st' = ⊥
SecondTaken false n s st k (p ∷ ls) st' = SecondPasses n s st k p ls st'

-- One of the tries passes.
abbrev pub TriesTaken : Bool → ℕ → ℕ → State → ℕ → List meaning.Literal → State → Type 0
TriesTaken profile n s st k ls st' = Judged s st k (first_line n st ls) st' ⊎ SecondTaken profile n s st k ls st'

-- "22, 17, then 23 or 19": none of them holds.
pub record ClauseTaken (profile : Bool) (n s : ℕ) (st : State) (ls : List meaning.Literal) (st' : State) : Type 0 where
  pub few : st.lines < 1024
  pub not-one : same (meaning.clause n ls) (leaf true) ≡ false
  pub nodes : List Node
  pub node : ℕ
  pub room : place s st.nodes (meaning.clause n ls) ≡ placed nodes node
  pub tried : TriesTaken profile n s (with_entry st nodes node) node ls st'

-- A step that goes on.
abbrev pub GoesOn : Step → Type 0
GoesOn (next st) = Unit {0}
GoesOn (stop number offset) = ⊥
GoesOn (spent number peak) = ⊥

abbrev pub SecondFits : ℕ → ℕ → List Node → List Diagram → List meaning.Literal → Type 0
SecondFits n s t ms [] = Unit {0}
SecondFits n s t ms (p ∷ ls) = (line_reach s t (second_line n ms p ls)).fits ≡ true

-- "the table having room": for a line more, for the clause's diagram, for what the first try makes, and, where that one fails, for what the
-- second makes.
pub record HasRoom (n s : ℕ) (st : State) (ls : List meaning.Literal) (t : List Node) (k : ℕ) : Type 0 where
  pub few : st.lines < 1024
  pub made : place s st.nodes (meaning.clause n ls) ≡ placed t k
  pub first_fits : (line_reach s t (first_line n (with_entry st t k) ls)).fits ≡ true
  pub second_fits : (first_line n (with_entry st t k) ls).shown ≡ false → SecondFits n s t (live_members (with_entry st t k)) ls

-- The member of that place is live and is the diagram.
abbrev pub IsThere : State → Diagram → ℕ → Type 0
IsThere st g i = (is_live st i && same (diagram_in st (get_or st.members i 0)) g) ≡ true

-- "strikes the live member of lowest place that is the same diagram": its mark is 1.
pub record ClauseStruck (n : ℕ) (st : State) (ls : List meaning.Literal) (st' : State) : Type 0 where
  pub place : ℕ
  pub inside : place < length st.members
  pub there : IsThere st (meaning.clause n ls) place
  pub lowest : (m : ℕ) → m < place → IsThere st (meaning.clause n ls) m → ⊥
  pub is : with_marks st (set st.struck place 1) ≡ st'
