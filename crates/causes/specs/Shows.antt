-- What is said of an explanation, as 02 words it: the piece lies in its text, and the cause is what it is called. No call open to others
-- cites this file: the theorems on what `why` shows do.
use Rattle.std.specs.Prelude.{◌≡◌, ◌⊎◌, Bool, true, false, cond, List, [], ◌∷◌, ◌++◌, ℕ, ◌+◌, ◌^◌, ◌≤◌, ◌<◌, length, get_or}
use Rattle.std.proofs.Math.Option.{none, some}
use Rattle.meaning.specs.Diagram.{Assignment, holds, Diagram, leaf, same, value}
use Rattle.meaning.specs.Operations as meaning
use Rattle.meaning.specs.Operations.{Literal, negation, cofactor_literals}
use Rattle.meaning.specs.Rules.{conflicts, first_with_unit, by_units, by_diagram, pr_turns}
use Rattle.meaning.specs.Words.{in_word}
use Rattle.table.specs.Nodes.{at, above}
use Rattle.records.specs.declared.NodeBody.{NodeBody}
use Rattle.records.specs.declared.EntryNo.{EntryNo}
use Rattle.records.specs.declared.Rule.TheVariants.{Rup, Pr, Path}
use Rattle.records.specs.declared.Record.TheVariants.{NodeEntry, ProofLine}
use Rattle.clausal.specs.Tries.{makes_true, makes_false, witness}
use Rattle.paths.specs.Paths.{paths, by_path, path_turns}
use Rattle.commands.specs.declared.Mode.{Mode}
use Rattle.commands.specs.Commands.{Command, recorded, added}
use Rattle.verdict.specs.Steps.{State, stop, spent, entry_node, diagram_in, live_members, is_live}
use Rattle.verdict.specs.Check.{step, Verdict, left, refused_formula}
use Rattle.verdict.specs.Taken.{Meant}
use Rattle.verdict.specs.Run.{command_in, Reached}
use Rattle.meaning.specs.Rules.{units_to}
use Rattle.causes.specs.Parts.{Part}
use Rattle.causes.specs.Causes.{Cause, variables, assignment, fixed, turn_members}
use Rattle.causes.specs.Explanation.{Ending, unread, ended}

-- ---- the end

-- The ending is where the verdict is given: the formula is refused, with one of its numbers; or a command ends the proof in the state
-- reached.
pub data EndsAt (mode : Mode) (s : ℕ) (text proof : List ℕ) : Verdict → Ending → Type 0 where
  formula-refused : {number place peak : ℕ} → (1 ≤ number) × (number ≤ 8) → place ≤ length text
      → EndsAt mode s text proof (refused_formula number place peak) unread
  proof-stopped : {n number offset at : ℕ} {st : State} {m : Meant}
      → Reached mode s text proof n st at m → step mode.consequence n s st (command_in mode proof n at) ≡ stop number offset
      → EndsAt mode s text proof (left number (at + offset) st.peak st) (ended n st at)
  proof-spent : {n number peak at : ℕ} {st : State} {m : Meant}
      → Reached mode s text proof n st at m → step mode.consequence n s st (command_in mode proof n at) ≡ spent number peak
      → EndsAt mode s text proof (left number at peak st) (ended n st at)

-- ---- the piece

-- The text that a part is of.
abbrev pub text_of : {A : Type 0} → Bool → A → A → A
text_of true formula proof = proof
text_of false formula proof = formula

-- A part of its text.
pub record Inside (text proof : List ℕ) (p : Part) : Type 0 where
  pub order : p.start ≤ p.end
  pub end : p.end ≤ length (text_of p.in_proof text proof)

-- ---- 14

-- The variable v is not before that of a child, w; the child is the low one if that one offends.
pub record Offends (st : State) (b : NodeBody) (v w : ℕ) : Type 0 where
  pub record-variable : b.variable ≡ v
  pub child : ℕ
  pub is-child : (child ≡ entry_node st b.low.0) ⊎ (child ≡ entry_node st b.high.0)
  pub no-constant : 2 ≤ child
  pub child-variable : (at st.nodes child).var ≡ w
  pub not-before : w ≤ v
  pub low_first : above st.nodes v (entry_node st b.low.0) ≡ false → child ≡ entry_node st b.low.0

-- ---- 18

-- An assignment "read with variable 1 as the top digit".
unfoldable pub digits : Assignment → ℕ
digits [] = 0
digits (b ∷ a) = cond b (2 ^ length a) 0 + digits a

-- It agrees with the witness that makes the variables P true and N false.
unfoldable pub Agrees : (ℕ → Bool) → (ℕ → Bool) → Assignment → Type 0
Agrees P N a = (v : ℕ) → 1 ≤ v → v ≤ length a
    → (P v ≡ true → holds a v ≡ true) × (P v ≡ false → N v ≡ true → holds a v ≡ false)

-- "the assignment, smallest [..], that agrees with the witness and makes the line false"
pub record Smallest (n : ℕ) (P N : ℕ → Bool) (g : Diagram) (a : Assignment) : Type 0 where
  pub long : length a ≡ n
  pub agrees : Agrees P N a
  pub false-there : value g a ≡ false
  pub least : (b : Assignment) → length b ≡ n → Agrees P N b → value g b ≡ false → digits a ≤ digits b

-- ---- 19

-- The rounds of a propagation that ends without a conflict, each with the literals of U of the member that it takes, by variable.
pub data Fixed (n : ℕ) : List Diagram → List (List Literal) → Type 0 where
  rests : {ms : List Diagram} → conflicts n ms ≡ false → first_with_unit n ms ≡ none → Fixed n ms []
  goes_on : {ms : List Diagram} {u : Diagram} {rounds : List (List Literal)} → conflicts n ms ≡ false → first_with_unit n ms ≡ some u
      → Fixed n (by_units n u ms) rounds → Fixed n ms (units_to n n u ∷ rounds)

-- "RUP: UnitProp of all members cofactored by not-g conflicts", but it does not.
abbrev pub RupFails : ℕ → State → Diagram → List (List Literal) → Type 0
RupFails n st g rounds = Fixed n (by_diagram n (negation n g) (live_members st)) rounds

abbrev pub member_in : State → ℕ → Diagram
member_in st i = diagram_in st (get_or st.members i 0)

-- A PR line fails at member i, "the lowest live member that was not shown": h is not 1, its propagation does not conflict, and every live
-- member before it is shown.
pub record PrFails (n : ℕ) (P N : ℕ → Bool) (st : State) (g : Diagram) (rounds : List (List Literal)) (i : ℕ) : Type 0 where
  pub inside : i < length st.members
  pub live : is_live st i ≡ true
  pub not-one : same (cofactor_literals n P N (member_in st i)) (leaf true) ≡ false
  pub fixes : Fixed n (turn_members n P N (by_diagram n (negation n g) (live_members st)) (member_in st i)) rounds
  pub lowest : (j : ℕ) → j < i → is_live st j ≡ true
      → (pr_turns n P N (by_diagram n (negation n g) (live_members st)) (member_in st j ∷ [])).shown ≡ true

-- Of the paths cs of a path line one fails: its propagation does not conflict, and every path before it is shown. (02, 12/14)
pub record PathFails (n : ℕ) (ms : List Diagram) (cs : List (List Literal)) (rounds : List (List Literal)) : Type 0 where
  pub before : List (List Literal)
  pub path : List Literal
  pub after : List (List Literal)
  pub parts : cs ≡ before ++ path ∷ after
  pub fixes : Fixed n (by_path n path ms) rounds
  pub shown : (path_turns n ms before).shown ≡ true

-- ---- the cause

-- What a cause says of the command that is refused with a number, in the state before it. Of a clause its last try.
pub data Caused (profile : Bool) (n : ℕ) (st : State) : Command → ℕ → Cause → Type 0 where
  not-before : {b : NodeBody} {more : Bool} {v w : ℕ} → Offends st b v w →
      Caused profile n st (recorded (NodeEntry b) more) 14 (variables v w)
  not-witnessed : {root : EntryNo} {more : Bool} {a : Assignment}
      → Smallest n (in_word st.positive) (in_word st.negative) (diagram_in st (entry_node st root.0)) a
      → Caused profile n st (recorded (ProofLine Pr root) more) 18 (assignment a)
  rup-fails : {root : EntryNo} {more : Bool} {rounds : List (List Literal)} → RupFails n st (diagram_in st (entry_node st root.0)) rounds
      → Caused profile n st (recorded (ProofLine Rup root) more) 19 (fixed rounds none)
  pr-fails : {root : EntryNo} {more : Bool} {rounds : List (List Literal)} {i : ℕ}
      → PrFails n (in_word st.positive) (in_word st.negative) st (diagram_in st (entry_node st root.0)) rounds i
      → Caused profile n st (recorded (ProofLine Pr root) more) 19 (fixed rounds (some i))
  path-fails : {root : EntryNo} {more : Bool} {rounds : List (List Literal)}
      → PathFails n (live_members st) (paths (diagram_in st (entry_node st root.0))) rounds
      → Caused profile n st (recorded (ProofLine Path root) more) 19 (fixed rounds none)
  first-try-fails : {ls : List Literal} {rounds : List (List Literal)} → (profile ≡ true) ⊎ (ls ≡ []) →
      RupFails n st (meaning.clause n ls) rounds
      → Caused profile n st (added ls) 19 (fixed rounds none)
  clause-fails : {p : Literal} {ls : List Literal} {rounds : List (List Literal)} {i : ℕ} → profile ≡ false
      → PrFails n (makes_true (witness p (p ∷ ls))) (makes_false (witness p (p ∷ ls))) st (meaning.clause n (p ∷ ls)) rounds i
      → Caused profile n st (added (p ∷ ls)) 19 (fixed rounds (some i))

-- The command that is refused, in the state reached, and what the cause says of it.
pub record TrueCause (mode : Mode) (s : ℕ) (text proof : List ℕ) (number : ℕ) (c : Cause) : Type 0 where
  pub n : ℕ
  pub state : State
  pub place : ℕ
  pub meant : Meant
  pub reached : Reached mode s text proof n state place meant
  pub caused : Caused mode.consequence n state (command_in mode proof n place) number c
