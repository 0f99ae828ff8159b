-- Diagrams that are conjunctions of literals, and what a cofactor by a node is done by. No call open to others cites this file.
use Rattle.std.specs.Prelude.{◌≡◌, ◌⊎◌, Bool, true, false, not, cond, ◌&&◌, ◌||◌, List, ℕ, ◌≤◌, ◌<◌, eqb}
use Rattle.meaning.specs.Diagram.{Diagram, leaf, node}
use Rattle.meaning.specs.Reduced.{Reduced}
use Rattle.meaning.specs.Words.{in_word}
use Rattle.words.specs.declared.Literals as words
use Rattle.table.specs.Nodes.{Node, diagram_at}
use Rattle.operate.specs.declared.Operation.TheVariants.{Cofactor}
use Rattle.operate.specs.Operate.{result}
use Rattle.operate.specs.Inner.{Allowed}
use Rattle.supports.specs.Supports.{Support}
use Rattle.members.specs.Touching.{Touches}
use Rattle.judge.specs.declared.cube.Cofactoring.{Cofactoring}

abbrev pub is_zero : Diagram → Bool
is_zero (leaf b) = not b
is_zero (node v l h) = false

-- A conjunction of literals, as a clause's negation is: each node has 0 for a child, and the way past these ends at 1.
abbrev pub IsCube : Diagram → Type 0
IsCube (leaf b) = b ≡ true
IsCube (node v l h) = ((l ≡ leaf false) × IsCube h) ⊎ ((h ≡ leaf false) × IsCube l)

-- Whether w's literal of the sign s is one of a conjunction's.
abbrev pub literal_in : Bool → Diagram → ℕ → Bool
literal_in s (leaf b) w = false
literal_in s (node v l h) w = cond (is_zero l) ((s && eqb v w) || literal_in s h w) ((not s && eqb v w) || literal_in s l w)

-- The diagram is the conjunction of these literals.
pub record CubeOf (by : words.Literals) (D : Diagram) : Type 0 where
  pub cube : IsCube D
  pub positive : (w : ℕ) → 1 ≤ w → in_word by.positive w ≡ literal_in true D w
  pub negative : (w : ℕ) → 1 ≤ w → in_word by.negative w ≡ literal_in false D w

-- An operation and its second node that make of every diagram its cofactor by node n; `touching` has what it sets, `gained` the variables
-- that its results may have besides.
pub record ByNode (t : List Node) (count n : ℕ) (r : Cofactoring) : Type 0 where
  pub inside : r.g.0 < count
  pub allowed : Allowed r.op r.g.0
  pub touches : Touches r.op (diagram_at t r.g.0) r.touching
  pub gains : Support r.gained (diagram_at t r.g.0)
  pub same : (f : Diagram) → Reduced 1 65 f → result r.op f (diagram_at t r.g.0) ≡ result Cofactor f (diagram_at t n)
