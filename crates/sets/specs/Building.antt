-- What the builders ask and leave. No call open to others cites this file.
use Rattle.std.specs.Prelude.{◌≡◌, Bool, not, List, ℕ, ◌+◌, ◌-◌, ◌≤◌, ◌<◌, length, get_or}
use Rattle.meaning.specs.Diagram.{Diagram}
use Rattle.meaning.specs.Tallies.{parity_from, at_least_from}
use Rattle.meaning.specs.Words.{in_word}
use Rattle.table.specs.Nodes.{diagram_at, place}
use Rattle.table.specs.Indexed.{Table, size, nodes_of, Good, Outcome, written}
use Rattle.sets.specs.Variables.{nth}

-- The table with the diagram placed, `full` included.
abbrev pub placed_in : Table → Diagram → Outcome
placed_in T f = written (size T) (place (size T) (nodes_of T) f)

-- ---- parity

-- The parity diagram of the set's variables from v on.
abbrev pub remaining : ℕ → ℕ → Bool → Diagram
remaining set v odd = parity_from (in_word set) (65 - v) v odd

-- What a builder asks: `other`, where it is a node, is the other parity's diagram of the same variables.
pub record Buildable (T : Table) (set v : ℕ) (odd : Bool) (other : ℕ) : Type 0 where
  pub good : Good T
  pub least : 1 ≤ v
  pub most : v ≤ 65
  pub inside : other < T.count
  pub is : 2 ≤ other → diagram_at (nodes_of T) other ≡ remaining set v (not odd)

-- ---- at least

-- At least j of the set's last i variables.
abbrev pub last_of : ℕ → ℕ → ℕ → Diagram
last_of set i j = at_least_from (in_word set) (65 - nth set i) (nth set i) j

-- Before diagonal d: row j has at least j of the last d + j - 1 variables, for j up to k.
pub record Row (T : Table) (set d k : ℕ) (row : List ℕ) : Type 0 where
  pub good : Good T
  pub some : 1 ≤ k
  pub room : k < length row
  pub inside : (j : ℕ) → j ≤ k → get_or row j 0 < T.count
  pub is : (j : ℕ) → j ≤ k → diagram_at (nodes_of T) (get_or row j 0) ≡ last_of set (d + j - 1) j

-- The row at first: 1, then 0.
pub record FirstRow (k : ℕ) (row : List ℕ) : Type 0 where
  pub room : k < length row
  pub one : get_or row 0 0 ≡ 1
  pub zeros : (j : ℕ) → 1 ≤ j → get_or row j 0 ≡ 0
