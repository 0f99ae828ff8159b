-- Whether a cofactor by literals is 1, and the memo of the walk that asks it. No call open to others cites this file.
use Rattle.std.specs.Prelude.{◌≡◌, Bool, true, cond, List, ℕ, ◌≤◌, ◌<◌, length, get_or}
use Rattle.meaning.specs.Diagram.{leaf, same}
use Rattle.meaning.specs.Operations.{cofactor_literals}
use Rattle.meaning.specs.Words.{in_word}
use Rattle.table.specs.Nodes.{Node, diagram_at}
use Rattle.walks.specs.declared.SidesUnder.{SidesUnder}

-- "asking whether a cofactor is 0 or 1": whether the cofactor of node k by the words' literals is 1. (01, The table)
unfoldable pub one_at : List Node → ℕ → ℕ → ℕ → Bool
unfolding same cofactor_literals
one_at t positive negative k = same (cofactor_literals 64 (in_word positive) (in_word negative) (diagram_at t k)) (leaf true)

abbrev pub sides : ℕ → ℕ → SidesUnder
sides l h = record { low = record { 0 = l }; high = record { 0 = h } }

-- The nodes that a node's cofactor is made from, given whether its variable is made true and whether false.
abbrev pub sides_by : Bool → Bool → ℕ → ℕ → SidesUnder
sides_by positive negative l h = cond positive (sides h h) (cond negative (sides l l) (sides l h))

-- The same of node k under the words' literals.
unfoldable pub sides_under : List ℕ → List ℕ → List ℕ → ℕ → ℕ → ℕ → SidesUnder
unfolding in_word
sides_under vs ls hs k positive negative =
    sides_by (in_word positive (get_or vs k 0)) (in_word negative (get_or vs k 0)) (get_or ls k 0) (get_or hs k 0)

-- The cofactor of every node that a cell of the memo names is known to be 1.
unfoldable pub OneMemo : List ℕ → List Node → ℕ → ℕ → Type 0
OneMemo memo t positive negative = (i : ℕ) → i < length t → 2 ≤ get_or memo i 0 → one_at t positive negative (get_or memo i 0) ≡ true
