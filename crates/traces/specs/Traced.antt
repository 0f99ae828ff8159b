-- What a propagation traced says: the literals of each round as two words. No call open to others cites this file.
use Rattle.std.specs.Prelude.{◌≡◌, false, List, ℕ, length}
use Rattle.meaning.specs.Diagram.{Diagram}
use Rattle.meaning.specs.Rules.{unit_prop}
use Rattle.table.specs.Indexed.{Table, size, nodes_of}
use Rattle.table.specs.Making.{placed_all}
use Rattle.table.specs.Lists.{Extended, room}
use Rattle.causes.specs.Causes.{fixes}
use Rattle.causes.specs.Answers.{fixed_as}
use Rattle.traces.specs.declared.Traced.{Traced}

-- The propagation of the diagrams over the table t: `full` exactly where what it makes finds no room, else the words of its rounds.
pub record TraceSays (t : Table) (ms : List Diagram) (r : Traced) (t' : Table) (words : List ℕ) : Type 0 where
  pub extended : Extended t t'
  pub places : placed_all (size t) (nodes_of t) (unit_prop 64 ms).made ≡ room r.full (nodes_of t')
  pub rounds : r.full ≡ false → r.rounds ≡ length (fixes 64 ms)
  pub fixed : r.full ≡ false → words ≡ fixed_as (length words) (fixes 64 ms)
