-- What a line that is judged once more says. No call open to others cites this file.
use Rattle.std.specs.Prelude.{◌≡◌, false, List, ◌++◌, ℕ, length}
use Rattle.meaning.specs.Diagram.{Diagram}
use Rattle.meaning.specs.Operations.{negation}
use Rattle.meaning.specs.Rules.{by_diagram, base, unit_prop}
use Rattle.table.specs.Indexed.{Table, size, nodes_of}
use Rattle.table.specs.Making.{placed_all}
use Rattle.table.specs.Lists.{Extended, room}
use Rattle.causes.specs.Causes.{fixes}
use Rattle.traces.specs.declared.Traced.{Traced}
use Rattle.causes.specs.Answers.{fixed_as}

-- The members ms by not-g and their propagation, over the table t: `full` exactly where what they make finds no room, else the words of
-- the rounds.
pub record LineTraced (t : Table) (ms : List Diagram) (g : Diagram) (r : Traced) (t' : Table) (words : List ℕ) : Type 0 where
  pub extended : Extended t t'
  pub places : placed_all (size t) (nodes_of t) (base 64 ms g ++ (unit_prop 64 (by_diagram 64 (negation 64 g) ms)).made)
      ≡ room r.full (nodes_of t')
  pub rounds : r.full ≡ false → r.rounds ≡ length (fixes 64 (by_diagram 64 (negation 64 g) ms))
  pub fixed : r.full ≡ false → words ≡ fixed_as (length words) (fixes 64 (by_diagram 64 (negation 64 g) ms))
