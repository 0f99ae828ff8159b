-- What judging a line asks, leaves and says. No call open to others cites this file.
use Rattle.std.specs.Prelude.{◌≡◌, Bool, false, not, List, ℕ, ◌≤◌, ◌<◌, length}
use Rattle.meaning.specs.Diagram.{Diagram}
use Rattle.meaning.specs.Operations.{negation}
use Rattle.meaning.specs.Rules.{Line, by_diagram, base}
use Rattle.table.specs.Nodes.{diagram_at}
use Rattle.table.specs.Indexed.{Table, size, nodes_of}
use Rattle.table.specs.Making.{placed_all, reach, line_reach}
use Rattle.supports.specs.Supports.{Support, Supports}
use Rattle.walks.specs.Readable.{ListReady}
use Rattle.table.specs.Lists.{room, diagrams_of, Inside, Extended}
use Rattle.judge.specs.declared.Judged.{Judged}

-- Members that are propagated after a cofactor by the negation of node g: g is not 1, so that its negation is not 0.
pub record Negatable (t : Table) (members memo : List ℕ) (g : ℕ) : Type 0 where
  pub ready : ListReady t members memo
  pub inside : g < t.count
  pub not-one : g ≡ 1 → ⊥

-- The words have the listed nodes' variables, one word each, and `word` has those of node g.
pub record Worded (t : Table) (list words : List ℕ) (g word : ℕ) : Type 0 where
  pub lengths : length words ≡ length list
  pub have : Supports (nodes_of t) list words
  pub has : Support word (diagram_at (nodes_of t) g)

-- The negation of g and then the members by it were placed, up to the one that found no room; the table is then t', and where all
-- found room the list has the members by not-g.
pub record ByNegation (t : Table) (ms : List Diagram) (g : Diagram) (full : Bool) (t' : Table) (list : List ℕ) : Type 0 where
  pub extended : Extended t t'
  pub places : placed_all (size t) (nodes_of t) (base 64 ms g) ≡ room full (nodes_of t')
  pub inside : full ≡ false → Inside t'.count list
  pub are : full ≡ false → diagrams_of (nodes_of t') list ≡ by_diagram 64 (negation 64 g) ms

-- The line over the table t: `full` exactly where what it makes finds no room, and the greatest count reached; where all finds room
-- whether it is shown, and its rounds, at most so many; the table is then t'.
pub record LineSays (t : Table) (line : Line) (bound : ℕ) (r : Judged) (t' : Table) : Type 0 where
  pub extended : Extended t t'
  pub reaches : line_reach (size t) (nodes_of t) line ≡ reach (not r.full) r.peak
  pub shown : r.full ≡ false → r.shown ≡ line.shown
  pub rounds : r.full ≡ false → r.rounds ≡ line.rounds
  pub most : r.rounds ≤ bound
