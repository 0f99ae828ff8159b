-- What a propagation over a table leaves and says. No call open to others cites this file.
use Rattle.std.specs.Prelude.{◌≡◌, false, List, ℕ, ◌-◌, ◌≤◌, ◌<◌, length}
use Rattle.meaning.specs.Diagram.{Diagram}
use Rattle.meaning.specs.Rules.{conflicts, Propagation, still, propagate}
use Rattle.words.specs.declared.Literals as sets
use Rattle.table.specs.Indexed.{Table, size, nodes_of}
use Rattle.table.specs.Making.{placed_all}
use Rattle.operate.specs.declared.Operation.TheVariants.{Literals}
use Rattle.members.specs.Made.{results}
use Rattle.propagate.specs.declared.Propagated.{Propagated}
use Rattle.propagate.specs.declared.Next.{Next}
use Rattle.propagate.specs.declared.Next.TheVariants.{End, By}
use Rattle.unit_search.specs.Units.{UnitsTaken, Unitless}
use Rattle.table.specs.Lists.{Extended, room}

-- The listed nodes' cofactors by the literals.
abbrev pub unit_results : sets.Literals → Table → List ℕ → List Diagram
unit_results u t list = results (Literals u.positive u.negative) t list 1

-- The rounds that may still come after so many.
abbrev pub rounds_left : ℕ → ℕ
rounds_left rounds = 64 - rounds

-- After so many rounds there is no conflict, and a round is due by the units given, of the member at the place.
abbrev pub RoundDue : List Diagram → ℕ → sets.Literals → ℕ → Type 0
RoundDue ms rounds u place = (rounds < 64) × (conflicts 64 ms ≡ false) × UnitsTaken 64 ms u × (place ≤ length ms) × Unitless ms place

-- What comes after so many rounds: the end, with or without a conflict, or a round.
abbrev pub NextIs : List Diagram → ℕ → Next → Type 0
NextIs ms rounds (End conflict) = propagate (rounds_left rounds) 64 ms ≡ still conflict
NextIs ms rounds (By u place) = RoundDue ms rounds u place

-- The propagation p over the table t: `full` exactly where what it makes finds no room, else its conflict and its rounds.
pub record Said (t : Table) (p : Propagation) (r : Propagated) (t' : Table) : Type 0 where
  pub extended : Extended t t'
  pub places : placed_all (size t) (nodes_of t) p.made ≡ room r.full (nodes_of t')
  pub conflict : r.full ≡ false → r.conflict ≡ p.conflict
  pub rounds : r.full ≡ false → r.rounds ≡ p.rounds
  pub most : r.rounds ≤ 64
