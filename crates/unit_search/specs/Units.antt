-- The units by which a round cofactors. No call open to others cites this file.
use Rattle.std.specs.Prelude.{◌≡◌, ◌⊎◌, Bool, false, List, ℕ, ◌≤◌, ◌<◌, length, get_or}
use Rattle.std.proofs.Math.Option.{none, some}
use Rattle.meaning.specs.Diagram.{Diagram, leaf}
use Rattle.meaning.specs.Operations.{is_unit}
use Rattle.meaning.specs.Rules.{has_unit, first_with_unit}
use Rattle.words.specs.declared.Literals.{Literals}
use Rattle.words.specs.Sets.{has}
use Rattle.touched.specs.Places.{behind, AllBut}
use Rattle.unit_search.specs.declared.FirstUnits.{FirstUnits}
use Rattle.unit_search.specs.declared.FirstUnits.TheVariants.{Of, Nothing}
use Rattle.unit_search.specs.declared.TopUnits.{TopUnits}
use Rattle.unit_search.specs.declared.TopUnits.TheVariants.{Told, UpTo}

-- The set is U of the member, of n variables, that a round takes: "the member of lowest place" whose U is not empty. (01, The rules)
pub record UnitsTaken (n : ℕ) (ms : List Diagram) (units : Literals) : Type 0 where
  pub member : Diagram
  pub is : first_with_unit n ms ≡ some member
  pub holds : (v : ℕ) (s : Bool) → 1 ≤ v → v ≤ n → has units v s ≡ is_unit n member v s

-- None of the first `place` members has a unit.
abbrev pub Unitless : List Diagram → ℕ → Type 0
Unitless ms place = (k : ℕ) → k < place → has_unit 64 64 (get_or ms k (leaf false)) ≡ false

abbrev pub AreFirst : ℕ → List Diagram → FirstUnits → Type 0
AreFirst n ms (Of units place) = UnitsTaken n ms units × (place ≤ length ms) × Unitless ms place
AreFirst n ms Nothing = first_with_unit n ms ≡ none

-- Of the first `asked` members those that stand at none of the places have no unit.
abbrev pub UnitsAsked : List Diagram → List ℕ → ℕ → Type 0
UnitsAsked ms places asked =
    (asked ≤ length ms) × AllBut (length ms) places (λ j. j < asked → has_unit 64 64 (get_or ms j (leaf false)) ≡ false)

-- The number `from` is behind the first k places, or not before `asked`.
abbrev pub Behind : List ℕ → ℕ → ℕ → ℕ → Type 0
Behind places asked k from = ((k ≤ length places) × (behind places k ≡ from)) ⊎ (asked ≤ from)

-- The place is the next after the first k of the places, or not before `asked`.
abbrev pub NextPlace : List ℕ → ℕ → ℕ → ℕ → Type 0
NextPlace places asked k place = ((k < length places) × (get_or places k 0 ≡ place)) ⊎ (asked ≤ place)

-- From `from` on, behind the first k places, up to the next place r each number is before `asked` and none of the places.
pub record Skips (places : List ℕ) (asked k from r : ℕ) : Type 0 where
  pub from_on : from ≤ r
  pub most : (n : ℕ) → from ≤ n → asked ≤ n → r ≤ n
  pub next : NextPlace places asked k r
  pub passed : (j : ℕ) → from ≤ j → j < r → (k ≤ length places) × (behind places k ≤ j) × (j < get_or places k asked) × (j < asked)

-- None of the members before the place has a unit, and it is the next to ask after the first k of the places.
pub record UnitlessTo (ms : List Diagram) (places : List ℕ) (asked place k : ℕ) : Type 0 where
  pub most : place ≤ length ms
  pub none : Unitless ms place
  pub next : NextPlace places asked k place
  pub fewer : k ≤ place

-- The first units as far as top nodes tell.
abbrev pub FirstAtTop : List Diagram → List ℕ → ℕ → TopUnits → Type 0
FirstAtTop ms places asked (Told units place) = UnitsTaken 64 ms units × (place ≤ length ms) × Unitless ms place
FirstAtTop ms places asked (UpTo place k) = UnitlessTo ms places asked place k
