-- What one look at a list tells. No call open to others cites this file.
use Rattle.std.specs.Prelude.{◌≡◌, true, false, List, ℕ, ◌≤◌, length, get_or}
use Rattle.meaning.specs.Diagram.{Diagram}
use Rattle.meaning.specs.Rules.{conflicts}
use Rattle.unit_search.specs.Units.{Unitless}
use Rattle.quiet.specs.declared.Looked.{Looked}

-- The lists have the same number at the place.
abbrev pub SameAt : List ℕ → List ℕ → ℕ → Type 0
SameAt known list j = get_or list j 0 ≡ get_or known j 0

-- Where the members are quiet, none is 0 or another's negation, and so many in front have no unit.
pub record LookSays (ms : List Diagram) (r : Looked) : Type 0 where
  pub none : r.quiet ≡ true → conflicts 64 ms ≡ false
  pub most : r.quiet ≡ true → r.unitless ≤ length ms
  pub unitless : r.quiet ≡ true → Unitless ms r.unitless
