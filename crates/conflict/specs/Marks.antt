-- Marks: a byte for each place of the table, 1 where the place is listed. No call open to others cites this file.
use Rattle.std.specs.Prelude.{Bool, false, ◌||◌, List, [], ◌∷◌, ℕ, ◌<◌, get_or, set, replicate, eqb}
use Rattle.table.specs.declared.Found.{Found}
use Rattle.table.specs.declared.Found.TheVariants.{At, Nothing}

-- Whether a number is listed.
unfoldable pub is_listed : List ℕ → ℕ → Bool
is_listed [] k = false
is_listed (j ∷ js) k = eqb j k || is_listed js k

-- No place is marked.
abbrev pub unmarked : ℕ → List ℕ
unmarked s = replicate s 0

-- The mark m at each listed place.
unfoldable pub set_all : ℕ → List ℕ → List ℕ → List ℕ
set_all m marks [] = marks
set_all m marks (k ∷ ks) = set_all m (set marks k m) ks

-- Whether a place was found and is marked.
abbrev pub marked_at : List ℕ → Found → Bool
marked_at marks (At k) = eqb (get_or marks k.0 0) 1
marked_at marks Nothing = false

-- A place that was found is below m.
abbrev pub FoundInside : ℕ → Found → Type 0
FoundInside m (At k) = k.0 < m
FoundInside m Nothing = Unit {0}
