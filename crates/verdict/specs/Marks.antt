-- The marks as the proof's bytes fix them. (02, 3/14) No call open to others cites this file: the theorems on what `check` leaves do.
use Rattle.std.specs.Prelude.{Bool, false, ◌||◌, cond, List, [], ◌∷◌, ◌++◌, ℕ, zero, suc, ◌+◌, length, eqb, ltb}
use Rattle.records.specs.declared.Record.{Record}
use Rattle.records.specs.declared.Record.TheVariants.{NodeEntry, Witness, ProofLine, Strike, SetEntry, End}
use Rattle.records.specs.declared.Record.TheVariants.{CutShort, UnknownKind, NoRecord}
use Rattle.records.specs.Records.{record_at, length_of}

-- "strikes out the member of that number": the number, where the record is a striking.
abbrev pub struck_by : Record → List ℕ
struck_by (Strike k) = k.0 ∷ []
struck_by (NodeEntry b) = []
struck_by (Witness v b) = []
struck_by (ProofLine rule root) = []
struck_by (SetEntry kind b) = []
struck_by End = []
struck_by CutShort = []
struck_by UnknownKind = []
struck_by NoRecord = []

-- The numbers in the strikings that begin before a place, of at most so many records from `at` on.
unfoldable pub strikings_from : ℕ → List ℕ → ℕ → ℕ → List ℕ
strikings_from zero proof at end = []
strikings_from (suc records) proof at end =
    let r = record_at proof at in
    let found = struck_by r ++ strikings_from records proof (at + length_of r) end in cond (ltb at end) found []

-- The same of the whole proof. There are no more records than bytes.
abbrev pub strikings_before : List ℕ → ℕ → List ℕ
strikings_before proof end = strikings_from (length proof) proof 0 end

unfoldable pub is_in : ℕ → List ℕ → Bool
is_in k [] = false
is_in k (j ∷ js) = eqb k j || is_in k js

-- "a mark [..], 1 once struck, else 0"
abbrev pub mark_of : List ℕ → ℕ → ℕ
mark_of strikings k = cond (is_in k strikings) 1 0
