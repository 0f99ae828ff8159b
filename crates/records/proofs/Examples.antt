-- The examples of 01 that are about the form of a record, by computation. Assumes nothing.
use mathlib.Core.Path.{◌≡◌, refl}
use mathlib.Core.Bool.{true, false}
use mathlib.Core.List.{List, [], ◌∷◌}
use Prim.Native.Nat.{ℕ}
use Rattle.records.specs.declared.EntryNo.{EntryNo}
use Rattle.records.specs.declared.Record.TheVariants.{NodeEntry, Witness, ProofLine, Strike, SetEntry, End, CutShort, NoRecord}
use Rattle.records.specs.declared.Rule.TheVariants.{Rup, Pr, Path}
use Rattle.records.specs.declared.SetKind.TheVariants.{Parity, AtLeast}
use Rattle.records.specs.Records.{record_at, number_of}

abbrev entry : ℕ → EntryNo
entry n = record { 0 = n }

-- "9: unknown kind: `00`", here as the last byte too
unknown : number_of (record_at (0x00 ∷ []) 0) ≡ 9
unfolding record_at
unknown = refl

-- "10: record cut short, or no end record: no bytes"
no_bytes : number_of (record_at [] 0) ≡ 10
unfolding record_at
no_bytes = refl

abbrev case_a : List ℕ
case_a = 0x4E ∷ 0x02 ∷ 0x00 ∷ 0x00 ∷ 0x01 ∷ 0x00 ∷ 0x52 ∷ 0x02 ∷ 0x00 ∷ 0x52 ∷ 0x00 ∷ 0x00 ∷ 0x45 ∷ []

-- case A, record by record
A-node : record_at case_a 0 ≡ NodeEntry (record { variable = 2; low = entry 0; high = entry 1 })
unfolding record_at
A-node = refl

A-line : record_at case_a 6 ≡ ProofLine Rup (entry 2)
unfolding record_at
A-line = refl

A-zero : record_at case_a 9 ≡ ProofLine Rup (entry 0)
unfolding record_at
A-zero = refl

A-end : record_at case_a 12 ≡ End
unfolding record_at
A-end = refl

A-past : record_at case_a 13 ≡ NoRecord
unfolding record_at
A-past = refl

abbrev case_d : List ℕ
case_d = 0x4E ∷ 0x01 ∷ 0x00 ∷ 0x00 ∷ 0x01 ∷ 0x00 ∷ 0x46 ∷ 0x01 ∷ 0x50 ∷ 0x02 ∷ 0x00 ∷ 0x45 ∷ []

D-witness : record_at case_d 6 ≡ Witness 1 false
unfolding record_at
D-witness = refl

D-line : record_at case_d 8 ≡ ProofLine Pr (entry 2)
unfolding record_at
D-line = refl

-- case E: "D with `54` for `46`"
E-witness : record_at (0x54 ∷ 0x01 ∷ []) 0 ≡ Witness 1 true
unfolding record_at
E-witness = refl

-- "numbers low byte first"
low-byte-first : record_at (0x52 ∷ 0x01 ∷ 0x10 ∷ []) 0 ≡ ProofLine Rup (entry 4097)
unfolding record_at
low-byte-first = refl

-- "Kind `51`, with a root entry of two bytes" (02, 12/14)
path-line : record_at (0x51 ∷ 0x02 ∷ 0x00 ∷ []) 0 ≡ ProofLine Path (entry 2)
unfolding record_at
path-line = refl

path-cut : record_at (0x51 ∷ 0x02 ∷ []) 0 ≡ CutShort
unfolding record_at
path-cut = refl

-- "kind `44` with two bytes strikes out the member of that number" (02, 3/14)
striking : record_at (0x44 ∷ 0x05 ∷ 0x01 ∷ []) 0 ≡ Strike (record { 0 = 261 })
unfolding record_at
striking = refl

-- "eight bytes of variable set (bit i−1 for variable i) and one byte": variables 1, 2, 9 and 64 (02, 5/14)
set-parity : record_at (0x58 ∷ 0x03 ∷ 0x01 ∷ 0 ∷ 0 ∷ 0 ∷ 0 ∷ 0 ∷ 0x80 ∷ 0x01 ∷ []) 0
    ≡ SetEntry Parity (record { set = 9223372036854776067; byte = 1 })
unfolding record_at
set-parity = refl

set-at-least : record_at (0x4B ∷ 0x03 ∷ 0x01 ∷ 0 ∷ 0 ∷ 0 ∷ 0 ∷ 0 ∷ 0x80 ∷ 0x07 ∷ []) 0
    ≡ SetEntry AtLeast (record { set = 9223372036854776067; byte = 7 })
unfolding record_at
set-at-least = refl

-- a byte too few of each length of body
cut-node : record_at (0x4E ∷ 0x02 ∷ 0x00 ∷ 0x00 ∷ 0x01 ∷ []) 0 ≡ CutShort
unfolding record_at
cut-node = refl

cut-witness : record_at (0x54 ∷ []) 0 ≡ CutShort
unfolding record_at
cut-witness = refl

cut_line : record_at (0x50 ∷ 0x02 ∷ []) 0 ≡ CutShort
unfolding record_at
cut_line = refl

cut-striking : record_at (0x44 ∷ 0x05 ∷ []) 0 ≡ CutShort
unfolding record_at
cut-striking = refl

cut-set : record_at (0x4B ∷ 0x03 ∷ 0x01 ∷ 0 ∷ 0 ∷ 0 ∷ 0 ∷ 0 ∷ 0x80 ∷ []) 0 ≡ CutShort
unfolding record_at
cut-set = refl
