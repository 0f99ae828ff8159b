-- The records of a proof: which one stands at a place of the bytes, its length, and the number of each case that is refused. (01,
-- The proof)
use Rattle.std.specs.Prelude.{Bool, true, false, cond, List, [], ◌∷◌, ℕ, ◌+◌, ◌*◌, length, take, drop, eqb, ltb}
use Rattle.records.specs.declared.EntryNo.{EntryNo}
use Rattle.records.specs.declared.MemberNo.{MemberNo}
use Rattle.records.specs.declared.Rule.{Rule}
use Rattle.records.specs.declared.Rule.TheVariants.{Rup, Pr, Path}
use Rattle.records.specs.declared.SetKind.{SetKind}
use Rattle.records.specs.declared.SetKind.TheVariants.{Parity, AtLeast}
use Rattle.records.specs.declared.Record.{Record}
use Rattle.records.specs.declared.Record.TheVariants.{NodeEntry, Witness, ProofLine, Strike, SetEntry, End}
use Rattle.records.specs.declared.Record.TheVariants.{CutShort, UnknownKind, NoRecord}

-- "numbers low byte first"
unfoldable pub low_byte_first : List ℕ → ℕ
low_byte_first [] = 0
low_byte_first (b ∷ bs) = b + 256 * low_byte_first bs

-- The number in the n bytes of a body from its byte i on.
abbrev pub field : ℕ → ℕ → List ℕ → ℕ
field i n body = low_byte_first (take n (drop i body))

-- The entry number at byte i of a body: "entry (2)", two bytes.
abbrev pub entry_in : List ℕ → ℕ → EntryNo
entry_in body i = record { 0 = field i 2 body }

-- The member number at byte i of a body, two bytes.
abbrev pub member_in : List ℕ → ℕ → MemberNo
member_in body i = record { 0 = field i 2 body }

-- "One kind byte, then a body of fixed length": a record with a body of n bytes, where they are there. "10: record cut short"
unfoldable pub whole : ℕ → List ℕ → Record → Record
whole n body r = cond (ltb (length body) n) CutShort r

-- "`4E` node: variable (1 byte), low entry (2), high entry (2)."
unfoldable pub node_in : List ℕ → Record
unfolding whole low_byte_first
node_in body = whole 5 body (NodeEntry (record { variable = field 0 1 body; low = entry_in body 1; high = entry_in body 3 }))

-- "`54`, `46`: variable (1). The witness sets it true, false."
unfoldable pub witness_in : Bool → List ℕ → Record
unfolding whole low_byte_first
witness_in value body = whole 1 body (Witness (field 0 1 body) value)

-- "`52` RUP line: root entry (2). `50` PR line: root entry (2)."; "Kind `51`, with a root entry of two bytes" (02, 12/14)
unfoldable pub line_in : Rule → List ℕ → Record
unfolding whole low_byte_first
line_in rule body = whole 2 body (ProofLine rule (entry_in body 0))

-- "A record of kind `44` with two bytes strikes out the member of that number." (02, 3/14)
unfoldable pub strike_in : List ℕ → Record
unfolding whole low_byte_first
strike_in body = whole 2 body (Strike (member_in body 0))

-- "Kind `58` has eight bytes of variable set (bit i−1 for variable i) and one byte, [..] kind `4B` has the set and one byte k." (02, 5/14)
unfoldable pub set_in : SetKind → List ℕ → Record
unfolding whole low_byte_first
set_in kind body = whole 9 body (SetEntry kind (record { set = field 0 8 body; byte = field 8 1 body }))

-- The record of a kind byte with the bytes behind it: "each record's kind (9) before all else", so also where no byte follows.
-- "`45` end, no body."
unfoldable pub record_of : ℕ → List ℕ → Record
unfolding node_in witness_in line_in strike_in set_in
record_of kind body =
    cond (eqb kind 0x4E) (node_in body)
    (cond (eqb kind 0x54) (witness_in true body)
    (cond (eqb kind 0x46) (witness_in false body)
    (cond (eqb kind 0x52) (line_in Rup body)
    (cond (eqb kind 0x50) (line_in Pr body)
    (cond (eqb kind 0x51) (line_in Path body)
    (cond (eqb kind 0x44) (strike_in body)
    (cond (eqb kind 0x58) (set_in Parity body)
    (cond (eqb kind 0x4B) (set_in AtLeast body)
    (cond (eqb kind 0x45) End UnknownKind)))))))))

-- The record at the front of the bytes; "10 with no record begun", where there are none.
unfoldable pub record_in : List ℕ → Record
unfolding record_of
record_in [] = NoRecord
record_in (kind ∷ body) = record_of kind body

-- The record whose first byte is at a place of the proof's bytes.
unfoldable pub record_at : List ℕ → ℕ → Record
unfolding record_in
record_at proof at = record_in (drop at proof)

-- The bytes of a record, the kind byte and its body. One that is refused as 9 or 10 ends the proof and has none.
abbrev pub length_of : Record → ℕ
length_of (NodeEntry n) = 6
length_of (Witness v value) = 2
length_of (ProofLine rule root) = 3
length_of (Strike k) = 3
length_of (SetEntry kind b) = 10
length_of End = 1
length_of CutShort = 0
length_of UnknownKind = 0
length_of NoRecord = 0

-- The number that the form of a record gives: "9: unknown kind", "10: record cut short, or no end record"; 0 where the form is right.
abbrev pub number_of : Record → ℕ
number_of (NodeEntry n) = 0
number_of (Witness v value) = 0
number_of (ProofLine rule root) = 0
number_of (Strike k) = 0
number_of (SetEntry kind b) = 0
number_of End = 0
number_of CutShort = 10
number_of UnknownKind = 9
number_of NoRecord = 10
