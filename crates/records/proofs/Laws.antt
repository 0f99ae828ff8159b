-- What a loop over the records wants: a record of right form takes at least one byte and lies within the bytes, so that the next place is
-- nearer to the end. The idea: each law is a predicate, shown for every kind at once. Assumes nothing.
use mathlib.Core.Path.{◌≡◌, refl, sym, subst}
use mathlib.Core.Bool.{Bool, true, false, cond}
use mathlib.Core.List.{List}
use Prim.Native.Nat.{ℕ, ◌+◌, ◌-◌, ◌≤◌, ◌<◌}
use native.Mathlib.Omega.{arith}
use lib.ListN.{length, get_or, drop, length-drop}
use lib.Dec.{eqb, ltb}
use borrow.Author.Tests.{ltb-true, ltb-false}
use Rattle.records.specs.declared.Rule.{Rule}
use Rattle.records.specs.declared.Rule.TheVariants.{Rup, Pr, Path}
use Rattle.records.specs.declared.SetKind.{SetKind}
use Rattle.records.specs.declared.SetKind.TheVariants.{Parity, AtLeast}
use Rattle.records.specs.declared.Record.{Record}
use Rattle.records.specs.declared.Record.TheVariants.{NodeEntry, Witness, ProofLine, Strike, SetEntry, End, CutShort, UnknownKind}
use Rattle.records.specs.declared.Record.TheVariants.{NoRecord}
use Rattle.records.specs.Records.{field, entry_in, member_in, whole, record_of, record_at, length_of, number_of}
use Rattle.records.proofs.Reading.{record-none, record-here}

-- ---- a predicate of every record

-- P of each record that a body can give, whatever the kind.
pub record Every (P : Record → Type 0) (body : List ℕ) : Type 0 where
  pub node : 5 ≤ length body → P (NodeEntry (record { variable = field 0 1 body; low = entry_in body 1; high = entry_in body 3 }))
  pub witness : (value : Bool) → 1 ≤ length body → P (Witness (field 0 1 body) value)
  pub line : (rule : Rule) → 2 ≤ length body → P (ProofLine rule (entry_in body 0))
  pub strike : 2 ≤ length body → P (Strike (member_in body 0))
  pub set : (kind : SetKind) → 9 ≤ length body → P (SetEntry kind (record { set = field 0 8 body; byte = field 8 1 body }))
  pub end : P End
  pub cut : P CutShort
  pub unknown : P UnknownKind

module _ (P : Record → Type 0) where
  either : (t : Bool) {r s : Record} → P r → P s → P (cond t r s)
  either true p q = p
  either false p q = q

  of-whole : (n : ℕ) (body : List ℕ) (r : Record) → P CutShort → (n ≤ length body → P r) → P (whole n body r)
  unfolding whole
  of-whole n body r cut there = go (ltb (length body) n) (ltb-false (length body) n)
    where
      go : (t : Bool) → (t ≡ false → n ≤ length body) → P (cond t CutShort r)
      go true h = cut
      go false h = there (h refl)

  of-kind : (kind : ℕ) (body : List ℕ) → Every P body → P (record_of kind body)
  unfolding record_of
  of-kind kind body e =
      either (eqb kind 0x4E) (of-whole 5 body _ e.cut e.node)
      (either (eqb kind 0x54) (of-whole 1 body _ e.cut (e.witness true))
      (either (eqb kind 0x46) (of-whole 1 body _ e.cut (e.witness false))
      (either (eqb kind 0x52) (of-whole 2 body _ e.cut (e.line Rup))
      (either (eqb kind 0x50) (of-whole 2 body _ e.cut (e.line Pr))
      (either (eqb kind 0x51) (of-whole 2 body _ e.cut (e.line Path))
      (either (eqb kind 0x44) (of-whole 2 body _ e.cut e.strike)
      (either (eqb kind 0x58) (of-whole 9 body _ e.cut (e.set Parity))
      (either (eqb kind 0x4B) (of-whole 9 body _ e.cut (e.set AtLeast))
      (either (eqb kind 0x45) e.end e.unknown)))))))))

  record-every : (proof : List ℕ) (at : ℕ) → P NoRecord → (at < length proof → Every P (drop (at + 1) proof)) → P (record_at proof at)
  record-every proof at none here = go (ltb at (length proof)) (ltb-true at (length proof)) (ltb-false at (length proof))
    where
      go : (t : Bool) → (t ≡ true → at < length proof) → (t ≡ false → length proof ≤ at) → P (record_at proof at)
      go true h l = subst P (sym (record-here proof at (h refl))) (of-kind (get_or proof at 0) (drop (at + 1) proof) (here (h refl)))
      go false h l = subst P (sym (record-none proof at (l refl))) none

-- ---- length and place

pub record-takes : (r : Record) → number_of r ≡ 0 → 1 ≤ length_of r
record-takes (NodeEntry n) h = omega arith
record-takes (Witness v value) h = omega arith
record-takes (ProofLine rule root) h = omega arith
record-takes (Strike k) h = omega arith
record-takes (SetEntry kind b) h = omega arith
record-takes End h = omega arith
record-takes CutShort h = omega arith
record-takes UnknownKind h = omega arith
record-takes NoRecord h = omega arith

pub record-within : (proof : List ℕ) (at : ℕ) {r : Record} → record_at proof at ≡ r → number_of r ≡ 0 → at + length_of r ≤ length proof
record-within proof at e =
    subst Within e
    (record-every Within proof at (λ h. omega arith) (λ lt.
    let left : length (drop (at + 1) proof) ≡ length proof - (at + 1) = length-drop (at + 1) proof in
    record {
      node = λ l h. omega arith;
      witness = λ value l h. omega arith;
      line = λ rule l h. omega arith;
      strike = λ l h. omega arith;
      set = λ kind l h. omega arith;
      end = λ h. omega arith;
      cut = λ h. omega arith;
      unknown = λ h. omega arith;
    }))
  where
    Within : Record → Type 0
    Within r = number_of r ≡ 0 → at + length_of r ≤ length proof
