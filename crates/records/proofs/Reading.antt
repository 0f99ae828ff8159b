-- One step of reading: which record stands at a place, by the place, the kind byte and the bytes left. The idea: dropping bytes and then
-- looking at the first is looking at the place. Assumes nothing.
use mathlib.Core.Path.{◌≡◌, refl}
use mathlib.Core.List.{List, [], ◌∷◌}
use Prim.Native.Nat.{ℕ, ◌+◌, ◌-◌, ◌*◌, ◌≤◌, ◌<◌}
use native.Mathlib.Omega.{arith}
use native.Mathlib.Numerals.{add-one}
use lib.ListN.{length, get_or, take, drop, drop_of_length-le, length-drop}
use lib.Seq.{drop-cons, get_or-drop, take_all}
use borrow.Author.Tests.{ne_eqb}
use Rattle.records.specs.declared.Record.TheVariants.{UnknownKind, NoRecord}
use Rattle.records.specs.Records.{low_byte_first, field, record_of, record_at}

-- ---- numbers

first_one : (l : List ℕ) → low_byte_first (take 1 l) ≡ get_or l 0 0
unfolding low_byte_first
first_one [] = refl
first_one (b ∷ bs) = omega arith

first_two : (l : List ℕ) → low_byte_first (take 2 l) ≡ get_or l 0 0 + 256 * get_or l 1 0
unfolding low_byte_first
first_two [] = refl
first_two (b ∷ []) = omega arith
first_two (b ∷ b' ∷ bs) = omega arith

-- eight bytes, two by two
pub field-eight : (body : List ℕ) → field 0 8 body
    ≡ field 0 2 body + 65536 * field 2 2 body + 4294967296 * field 4 2 body + 281474976710656 * field 6 2 body
unfolding low_byte_first
field-eight [] = omega arith
field-eight (a ∷ []) = omega arith
field-eight (a ∷ b ∷ []) = omega arith
field-eight (a ∷ b ∷ c ∷ []) = omega arith
field-eight (a ∷ b ∷ c ∷ d ∷ []) = omega arith
field-eight (a ∷ b ∷ c ∷ d ∷ e ∷ []) = omega arith
field-eight (a ∷ b ∷ c ∷ d ∷ e ∷ f ∷ []) = omega arith
field-eight (a ∷ b ∷ c ∷ d ∷ e ∷ f ∷ g ∷ []) = omega arith
field-eight (a ∷ b ∷ c ∷ d ∷ e ∷ f ∷ g ∷ h ∷ rest) = omega arith

pub field-one : (i : ℕ) (body : List ℕ) → field i 1 body ≡ get_or body i 0
field-one i body = let z : i + 0 ≡ i = omega arith in rw (first_one, get_or-drop, z)

pub field-two : (i : ℕ) (body : List ℕ) → field i 2 body ≡ get_or body i 0 + 256 * get_or body (i + 1) 0
field-two i body = let z : i + 0 ≡ i = omega arith in rw (first_two, get_or-drop i body 0 0, get_or-drop i body 1 0, z)

-- ---- places

module _ (proof : List ℕ) (at : ℕ) where
  pub record-none : length proof ≤ at → record_at proof at ≡ NoRecord
  unfolding record_at
  record-none h = rw (drop_of_length-le proof h)

  pub record-here : at < length proof → record_at proof at ≡ record_of (get_or proof at 0) (drop (at + 1) proof)
  unfolding record_at
  record-here h = rw (add-one, drop-cons proof at 0 h)

  -- the same, of the part of the bytes that starts behind the kind byte
  pub record-part : (kind : ℕ) → at < length proof → get_or proof at 0 ≡ kind
      → record_at proof at ≡ record_of kind (take (length proof - (at + 1)) (drop (at + 1) proof))
  record-part kind h e =
      let fits : length (drop (at + 1) proof) ≤ length proof - (at + 1) = simp length-drop (omega arith) in
      rw (record-here h, e, take_all (length proof - (at + 1)) (drop (at + 1) proof) fits)

-- ---- kinds

pub record-unknown : (kind : ℕ) (body : List ℕ) → (kind ≡ 0x4E → ⊥) → (kind ≡ 0x54 → ⊥) → (kind ≡ 0x46 → ⊥) → (kind ≡ 0x52 → ⊥) →
    (kind ≡ 0x50 → ⊥)
    → (kind ≡ 0x51 → ⊥) → (kind ≡ 0x44 → ⊥) → (kind ≡ 0x58 → ⊥) → (kind ≡ 0x4B → ⊥) → (kind ≡ 0x45 → ⊥) → record_of kind body ≡ UnknownKind
unfolding record_of
record-unknown kind body n t f r p q d x k e =
    rw (
      ne_eqb _ _ n,
      ne_eqb _ _ t,
      ne_eqb _ _ f,
      ne_eqb _ _ r,
      ne_eqb _ _ p,
      ne_eqb _ _ q,
      ne_eqb _ _ d,
      ne_eqb _ _ x,
      ne_eqb _ _ k,
      ne_eqb _ _ e,
    )
