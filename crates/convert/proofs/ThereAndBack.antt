-- There and back: binary to text and back gives the same bytes; text to binary and back gives the text's own tokens, parted by single
-- spaces, one clause a line ended by LF. The idea: what is printed is read back, and both forms are what their clauses print. Assumes
-- nothing.
use mathlib.Core.Path.{◌≡◌, refl, ap, ◌∙◌}
use mathlib.Core.Bool.{Bool, true, false, cond}
use mathlib.Core.List.{List}
use Prim.Native.Nat.{ℕ, ◌-◌, ◌≤◌}
use native.Mathlib.Omega.{arith}
use lib.ListN.{length, take, replicate}
use lib.Seq.{take-append_seam}
use lib.Dec.{eqb, leb}
use borrow.Author.Tests.{eqb-true, eqb-false, le-leb}
use Rattle.meaning.specs.Operations.{Literal}
use Rattle.commands.specs.declared.Form.TheVariants.{Text, Binary}
use Rattle.convert.specs.Convert.{Lines, lines_of, binary_line, text_line, printed, Conversion, refusing, holding, settled, converted_by}
use Rattle.convert.specs.Convert.{to_binary, to_text, plain}
use Rattle.convert.proofs.Left.{whole}
use Rattle.convert.proofs.BinaryTrip.{binary-trip}
use Rattle.convert.proofs.TextTrip.{text-trip}
use Rattle.convert.proofs.Canonical.{Bytes, binary-own}
use Rattle.convert.proofs.Plain.{text-own}

-- The bytes of a result: the output up to its length.
abbrev pub result_of : Conversion → List ℕ
result_of c = take c.length c.output

-- ---- a conversion that is not refused

module _ (line : Bool → List Literal → List ℕ) (room : ℕ) (r : Lines) where
  -- it read to the end, and holds what it prints
  pub converted-is : (converted_by line room r).number ≡ 0 → (r.number ≡ 0) × (result_of (converted_by line room r) ≡ printed line r.lines)
  converted-is z = go (eqb r.number 0) refl (leb (length (printed line r.lines)) room) z
    where
      chosen : Bool → Bool → Conversion
      chosen a b = cond a (cond b (holding room (printed line r.lines)) (refusing room 7 0)) (refusing room r.number r.place)

      go : (a : Bool) → eqb r.number 0 ≡ a → (b : Bool) → (chosen a b).number ≡ 0 → (r.number ≡ 0)
          × (result_of (chosen a b) ≡ printed line r.lines)
      go true e true z = (
        eqb-true r.number 0 e,
        take-append_seam (printed line r.lines)
            (replicate (room - length (printed line r.lines)) 0),
      )
      go true e false z = absurd (omega arith)
      go false e b z = absurd (eqb-false r.number 0 e z)

-- lines read to the end, with room for what they print
converted-holds : (line : Bool → List Literal → List ℕ) (room : ℕ) (r : Lines) (xs : List (Bool × List Literal)) (bytes : List ℕ) → r
    ≡ whole xs → printed line xs ≡ bytes → length bytes ≤ room
    → converted_by line room r ≡ holding room bytes
converted-holds line room r xs bytes is prints fits =
    ap (converted_by line room) is ∙ ap (settled room 0 0) prints ∙ ap (λ (b : Bool). cond b (holding room bytes) (refusing room 7 0))
    (le-leb (length bytes) room fits)

-- THEOREM: text to binary and back is the text's own tokens, behind each a space, or LF where it is `0`.
pub text-there-and-back : (room room' : ℕ) (s : List ℕ) → (to_binary room s).number ≡ 0 → length (plain s) ≤ room'
    → to_text room' (result_of (to_binary room s)) ≡ holding room' (plain s)
unfolding to_binary to_text
text-there-and-back room room' s z fits =
    let (read, is) = converted-is binary_line room (lines_of Text s) z in
    let (own, small) = text-own s read in
    converted-holds text_line room' (lines_of Binary (result_of (converted_by binary_line room (lines_of Text s)))) (lines_of Text s).lines
    (plain s)
    (ap (lines_of Binary) is ∙ binary-trip (lines_of Text s).lines small) own fits

-- THEOREM: binary to text and back gives the same bytes.
pub binary-there-and-back : (room room' : ℕ) (s : List ℕ) → Bytes s → (to_text room s).number ≡ 0 → length s ≤ room'
    → to_binary room' (result_of (to_text room s)) ≡ holding room' s
unfolding to_binary to_text
binary-there-and-back room room' s B z fits =
    let (read, is) = converted-is text_line room (lines_of Binary s) z in
    let (own, small) = binary-own s B read in
    converted-holds binary_line room' (lines_of Text (result_of (converted_by text_line room (lines_of Binary s))))
    (lines_of Binary s).lines s
    (ap (lines_of Text) is ∙ text-trip (lines_of Binary s).lines small) own fits
