-- What the converter writes, case by case: the file's refusal, or the conversion's line and result; and the result fits in its room.
-- Assumes nothing.
use mathlib.Core.Path.{◌≡◌, sym, ap, ◌∙◌, subst}
use mathlib.Core.Bool.{Bool, true, false}
use mathlib.Core.List.{List, [], ◌++◌, append-nil}
use Prim.Native.Nat.{ℕ, ◌≤◌, ◌<◌}
use native.Mathlib.Omega.{arith}
use lib.ListN.{length, take}
use lib.Dec.{eqb, leb}
use borrow.Author.Tests.{lt-ltb, le-ltb, leb-true}
use Rattle.convert.specs.declared.Converted.{Converted}
use Rattle.meaning.specs.Operations.{Literal}
use Rattle.commands.specs.declared.Form.TheVariants.{Text, Binary}
use Rattle.convert.specs.Convert.{Lines, lines_of, binary_line, text_line, printed, Conversion, conversion_of, settled, converted_by}
use Rattle.convert.specs.Convert.{to_binary}
use Rattle.convert.specs.Convert.{to_text}
use Rattle.dimacs.proofs.Cases.{by}
use Rattle.drat_convert.specs.declared.Direction.{Direction}
use Rattle.drat_convert.specs.declared.Direction.TheVariants.{ToBinary, ToText}
use Rattle.drat_convert.specs.Converting.{conversion_line, conversion_to, written_for}

-- ---- the file's refusal

pub unread : (d : Direction) (is_read : Bool) (file : List ℕ) → is_read ≡ false → conversion_line 25 0 0 ++ [] ≡ written_for d is_read file
unfolding written_for
unread d is_read file e = append-nil (conversion_line 25 0 0) ∙ rw e

pub too_long : (d : Direction) (is_read : Bool) (file : List ℕ) → is_read ≡ true → 65536 < length file
    → conversion_line 24 65536 0 ++ [] ≡ written_for d is_read file
unfolding written_for
too_long d is_read file e h = append-nil (conversion_line 24 65536 0) ∙ rw (e, lt-ltb 65536 (length file) h)

-- ---- the conversion

abbrev written_of : Conversion → List ℕ
written_of c = conversion_line c.number c.place c.length ++ take c.length c.output

within : (room number place : ℕ) (bytes : List ℕ) → (settled room number place bytes).length ≤ room
within room number place bytes =
    by (eqb number 0)
    (λ t.
    by (leb (length bytes) room)
    (λ u. let h : length bytes ≤ room = leb-true (length bytes) room u in rw (t, u) h)
    (λ u. rw (t, u) (let h : 0 ≤ room = omega arith in h)))
    (λ t. rw t (let h : 0 ≤ room = omega arith in h))

within-read : (line : Bool → List Literal → List ℕ) (r : Lines) → (converted_by line 262144 r).length ≤ 262144
within-read line r = within 262144 r.number r.place (printed line r.lines)

to-within : (d : Direction) (file : List ℕ) → (conversion_to d file).length ≤ 262144
unfolding to_binary to_text
to-within ToBinary file = within-read binary_line (lines_of Text file)
to-within ToText file = within-read text_line (lines_of Binary file)

module _ (d : Direction) (is_read : Bool) (file out : List ℕ) (k : Converted) (e : is_read ≡ true) (h : length file ≤ 65536) where
  taken : conversion_of out k ≡ conversion_to d file
      → (conversion_line k.number k.place k.length ++ take k.length out ≡ written_for d is_read file) × (k.length ≤ 262144)
  unfolding written_for
  taken is = (
    ap written_of is ∙ rw (e, le-ltb 65536 (length file) h),
    subst (λ (n : ℕ). n ≤ 262144) (sym (ap (λ (c : Conversion). c.length) is)) (to-within d file),
  )

  pub in-binary : d ≡ ToBinary → (room : ℕ) → room ≡ 262144 → conversion_of out k ≡ to_binary room file
      → (conversion_line k.number k.place k.length ++ take k.length out ≡ written_for d is_read file) × (k.length ≤ 262144)
  in-binary q room r is = taken (is ∙ ap (λ (n : ℕ). to_binary n file) r ∙ sym (ap (λ (x : Direction). conversion_to x file) q))

  pub in-text : d ≡ ToText → (room : ℕ) → room ≡ 262144 → conversion_of out k ≡ to_text room file
      → (conversion_line k.number k.place k.length ++ take k.length out ≡ written_for d is_read file) × (k.length ≤ 262144)
  in-text q room r is = taken (is ∙ ap (λ (n : ℕ). to_text n file) r ∙ sym (ap (λ (x : Direction). conversion_to x file) q))
