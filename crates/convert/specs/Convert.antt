-- DRAT text to binary DRAT and back. (02, 9/14)
use Rattle.std.specs.Prelude.{Bool, true, false, cond, List, [], ◌∷◌, ◌++◌, ℕ, zero, suc, ◌+◌, ◌-◌, ◌*◌, ◌/◌, ◌%◌, length, replicate, eqb}
use Rattle.std.specs.Prelude.{ltb, leb}
use Rattle.std.proofs.Math.Seq.{slice}
use Rattle.meaning.specs.Operations.{Literal}
use Rattle.dimacs.specs.Text.{past, token_end, between_from, between}
use Rattle.dimacs.specs.Numbers.{is_zero}
use Rattle.commands.specs.declared.Form.{Form}
use Rattle.commands.specs.declared.Form.TheVariants.{Text, Binary}
use Rattle.commands.specs.Commands.{Command, recorded, added, struck_out, wrong, finished, text_read, binary_read, start, command_at}
use Rattle.convert.specs.declared.Converted.{Converted}

-- ---- what is read

-- The clauses of a proof, each added (false) or struck out (true), up to the end or to a fault of form with its number and place.
pub record Lines : Type 0 where
  pub lines : List (Bool × List Literal)
  pub number : ℕ
  pub place : ℕ

abbrev pub ending : ℕ → ℕ → Lines
ending number place = record { lines = []; number = number; place = place }

abbrev pub line_then : Bool → List Literal → Lines → Lines
line_then strikes ls rest = record { lines = (strikes, ls) ∷ rest.lines; number = rest.number; place = rest.place }

abbrev pub lines_then : Command → ℕ → Lines → Lines
lines_then (added ls) at rest = line_then false ls rest
lines_then (struck_out ls) at rest = line_then true ls rest
lines_then (wrong number offset) at rest = ending number (at + offset)
lines_then finished at rest = ending 0 0
lines_then (recorded r more) at rest = ending 0 0

-- "one beyond 64 (in the check, the header) with 4": the clauses from a place on, read for 64 variables. A command that is followed by
-- another has at least one byte, so that one step more than there are bytes is enough.
unfoldable pub lines_from : ℕ → Form → List ℕ → ℕ → Lines
unfolding text_read binary_read
lines_from zero form s at = ending 0 0
lines_from (suc k) form s at =
    let r = command_at form s 64 at in
    let rest = lines_from k form s r.next in lines_then r.command at rest

abbrev pub lines_of : Form → List ℕ → Lines
lines_of form s = lines_from (suc (length s)) form s (start form s)

-- ---- binary

-- "v is 2 × v, −v is 2 × v + 1"
abbrev pub code_of : Literal → ℕ
code_of l = cond l.positive (2 * l.variable) (2 * l.variable + 1)

-- "in groups of seven bits, lowest first, the top bit set on all but the last": a variable is at most 64, so that there are one or two.
abbrev pub groups_of : ℕ → List ℕ
groups_of u = cond (ltb u 128) (u ∷ []) ((128 + u % 128) ∷ u / 128 ∷ [])

-- "a zero byte closes"
abbrev pub binary_literals : List Literal → List ℕ
binary_literals [] = 0 ∷ []
binary_literals (l ∷ ls) = groups_of (code_of l) ++ binary_literals ls

-- "Bytes `61` and `64` open an added and a struck clause"
abbrev pub binary_line : Bool → List Literal → List ℕ
binary_line strikes ls = cond strikes 0x64 0x61 ∷ binary_literals ls

-- ---- text

-- The digits of a number below 100.
abbrev pub digits_of : ℕ → List ℕ
digits_of v = cond (ltb v 10) ((48 + v) ∷ []) ((48 + v / 10) ∷ (48 + v % 10) ∷ [])

abbrev pub token_text : Literal → List ℕ
token_text l = cond l.positive [] (45 ∷ []) ++ digits_of l.variable

-- Each literal with a space behind it; `0` and LF close.
abbrev pub text_literals : List Literal → List ℕ
text_literals [] = 48 ∷ 10 ∷ []
text_literals (l ∷ ls) = token_text l ++ 32 ∷ text_literals ls

abbrev pub text_line : Bool → List Literal → List ℕ
text_line strikes ls = cond strikes (100 ∷ 32 ∷ []) [] ++ text_literals ls

-- ---- the conversions

abbrev pub printed : (Bool → List Literal → List ℕ) → List (Bool × List Literal) → List ℕ
printed line [] = []
printed line (x ∷ xs) = line x.0 x.1 ++ printed line xs

-- "A conversion gives number, place (0 if not refused) and the result's length"; and what its output holds.
pub record Conversion : Type 0 where
  pub number : ℕ
  pub place : ℕ
  pub length : ℕ
  pub output : List ℕ

-- What the call answers, and its output.
abbrev pub conversion_of : List ℕ → Converted → Conversion
conversion_of out r = record { number = r.number; place = r.place; length = r.length; output = out }

-- "each refusal, 7 too, gives length 0 and zeroes the output"
abbrev pub refusing : ℕ → ℕ → ℕ → Conversion
refusing room number place = record { number = number; place = place; length = 0; output = replicate room 0 }

-- The bytes in the output, "which is zero past the result".
abbrev pub holding : ℕ → List ℕ → Conversion
holding room bytes = record { number = 0; place = 0; length = length bytes; output = bytes ++ replicate (room - length bytes) 0 }

-- "last, too small an output with 7"
abbrev pub settled : ℕ → ℕ → ℕ → List ℕ → Conversion
settled room number place bytes =
    cond (eqb number 0) (cond (leb (length bytes) room) (holding room bytes) (refusing room 7 0)) (refusing room number place)

abbrev pub converted_by : (Bool → List Literal → List ℕ) → ℕ → Lines → Conversion
converted_by line room r = settled room r.number r.place (printed line r.lines)

-- A text in binary, and binary as text, in an output of so many places.
unfoldable pub to_binary : ℕ → List ℕ → Conversion
unfolding lines_from
to_binary room s = converted_by binary_line room (lines_of Text s)

unfoldable pub to_text : ℕ → List ℕ → Conversion
unfolding lines_from
to_text room s = converted_by text_line room (lines_of Binary s)

-- ---- a text as it comes back

-- "the text with single spaces, one clause a line ended by LF, no comments": the text's own tokens, behind each a space, or LF where the
-- token is `0`.
unfoldable pub plain_from : ℕ → List ℕ → ℕ → List ℕ
unfolding past between_from is_zero
plain_from zero s at = []
plain_from (suc k) s at =
    let end = token_end s at in
    let token = slice at end s in
    let rest = plain_from k s (between s end) in
    let here = token ++ cond (is_zero token) 10 32 ∷ rest in cond (ltb at (length s)) here []

unfoldable pub plain : List ℕ → List ℕ
unfolding plain_from between_from
plain s = plain_from (length s) s (between s 0)
