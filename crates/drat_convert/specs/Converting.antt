-- What the converter writes for a file: a line, and behind it the result. (02, 9/14; files as in 01, The program and its line) No call open
-- to others cites this file.
use Rattle.std.specs.Prelude.{Bool, cond, List, [], ◌∷◌, ◌++◌, Option, Some, None, ℕ, take, bytes_eq}
use Rattle.commands.specs.declared.Form.{Form}
use Rattle.commands.specs.declared.Form.TheVariants.{Text, Binary}
use Rattle.convert.specs.Convert.{Conversion, to_binary, to_text}
use Rattle.report.specs.Files.{of_file}
use Rattle.report.specs.Line.{field_text}
use Rattle.drat_convert.specs.declared.Direction.{Direction}
use Rattle.drat_convert.specs.declared.Direction.TheVariants.{ToBinary, ToText}

-- ---- the direction

-- The bytes of `to-binary` and of `to-text`.
abbrev pub to_binary_word : List ℕ
to_binary_word = 116 ∷ 111 ∷ 45 ∷ 98 ∷ 105 ∷ 110 ∷ 97 ∷ 114 ∷ 121 ∷ []

abbrev pub to_text_word : List ℕ
to_text_word = 116 ∷ 111 ∷ 45 ∷ 116 ∷ 101 ∷ 120 ∷ 116 ∷ []

abbrev pub direction_named : List ℕ → Option Direction
direction_named word = cond (bytes_eq word to_binary_word) (Some ToBinary) (cond (bytes_eq word to_text_word) (Some ToText) None)

-- ---- what is written

-- "A conversion gives number, place (0 if not refused) and the result's length": separated by a space each, LF at the end.
abbrev pub conversion_line : ℕ → ℕ → ℕ → List ℕ
conversion_line number place length = field_text number 32 ++ (field_text place 32 ++ field_text length 10)

-- The form that is read.
abbrev pub form_read : Direction → Form
form_read ToBinary = Text
form_read ToText = Binary

-- The conversion, to binary or to text, with room for 262,144 bytes, four times a file's most.
abbrev pub conversion_to : Direction → List ℕ → Conversion
conversion_to ToBinary file = to_binary 262144 file
conversion_to ToText file = to_text 262144 file

-- A file as the check's: 25 where it cannot be read, 24 with place 65,536 where it has more than 65,536 bytes. Else the line and the
-- result.
unfoldable pub written_for : Direction → Bool → List ℕ → List ℕ
unfolding to_binary to_text
written_for direction is_read file =
    let c = conversion_to direction file in
    let all = conversion_line c.number c.place c.length ++ take c.length c.output in
    of_file (λ number place. conversion_line number place 0) is_read file all
