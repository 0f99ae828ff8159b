-- Texts and literals as rows by `refl` write them. No call open to others cites this file.
use Rattle.std.specs.Prelude.{true, false, List, [] as []ᴸ, ◌∷◌ as ◌∷ᴸ◌, ℕ}
use Prim.Native.Char.{code}
use Prim.Native.String.{String, [], ◌∷◌}
use Rattle.meaning.specs.Operations.{Literal}

-- The bytes of a text of plain characters.
abbrev pub bytes : String → List ℕ
bytes [] = []ᴸ
bytes (c ∷ s) = code c ∷ᴸ bytes s

abbrev pub plus : ℕ → Literal
plus v = record { variable = v; positive = true }

abbrev pub minus : ℕ → Literal
minus v = record { variable = v; positive = false }
