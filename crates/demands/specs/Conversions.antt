-- Rows about conversions: number, place, length and every byte of the output. (02, 9/14) No call open to others cites this file.
use Rattle.std.specs.Prelude.{◌≡◌, List, [] as []ᴸ, ◌∷◌ as ◌∷ᴸ◌, ℕ}
use Prim.Native.String.{String}
use Rattle.dimacs.specs.Texts.{bytes}
use Rattle.convert.specs.Convert.{Conversion, to_binary, to_text}

-- A text in binary, and binary as text, in an output of so many places: what comes out.
pub data Row : Type 0 where
  binary_of : (room : ℕ) (text : String) (number place length : ℕ) (output : List ℕ) → Row
  text_of : (room : ℕ) (binary : List ℕ) (number place length : ℕ) (output : List ℕ) → Row

abbrev pub told : ℕ → ℕ → ℕ → List ℕ → Conversion
told number place length output = record { number = number; place = place; length = length; output = output }

abbrev pub Gives : Row → Type 0
Gives (binary_of room text number place length output) = to_binary room (bytes text) ≡ told number place length output
Gives (text_of room binary number place length output) = to_text room binary ≡ told number place length output

abbrev pub GivesAll : List Row → Type 0
GivesAll []ᴸ = Unit {0}
GivesAll (r ∷ᴸ rs) = Gives r × GivesAll rs
