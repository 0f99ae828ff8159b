-- The parts of a DIMACS text as trees, with what each prints: every printer puts its part's bytes before the bytes r. (01, The formula) No
-- call open to others cites this file.
use Rattle.std.specs.Prelude.{◌≢◌, Bool, true, false, List, [], ◌∷◌, ◌++◌, ℕ, ◌+◌, ◌*◌, ◌^◌, ◌≤◌, length}
use Rattle.meaning.specs.Operations as meaning

-- ---- blanks

-- "spaces or tabs"
pub data Space : Type 0 where
  space : Space
  tab : Space

abbrev pub space_byte : Space → ℕ
space_byte space = 32
space_byte tab = 9

-- "spaces, tabs or CR"
pub data Blank : Type 0 where
  spaced : Space → Blank
  carriage : Blank

abbrev pub blank_byte : Blank → ℕ
blank_byte (spaced x) = space_byte x
blank_byte carriage = 13

abbrev pub spaces : List Space → List ℕ → List ℕ
spaces [] r = r
spaces (x ∷ xs) r = space_byte x ∷ spaces xs r

abbrev pub blanks : List Blank → List ℕ → List ℕ
blanks [] r = r
blanks (b ∷ bs) r = blank_byte b ∷ blanks bs r

-- At least one: "parted by spaces or tabs".
pub record Spaces : Type 0 where
  pub first : Space
  pub more : List Space

abbrev pub spacing : Spaces → List ℕ → List ℕ
spacing x r = spaces (x.first ∷ x.more) r

-- ---- comment lines

-- The bytes of one line: none is LF.
abbrev pub InLine : List ℕ → Type 0
InLine [] = Unit {0}
InLine (b ∷ bs) = (b ≢ 10) × InLine bs

pub record Comment : Type 0 where
  pub bytes : List ℕ
  pub in_line : InLine bytes

-- "A line whose first byte is `c`", up to its end; its LF, if it has one, is the first byte of r.
abbrev pub comment : Comment → List ℕ → List ℕ
comment c r = 99 ∷ (c.bytes ++ r)

abbrev pub comments : List Comment → List ℕ → List ℕ
comments [] r = r
comments (c ∷ cs) r = comment c (10 ∷ comments cs r)

-- ---- what parts two tokens

-- "parted by space, tab, CR or LF"; a comment line is "skipped anywhere in the formula, also inside an open clause" (02, 1/14): it comes
-- behind an LF, where a line starts, and its own LF ends it.
pub data Piece : Type 0 where
  blank : Blank → Piece
  new_line : List Comment → Piece

abbrev pub piece : Piece → List ℕ → List ℕ
piece (blank b) r = blank_byte b ∷ r
piece (new_line cs) r = 10 ∷ comments cs r

abbrev pub gap : List Piece → List ℕ → List ℕ
gap [] r = r
gap (p ∷ ps) r = piece p (gap ps r)

-- At least one piece.
pub record Parting : Type 0 where
  pub first : Piece
  pub more : List Piece

abbrev pub parting : Parting → List ℕ → List ℕ
parting p r = gap (p.first ∷ p.more) r

-- ---- numbers

abbrev pub Digits : List ℕ → Type 0
Digits [] = Unit {0}
Digits (d ∷ ds) = (d ≤ 9) × Digits ds

abbrev pub digits : List ℕ → List ℕ → List ℕ
digits [] r = r
digits (d ∷ ds) r = (48 + d) ∷ digits ds r

-- Each digit counts ten times as much as the one behind it.
abbrev pub worth : List ℕ → ℕ
worth [] = 0
worth (d ∷ ds) = d * 10 ^ length ds + worth ds

-- "digits not starting with 0"
pub record Decimal : Type 0 where
  pub first : ℕ
  pub more : List ℕ
  pub least : 1 ≤ first
  pub most : first ≤ 9
  pub are_digits : Digits more

abbrev pub decimal_then : Decimal → List ℕ → List ℕ
decimal_then m r = digits (m.first ∷ m.more) r

abbrev pub decimal_value : Decimal → ℕ
decimal_value m = worth (m.first ∷ m.more)

-- "A number is `0`, or an optional minus and digits not starting with 0; header numbers have no minus."
pub data Number : Type 0 where
  nought : Number
  positive : Decimal → Number

abbrev pub number : Number → List ℕ → List ℕ
number nought r = 48 ∷ r
number (positive m) r = decimal_then m r

abbrev pub number_value : Number → ℕ
number_value nought = 0
number_value (positive m) = decimal_value m

-- A literal: the minus is for the negative one.
pub record Signed : Type 0 where
  pub is_positive : Bool
  pub magnitude : Decimal

abbrev pub sign : Bool → List ℕ → List ℕ
sign true r = r
sign false r = 45 ∷ r

abbrev pub signed : Signed → List ℕ → List ℕ
signed x r = sign x.is_positive (decimal_then x.magnitude r)

abbrev pub literal : Signed → meaning.Literal
literal x = record { variable = decimal_value x.magnitude; positive = x.is_positive }
