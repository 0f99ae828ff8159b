-- The bytes of a part of one of two texts, and where they lie.
use Rattle.std.specs.Prelude.{Bool, ◌&&◌, cond, List, [], ℕ, ◌+◌, ◌-◌, length, take, drop, leb}
use Rattle.std.specs.Borrow.{Bor}
use Rattle.commands.specs.declared.Form.{Form}
use Rattle.causes.specs.Parts as causes
use Rattle.pieces.specs.declared.Part.{Part}

-- The end of the piece at the place of a number, in the formula or in the proof.
abbrev pub piece_end : Form → List ℕ → List ℕ → ℕ → Bool → ℕ → ℕ
piece_end form formula proof number in_proof at = cond in_proof (causes.proof_end form number proof at)
    (causes.formula_end number formula at)

-- A part of its text; anything else is empty.
abbrev pub is_part : Part → List ℕ → Bool
is_part p text = leb p.start p.end && leb p.end (length text)

abbrev pub bytes_of : Part → List ℕ → List ℕ
bytes_of p text = cond (is_part p text) (take (p.end - p.start) (drop p.start text)) []

-- Where the bytes from `from` on of a text lie: in the text's own memory, so far behind its first byte.
abbrev pub place_in : Bor (List ℕ) → ℕ → ℕ × ℕ
place_in text from = (text.ref_ptr.0, from + text.ref_ptr.1)
