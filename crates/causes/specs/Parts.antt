-- The piece of the formula or of the proof that is shown for a refused check: it starts at the check's place, and its end is told by the
-- number and the bytes there. (02, 8/14)
use Rattle.std.specs.Prelude.{Bool, false, ◌&&◌, ◌||◌, cond, List, [], ◌∷◌, ℕ, ◌+◌, ◌-◌, length, drop, eqb, ltb, leb}
use Rattle.dimacs.specs.Text.{token_end, line_end, past, between, between_from}
use Rattle.dimacs.specs.Header.{is_word}
use Rattle.dimacs.specs.Clauses.{Next, closed, ended, refused, clause_from}
use Rattle.records.specs.declared.Record.{Record}
use Rattle.records.specs.Records.{record_at, length_of, number_of}
use Rattle.commands.specs.declared.Form.{Form}
use Rattle.commands.specs.declared.Form.TheVariants.{Records, Text, Binary}
use Rattle.commands.specs.declared.Mode.{Mode}
use Rattle.commands.specs.Commands.{Command, recorded, added, struck_out, wrong, finished, Groups, cut, groups, groups_in, binary_read}
use Rattle.verdict.specs.Check.{Verdict}

-- A part of the formula or of the proof: where it starts, and the place behind its last byte.
pub record Part : Type 0 where
  pub in_proof : Bool
  pub start : ℕ
  pub end : ℕ

-- The empty part of 7 and 30.
abbrev pub nothing : Part
nothing = record { in_proof = false; start = 0; end = 0 }

-- "the line, token [..] at the place", "empty at a file's end": of the formula 1 and 2 show a line, "without its LF", the others a token.
abbrev pub formula_end : ℕ → List ℕ → ℕ → ℕ
formula_end number s at = cond (leb number 2) (line_end s at) (token_end s at)

-- "record at the place, one byte for 9", "a cut record [..] to the end"; nothing where none is begun, which is at the end.
abbrev pub record_end : List ℕ → ℕ → Record → ℕ
record_end s at r = cond (eqb (number_of r) 0) (at + length_of r) (cond (eqb (number_of r) 9) (at + 1) (length s))

-- What is read of a clause ends behind its 0, or with the text.
abbrev pub closed_end : List ℕ → Next → ℕ
closed_end s (closed ls first next) = next
closed_end s ended = length s
closed_end s (refused number place) = length s

-- The end of the clause whose first byte, or whose `d`, is at a place. No header has more than 64 variables. 100 is `d`.
unfoldable pub clause_end : List ℕ → ℕ → ℕ
unfolding is_word clause_from between_from
clause_end s at =
    let body = between s (at + 1) in
    let struck = closed_end s (clause_from s 64 (length s - body) at body) in
    let added = closed_end s (clause_from s 64 (length s - at) at at) in
    cond (ltb at (length s)) (cond (is_word s at (100 ∷ [])) struck added) (length s)

-- The end of the groups at a place. 4 and 31 are of groups that are not cut.
abbrev pub groups_end : ℕ → Groups → ℕ
groups_end at cut = at
groups_end at (groups number many last) = at + many

-- The end of what is read as a clause; the proof's end where it is none.
abbrev pub read_end : List ℕ → Command → ℕ → ℕ
read_end s (recorded r more) next = length s
read_end s (added ls) next = next
read_end s (struck_out ls) next = next
read_end s (wrong number offset) next = length s
read_end s finished next = length s

-- The end of the piece of a binary DRAT proof: 4 and 31 show the literal's groups, 9 one byte, all else the clause from its opening byte.
unfoldable pub binary_end : ℕ → List ℕ → ℕ → ℕ
unfolding groups_in binary_read
binary_end number s at =
    let literal = groups_end at (groups_in (drop at s)) in
    let clause = binary_read s 64 at in
    let piece = cond (eqb number 4 || eqb number 31) literal (read_end s clause.command clause.next) in
    cond (eqb number 9 && ltb at (length s)) (at + 1) piece

-- The end of the piece that starts at a place of the proof. Records: "one byte for [..] 11". A text: 3 and 4 show the token; "a cut [..]
-- DRAT clause to the end, a closed DRAT clause to its 0".
abbrev pub proof_end : Form → ℕ → List ℕ → ℕ → ℕ
proof_end Records number s at = cond (eqb number 11) (at + 1) (record_end s at (record_at s at))
proof_end Text number s at = let clause = clause_end s at in cond (leb number 4) (token_end s at) clause
proof_end Binary number s at = binary_end number s at

-- The piece that is shown for what a check says.
unfoldable pub part_of : Mode → List ℕ → List ℕ → Verdict → Part
unfolding past clause_end record_at binary_end
part_of mode formula proof v =
    let in_formula = formula_end v.number formula v.place in
    let in_the_proof = proof_end mode.form v.number proof v.place in
    record { in_proof = v.in_proof; start = v.place; end = cond v.in_proof in_the_proof in_formula }
