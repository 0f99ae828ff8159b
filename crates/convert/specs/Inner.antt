-- What the code's functions answer in the code's own types, and the output while it is written. No call open to others cites this file.
use Rattle.std.specs.Prelude.{◌≡◌, Bool, true, false, cond, List, [], ◌∷◌, ◌++◌, ℕ, ◌+◌, ◌-◌, length, get_or, set, eqb, ltb}
use Rattle.meaning.specs.Operations.{Literal}
use Rattle.dimacs.specs.Text.{between_from, between}
use Rattle.dimacs.specs.Header.{is_word}
use Rattle.dimacs.specs.Clauses.{Next, closed, ended, refused, clause_from}
use Rattle.commands.specs.Commands.{binary_from}
use Rattle.std.specs.Prelude.{Result, Ok, Err}
use Rattle.dimacs.specs.declared.Refusal.{Refusal}
use Rattle.dimacs.specs.Inner.{refusal_at}
use Rattle.convert.specs.declared.Written.{Written}
use Rattle.convert.specs.Convert.{Lines, token_text, printed, Conversion, refusing}

abbrev pub literal_made : ℕ → Bool → Literal
literal_made v b = record { variable = v; positive = b }

-- A literal's token and a space.
abbrev pub spaced : Literal → List ℕ
spaced l = token_text l ++ 32 ∷ []

-- ---- the output

-- An output, and how many bytes were to be put into it: one more than its places where they were too many.
pub record Poured : Type 0 where
  pub output : List ℕ
  pub many : ℕ

abbrev pub poured : List ℕ → ℕ → Poured
poured output many = record { output = output; many = many }

abbrev pub put_byte : Poured → ℕ → Poured
put_byte w b =
    poured (set w.output w.many b) (cond (ltb w.many (length w.output)) (w.many + 1) (length w.output + 1))

unfoldable pub put_all : Poured → List ℕ → Poured
put_all w [] = w
put_all w (b ∷ bs) = put_all (put_byte w b) bs

-- How a conversion ends that is read to its end.
abbrev pub finished : Poured → Conversion
finished w =
    let done : Conversion = record { number = 0; place = 0; length = w.many; output = w.output } in
    cond (ltb (length w.output) w.many) (refusing (length w.output) 7 0) done

-- What is left to be converted, with the output so far.
abbrev pub left_over : (Bool → List Literal → List ℕ) → Poured → Lines → Conversion
left_over line w r = cond (eqb r.number 0) (finished (put_all w (printed line r.lines)))
    (refusing (length w.output) r.number r.place)

-- ---- a clause

abbrev pub written_to : ℕ → ℕ → Written
written_to next many = record { next = next; many = many }

-- What is left after a clause, by what its reader says of it: the bytes that it prints, or its refusal.
abbrev pub ClauseWritten : (List Literal → List ℕ) → Poured → List ℕ → Next → Result Written Refusal → Type 0
ClauseWritten prints w out (closed ls first next) r = (many : ℕ) × (r ≡ Ok (written_to next many))
    × (poured out many ≡ put_all w (prints ls))
ClauseWritten prints w out (refused number place) r = (r ≡ Err (refusal_at number place)) × (length out ≡ length w.output)
ClauseWritten prints w out ended r = ⊥

-- A clause that stands next: struck out or added, and what its reader says of it.
pub record Opened : Type 0 where
  pub strikes : Bool
  pub body : Next

abbrev pub opened : Bool → Next → Opened
opened strikes body = record { strikes = strikes; body = body }

abbrev pub LineWritten : (Bool → List Literal → List ℕ) → Poured → List ℕ → Opened → Result Written Refusal → Type 0
LineWritten line w out x r = ClauseWritten (line x.strikes) w out x.body r

unfoldable pub text_next : List ℕ → ℕ → Opened
unfolding is_word clause_from between_from
text_next s at =
    let body = between s (at + 1) in
    cond (is_word s at (100 ∷ [])) (opened true (clause_from s 64 (length s - body) at body))
    (opened false (clause_from s 64 (length s - at) at at))

unfoldable pub binary_next : List ℕ → ℕ → Opened
unfolding binary_from
binary_next s at =
    let kind = get_or s at 0 in
    let body = binary_from s 64 (length s - (at + 1)) at (at + 1) in
    cond (eqb kind 0x61) (opened false body) (cond (eqb kind 0x64) (opened true body) (opened false (refused 9 at)))
