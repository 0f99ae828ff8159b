-- A file of at most 65,536 bytes that is read to its end is converted: 262,144 bytes are always room enough, so that the converter does not
-- report 7. The idea: a clause as text has at most four times the bytes that it has in binary, and in binary no more bytes than as text
-- with single spaces, which has at most one byte for each token more than the file. Assumes nothing.
use mathlib.Core.Path.{◌≡◌, ap, ◌∙◌}
use mathlib.Core.Bool.{Bool, true, false, cond}
use mathlib.Core.List.{List, [], ◌∷◌}
use Prim.Native.Nat.{ℕ, zero, suc, ◌+◌, ◌-◌, ◌*◌, ◌≤◌, ◌<◌}
use native.Mathlib.Omega.{arith}
use lib.ListN.{length, length-append}
use lib.Dec.{ltb}
use lib.Seq.{slice, length-slice}
use borrow.Author.Tests.{eq-eqb, le-leb, lt-ltb, le-ltb, ltb-true, ltb-false}
use Rattle.meaning.specs.Operations.{Literal}
use Rattle.dimacs.specs.Text.{is_token, token_end, between}
use Rattle.dimacs.specs.Numbers.{is_zero}
use Rattle.dimacs.proofs.Runs.{past-least, past-most}
use Rattle.dimacs.proofs.Between.{between-least, between-most}
use Rattle.commands.specs.declared.Form.TheVariants.{Text, Binary}
use Rattle.convert.specs.Convert.{Lines, lines_of, code_of, groups_of, binary_literals, binary_line, token_text, text_literals, text_line}
use Rattle.convert.specs.Convert.{printed}
use Rattle.convert.specs.Convert.{converted_by, to_binary, to_text, plain_from, plain}
use Rattle.convert.proofs.Canonical.{Bytes, binary-own}
use Rattle.convert.proofs.Plain.{text-own}
use Rattle.dimacs.proofs.Cases.{by}
use Rattle.drat_convert.specs.declared.Direction.{Direction}
use Rattle.drat_convert.specs.declared.Direction.TheVariants.{ToBinary, ToText}
use Rattle.drat_convert.specs.Converting.{form_read, conversion_to}

-- ---- a literal

token-most : (l : Literal) → length (token_text l) ≤ 3
token-most l =
    by l.positive
    (λ t. by (ltb l.variable 10) (λ u. rw (t, u) (let h : 1 ≤ 3 = omega arith in h)) (λ u. rw (t, u) (let h : 2 ≤ 3 = omega arith in h)))
    (λ t. by (ltb l.variable 10) (λ u. rw (t, u) (let h : 2 ≤ 3 = omega arith in h)) (λ u. rw (t, u) (let h : 3 ≤ 3 = omega arith in h)))

token-least : (l : Literal) → 1 ≤ length (token_text l)
token-least l =
    by l.positive
    (λ t. by (ltb l.variable 10) (λ u. rw (t, u) (let h : 1 ≤ 1 = omega arith in h)) (λ u. rw (t, u) (let h : 1 ≤ 2 = omega arith in h)))
    (λ t. by (ltb l.variable 10) (λ u. rw (t, u) (let h : 1 ≤ 2 = omega arith in h)) (λ u. rw (t, u) (let h : 1 ≤ 3 = omega arith in h)))

groups-least : (u : ℕ) → 1 ≤ length (groups_of u)
groups-least u = by (ltb u 128) (λ t. rw t (let h : 1 ≤ 1 = omega arith in h)) (λ f. rw f (let h : 1 ≤ 2 = omega arith in h))

groups-most : (u : ℕ) → length (groups_of u) ≤ 2
groups-most u = by (ltb u 128) (λ t. rw t (let h : 1 ≤ 2 = omega arith in h)) (λ f. rw f (let h : 2 ≤ 2 = omega arith in h))

-- ---- a clause

text-literals : (ls : List Literal) → length (text_literals ls) ≤ 4 * length (binary_literals ls)
text-literals [] = omega arith
text-literals (l ∷ ls) =
    omega (
      arith,
      length-append (token_text l) (32 ∷ text_literals ls),
      length-append (groups_of (code_of l)) (binary_literals ls),
      token-most l,
      groups-least (code_of l),
      text-literals ls,
    )

binary-literals : (ls : List Literal) → suc (length (binary_literals ls)) ≤ length (text_literals ls)
binary-literals [] = omega arith
binary-literals (l ∷ ls) =
    omega (
      arith,
      length-append (token_text l) (32 ∷ text_literals ls),
      length-append (groups_of (code_of l)) (binary_literals ls),
      token-least l,
      groups-most (code_of l),
      binary-literals ls,
    )

text-line : (b : Bool) (ls : List Literal) → length (text_line b ls) ≤ 4 * length (binary_line b ls)
text-line true ls = omega (arith, text-literals ls)
text-line false ls = omega (arith, text-literals ls)

binary-line : (b : Bool) (ls : List Literal) → length (binary_line b ls) ≤ length (text_line b ls)
binary-line true ls = omega (arith, binary-literals ls)
binary-line false ls = omega (arith, binary-literals ls)

-- ---- all clauses

text-printed : (xs : List (Bool × List Literal)) → length (printed text_line xs) ≤ 4 * length (printed binary_line xs)
text-printed [] = omega arith
text-printed (x ∷ xs) =
    omega (
      arith,
      length-append (text_line x.0 x.1) (printed text_line xs),
      length-append (binary_line x.0 x.1) (printed binary_line xs),
      text-line x.0 x.1,
      text-printed xs,
    )

binary-printed : (xs : List (Bool × List Literal)) → length (printed binary_line xs) ≤ length (printed text_line xs)
binary-printed [] = omega arith
binary-printed (x ∷ xs) =
    omega (
      arith,
      length-append (text_line x.0 x.1) (printed text_line xs),
      length-append (binary_line x.0 x.1) (printed binary_line xs),
      binary-line x.0 x.1,
      binary-printed xs,
    )

-- ---- a text with single spaces

plain-one : (s : List ℕ) (k at : ℕ) → at < length s
    → length (plain_from (suc k) s at) ≡ (token_end s at - at) + suc (length (plain_from k s (between s (token_end s at))))
unfolding plain_from
plain-one s k at h =
    let end : ℕ = token_end s at in
    rw (lt-ltb at (length s) h)
    (length-append (slice at end s) (cond (is_zero (slice at end s)) 10 32 ∷ plain_from k s (between s end))
    ∙ ap (λ (n : ℕ). n + suc (length (plain_from k s (between s end)))) (length-slice at end s (past-most is_token s at (omega arith))))

plain-none : (s : List ℕ) (k at : ℕ) → length s ≤ at → length (plain_from (suc k) s at) ≡ 0
unfolding plain_from
plain-none s k at h = rw (le-ltb at (length s) h)

plain-from : (s : List ℕ) (k at : ℕ) → at ≤ length s → length (plain_from k s at) ≤ k + (length s - at)
unfolding plain_from
plain-from s zero at h = omega arith
plain-from s (suc k) at h =
    by (ltb at (length s))
    (λ t.
    let lt : at < length s = ltb-true at (length s) t in
    let end : token_end s at ≤ length s = past-most is_token s at h in
    omega (
      arith,
      plain-one s k at lt,
      past-least is_token s at,
      end,
      between-least s (token_end s at),
      between-most s (token_end s at) end,
      plain-from s k (between s (token_end s at)) (between-most s (token_end s at) end),
    ))
    (λ f. let none : length (plain_from (suc k) s at) ≡ 0 = plain-none s k at (ltb-false at (length s) f) in omega (arith, none))

plain-short : (s : List ℕ) → length (plain s) ≤ 2 * length s
unfolding plain
plain-short s =
    let from : length (plain_from (length s) s (between s 0)) ≤ length s + (length s - between s 0) =
    plain-from s (length s) (between s 0) (between-most s 0 (omega arith)) in
    omega (arith, from)

-- ---- the conversions

fits : (line : Bool → List Literal → List ℕ) (r : Lines) → r.number ≡ 0 → length (printed line r.lines) ≤ 262144
    → (converted_by line 262144 r).number ≡ 0
fits line r z h = rw (eq-eqb r.number 0 z, le-leb (length (printed line r.lines)) 262144 h)

to-text-fits : (s : List ℕ) → Bytes s → length s ≤ 65536 → (lines_of Binary s).number ≡ 0 → (to_text 262144 s).number ≡ 0
unfolding to_text
to-text-fits s B h z =
    let bytes : length (printed binary_line (lines_of Binary s).lines) ≡ length s = ap {A = List ℕ} length (binary-own s B z).0 in
    fits text_line (lines_of Binary s) z (omega (arith, bytes, h, text-printed (lines_of Binary s).lines))

to-binary-fits : (s : List ℕ) → length s ≤ 65536 → (lines_of Text s).number ≡ 0 → (to_binary 262144 s).number ≡ 0
unfolding to_binary
to-binary-fits s h z =
    let bytes : length (printed text_line (lines_of Text s).lines) ≡ length (plain s) = ap {A = List ℕ} length (text-own s z).0 in
    fits binary_line (lines_of Text s) z (omega (arith, bytes, h, binary-printed (lines_of Text s).lines, plain-short s))

-- THEOREM: what is read to its end is converted, in either direction.
pub enough-room : (d : Direction) (s : List ℕ) → Bytes s → length s ≤ 65536 → (lines_of (form_read d) s).number ≡ 0 →
    (conversion_to d s).number ≡ 0
enough-room ToBinary s B h z = to-binary-fits s h z
enough-room ToText s B h z = to-text-fits s B h z
