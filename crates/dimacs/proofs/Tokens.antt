-- What a token says, by the number behind its minus or by the number that it is; what a literal's token is. Assumes nothing.
use mathlib.Core.Path.{◌≡◌, refl, sym, ◌∙◌}
use mathlib.Core.Bool.{Bool, true, false, not, cond}
use mathlib.Core.List.{List, [], ◌∷◌}
use Prim.Native.Nat.{ℕ, suc, ◌+◌, ◌≤◌, ◌<◌}
use native.Mathlib.Omega.{arith}
use native.Mathlib.Numerals.{add-one}
use lib.ListN.{length, get_or}
use lib.Seq.{slice, slice_empty, slice-cons}
use lib.Dec.{ltb, leb, eqb}
use borrow.Author.Tests.{lt-ltb, le-ltb, ne_eqb, leb-true, leb-false}
use Rattle.std.specs.Prelude.{Option, None, Some, Ok, Err}
use Rattle.dimacs.specs.declared.Literal as code_literal
use Rattle.dimacs.specs.Numbers.{Token, Closing, Literal, Wrong}
use Rattle.dimacs.specs.Numbers.{is_zero, is_digits, is_natural, unsigned, has_minus, value_of_digits, token_of}
use Rattle.dimacs.specs.Inner.{capped, natural_of, signed_token, literal_at, token_read}
use Rattle.dimacs.proofs.Cases.{by}
use Rattle.dimacs.proofs.Digits.{capped-under, zero-value, digits_value}

-- A literal's value and sign, or 4.
abbrev literal_or4 : ℕ → Bool → ℕ → Token
literal_or4 n positive v = cond (leb v n) (Literal v positive) (Wrong 4)

-- Digits of value v, cut off.
signed-digits : (n v : ℕ) (positive : Bool) → n ≤ 1024 → 1 ≤ v → signed_token n positive (Some (capped v)) ≡ literal_or4 n positive v
signed-digits n v positive small some =
    by (leb v n)
    (λ t. let q : v ≤ n = leb-true v n t in rw (capped-under v (omega arith), t, ne_eqb v 0 (omega arith), le-ltb n v q))
    (λ f. let q : n < v = leb-false v n f in
    by (ltb 1024 v)
    (λ o. rw (f, o, lt-ltb n 1025 (omega arith)))
    (λ u. rw (f, u, ne_eqb v 0 (omega arith), lt-ltb n v q)))

natural-is : (ds : List ℕ) → is_digits ds ≡ true → natural_of ds ≡ Some (capped (value_of_digits ds))
unfolding is_natural
natural-is ds d = by (is_zero ds) (λ t. rw t) (λ f. rw (f, d))

natural-not : (ds : List ℕ) → is_zero ds ≡ false → is_digits ds ≡ false → natural_of ds ≡ None
unfolding is_natural
natural-not ds z d = rw (z, d)

natural-0 : (ds : List ℕ) → is_zero ds ≡ true → natural_of ds ≡ Some 0
unfolding is_natural
natural-0 ds z = rw (z, zero-value ds z)

minus-not-zero : (ds : List ℕ) → is_zero (45 ∷ ds) ≡ false
unfolding is_zero
minus-not-zero [] = refl
minus-not-zero (d ∷ ds) = refl

token-none : (n : ℕ) → token_of n [] ≡ Wrong 3
unfolding token_of
token-none n = refl

module _ (n : ℕ) (small : n ≤ 1024) where
  token-minus : (ds : List ℕ) → token_of n (45 ∷ ds) ≡ signed_token n false (natural_of ds)
  unfolding token_of
  token-minus ds =
      by (is_digits ds)
      (λ d. rw (minus-not-zero ds, d, natural-is ds d) (sym (signed-digits n (value_of_digits ds) false small (digits_value ds d))))
      (λ d. rw (minus-not-zero ds, d) (by (is_zero ds) (λ z. rw (natural-0 ds z)) (λ z. rw (natural-not ds z d))))

  token-plain : (b : ℕ) (bs : List ℕ) → eqb b 45 ≡ false → token_of n (b ∷ bs) ≡ signed_token n true (natural_of (b ∷ bs))
  unfolding token_of
  token-plain b bs e =
      by (is_zero (b ∷ bs))
      (λ z. rw (z, natural-0 (b ∷ bs) z))
      (λ z. by (is_digits (b ∷ bs))
      (λ d. rw (z, e, d, natural-is (b ∷ bs) d) (sym (signed-digits n (value_of_digits (b ∷ bs)) true small (digits_value (b ∷ bs) d))))
      (λ d. rw (z, e, d, natural-not (b ∷ bs) z d)))

-- The token from `from` to `to`.
module _ (n : ℕ) (s : List ℕ) (from to : ℕ) (small : n ≤ 1024) (inside : to ≤ length s) where
  pub token-empty : from ≡ to → token_of n (slice from to s) ≡ Wrong 3
  token-empty e = rw (e, slice_empty to s) (token-none n)

  pub token-signed : from < to → get_or s from 0 ≡ 45 → token_of n (slice from to s)
      ≡ signed_token n false (natural_of (slice (from + 1) to s))
  token-signed h e = rw (slice-cons from to s 0 h inside, e, add-one) (token-minus n small (slice (suc from) to s))

  pub token-unsigned : from < to → (get_or s from 0 ≡ 45 → ⊥) → token_of n (slice from to s)
      ≡ signed_token n true (natural_of (slice from to s))
  token-unsigned h e =
      rw (slice-cons from to s 0 h inside) (token-plain n small (get_or s from 0) (slice (suc from) to s) (ne_eqb (get_or s from 0) 45 e))

-- ---- what the code gives of a token, and what the token is then

pub closing-said : (t : Token) (o : Option code_literal.Literal) → Ok o ≡ token_read t → o ≡ None → t ≡ Closing
closing-said Closing o e f = refl
closing-said (Literal v b) o e f = cc
closing-said (Wrong k) o e f = cc

pub literal-said : (t : Token) (o : Option code_literal.Literal) (l : code_literal.Literal) → Ok o ≡ token_read t → o ≡ Some l
    → t ≡ Literal l.variable l.positive
literal-said Closing o l e f = cc
literal-said (Literal v b) o l e f = let q : l ≡ literal_at v b = cc in rw q
literal-said (Wrong k) o l e f = cc

pub wrong-said : (t : Token) (k : ℕ) → Err k ≡ token_read t → t ≡ Wrong k
wrong-said Closing k e = cc
wrong-said (Literal v b) k e = cc
wrong-said (Wrong j) k e = cc

-- A literal's token has bytes, and its variable is within the header.
pub record IsLiteral (n : ℕ) (bs : List ℕ) (v : ℕ) : Type 0 where
  pub some : 0 < length bs
  pub least : 1 ≤ v
  pub most : v ≤ n

closing-not : (v : ℕ) (b : Bool) {P : Type 0} → Closing ≡ Literal v b → P
closing-not v b e = let z : ◌≡◌ {A = ℕ} 0 1 = cc in absurd (omega arith)

wrong-not : (v k : ℕ) (b : Bool) {P : Type 0} → Wrong k ≡ Literal v b → P
wrong-not v k b e = let z : ◌≡◌ {A = ℕ} 0 1 = cc in absurd (omega arith)

pub literal-bounds : (n : ℕ) (bs : List ℕ) (v : ℕ) (b : Bool) → token_of n bs ≡ Literal v b → IsLiteral n bs v
unfolding token_of
literal-bounds n [] v b e = wrong-not v 3 b e
literal-bounds n (c ∷ bs) v b e =
    let u = unsigned (c ∷ bs) in
    by (is_zero (c ∷ bs)) (λ z. closing-not v b (sym (rw z) ∙ e))
    (λ z. by (is_digits u)
    (λ d. by (leb (value_of_digits u) n)
    (λ l. let q : Literal (value_of_digits u) (not (has_minus (c ∷ bs))) ≡ Literal v b = sym (rw (z, d, l)) ∙ e in
    let r : value_of_digits u ≡ v = cc in
    record { some = omega arith; least = omega (arith, digits_value u d); most = omega (arith, leb-true (value_of_digits u) n l) })
    (λ l. wrong-not v 4 b (sym (rw (z, d, l)) ∙ e)))
    (λ d. wrong-not v 3 b (sym (rw (z, d)) ∙ e)))
