-- Tokens: a literal of the grammar is what the reader takes for that literal, and what the reader takes for a literal or a closing `0` is
-- the grammar's. The idea: the reader's tests, one after the other. Assumes nothing.
use mathlib.Core.Path.{◌≡◌, refl, ap, ap₂, sym, ◌∙◌}
use mathlib.Core.Bool.{Bool, true, false, not}
use mathlib.Core.List.{List, [], ◌∷◌, ◌++◌}
use Prim.Native.Nat.{ℕ, ◌+◌, ◌≤◌}
use native.Mathlib.Omega.{arith}
use lib.Dec.{eqb, leb}
use borrow.Author.Tests.{le-leb, leb-true, ne_eqb, eqb-true}
use Rattle.dimacs.specs.Text.{is_token}
use Rattle.dimacs.specs.Numbers.{Closing, Literal, Wrong, is_zero, is_digits, has_minus, unsigned, value_of_digits, token_of}
use Rattle.dimacs.proofs.Cases.{by, clash}
use Rattle.grammar.specs.Parts.{Decimal, decimal_then, decimal_value, Signed, sign, signed, literal}
use Rattle.grammar.proofs.Places.{All}
use Rattle.grammar.proofs.Numbers.{digits-then, digits-token, digits-worth, decimal-is, decimal-not, decimal-of, zero_of}

-- ---- printed

sign-then : (b : Bool) (xs r : List ℕ) → sign b (xs ++ r) ≡ sign b xs ++ r
sign-then true xs r = refl
sign-then false xs r = refl

pub signed-then : (x : Signed) (r : List ℕ) → signed x r ≡ signed x [] ++ r
signed-then x r =
    ap (sign x.is_positive) (digits-then (x.magnitude.first ∷ x.magnitude.more) r)
    ∙ sign-then x.is_positive (decimal_then x.magnitude []) r

sign-token : (b : Bool) (xs : List ℕ) → All is_token xs → All is_token (sign b xs)
sign-token true xs h = h
sign-token false xs h = (refl, h)

pub signed-token : (x : Signed) → All is_token (signed x [])
signed-token x = sign-token x.is_positive (decimal_then x.magnitude []) (digits-token (x.magnitude.first ∷ x.magnitude.more))

minus-not : (bs : List ℕ) → is_zero (45 ∷ bs) ≡ false
unfolding is_zero
minus-not [] = refl
minus-not (b ∷ bs) = refl

module _ (n : ℕ) (m : Decimal) (within : decimal_value m ≤ n) where
  plain_other : eqb (48 + m.first) 45 ≡ false
  plain_other = ne_eqb (48 + m.first) 45 (λ e. absurd (omega arith))

  fits : leb (value_of_digits (decimal_then m [])) n ≡ true
  fits = ap (λ (k : ℕ). leb k n) (digits-worth (m.first ∷ m.more)) ∙ le-leb (decimal_value m) n within

  plain-token : token_of n (decimal_then m []) ≡ Literal (decimal_value m) true
  unfolding token_of
  plain-token = rw (decimal-not m, plain_other, decimal-is m, fits, digits-worth (m.first ∷ m.more))

  minus-token : token_of n (45 ∷ decimal_then m []) ≡ Literal (decimal_value m) false
  unfolding token_of
  minus-token = rw (minus-not (decimal_then m []), decimal-is m, fits, digits-worth (m.first ∷ m.more))

  sign-says : (b : Bool) → token_of n (sign b (decimal_then m [])) ≡ Literal (decimal_value m) b
  sign-says true = plain-token
  sign-says false = minus-token

-- A literal within the header is read as that literal.
pub signed-says : (n : ℕ) (x : Signed) → (literal x).variable ≤ n → token_of n (signed x []) ≡ Literal (literal x).variable x.is_positive
signed-says n x h = sign-says n x.magnitude h x.is_positive

pub closing-says : (n : ℕ) → token_of n (48 ∷ []) ≡ Closing
unfolding token_of
closing-says n = refl

-- ---- read

pub closing-of : (n : ℕ) (bs : List ℕ) → token_of n bs ≡ Closing → bs ≡ 48 ∷ []
unfolding token_of
closing-of n bs e =
    let v = value_of_digits (unsigned bs) in
    by (is_zero bs) (λ z. zero_of bs z)
    (λ z. by (is_digits (unsigned bs))
    (λ d. by (leb v n)
    (λ l. let q : Literal v (not (has_minus bs)) ≡ Closing = sym (rw (z, d, l)) ∙ e in
    let c : ◌≡◌ {A = ℕ} 0 1 = cc in absurd (omega arith))
    (λ l. let q : Wrong 4 ≡ Closing = sym (rw (z, d, l)) ∙ e in let c : ◌≡◌ {A = ℕ} 0 1 = cc in absurd (omega arith)))
    (λ d. let q : Wrong 3 ≡ Closing = sym (rw (z, d)) ∙ e in let c : ◌≡◌ {A = ℕ} 0 1 = cc in absurd (omega arith)))

-- A token of the grammar that says the literal of v with sign b.
pub record IsSigned (n : ℕ) (bs : List ℕ) (v : ℕ) (b : Bool) : Type 0 where
  pub tree : Signed
  pub is : signed tree [] ≡ bs
  pub says : literal tree ≡ record { variable = v; positive = b }
  pub within : (literal tree).variable ≤ n

-- The token is a number with or without a minus.
abbrev Form : List ℕ → Type 0
Form bs = (x : Signed) × (signed x [] ≡ bs) × (value_of_digits (unsigned bs) ≡ (literal x).variable) × (not (has_minus bs) ≡ x.is_positive)

minus-form : (b : ℕ) (bs : List ℕ) (m : Decimal) → eqb b 45 ≡ true → decimal_then m [] ≡ bs → Form (b ∷ bs)
minus-form b bs m t e = (
  record { is_positive = false; magnitude = m },
  ap₂ (λ (x : ℕ) (xs : List ℕ). x ∷ xs) (sym (eqb-true b 45 t)) e,
  rw t (ap value_of_digits (sym e) ∙ digits-worth (m.first ∷ m.more)),
  rw t,
)

plain_form : (b : ℕ) (bs : List ℕ) (m : Decimal) → eqb b 45 ≡ false → decimal_then m [] ≡ b ∷ bs → Form (b ∷ bs)
plain_form b bs m f e =
    (record { is_positive = true; magnitude = m }, e, rw f (ap value_of_digits (sym e) ∙ digits-worth (m.first ∷ m.more)), rw f)

form_of : (bs : List ℕ) → is_digits (unsigned bs) ≡ true → Form bs
unfolding is_digits
form_of [] e = clash (sym e)
form_of (b ∷ bs) e =
    by (eqb b 45)
    (λ t. let m = decimal-of bs (sym (rw t) ∙ e) in minus-form b bs m.0 t m.1)
    (λ f. let m = decimal-of (b ∷ bs) (sym (rw f) ∙ e) in plain_form b bs m.0 f m.1)

pub literal-of : (n : ℕ) (bs : List ℕ) (v : ℕ) (b : Bool) → token_of n bs ≡ Literal v b → IsSigned n bs v b
unfolding token_of
literal-of n bs v b e =
    let w = value_of_digits (unsigned bs) in
    by (is_zero bs) (λ z. let q : Closing ≡ Literal v b = sym (rw z) ∙ e in let c : ◌≡◌ {A = ℕ} 0 1 = cc in absurd (omega arith))
    (λ z. by (is_digits (unsigned bs))
    (λ d. by (leb w n)
    (λ l. let q : Literal w (not (has_minus bs)) ≡ Literal v b = sym (rw (z, d, l)) ∙ e in
    let f = form_of bs d in
    let r : w ≡ v = cc in
    let t : not (has_minus bs) ≡ b = cc in
    record {
      tree = f.0;
      is = f.1;
      says = ap₂ (λ (x : ℕ) (y : Bool). record { variable = x; positive = y }) (sym f.2 ∙ r) (sym f.3 ∙ t);
      within = omega (arith, f.2, leb-true w n l);
    })
    (λ l. let q : Wrong 4 ≡ Literal v b = sym (rw (z, d, l)) ∙ e in let c : ◌≡◌ {A = ℕ} 0 1 = cc in absurd (omega arith)))
    (λ d. let q : Wrong 3 ≡ Literal v b = sym (rw (z, d)) ∙ e in let c : ◌≡◌ {A = ℕ} 0 1 = cc in absurd (omega arith)))
