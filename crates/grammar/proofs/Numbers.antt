-- Decimal numbers: what the reader takes for a number, and its value, are the grammar's, digit by digit in both directions. The idea:
-- reading digits behind the value m adds their worth to m times ten for each of them. Assumes nothing.
use mathlib.Core.Path.{◌≡◌, refl, ap, ap₂, sym, ◌∙◌}
use mathlib.Core.Bool.{true, false, not, ◌&&◌}
use mathlib.Core.List.{List, [], ◌∷◌, ◌++◌}
use Prim.Native.Nat.{ℕ, suc, ◌+◌, ◌-◌, ◌*◌, ◌^◌, ◌≤◌}
use native.Mathlib.Omega.{arith}
use native.Mathlib.Nat.{add-mul, mul_assoc, pow-succ'}
use lib.ListN.{length}
use lib.Dec.{eqb}
use borrow.Author.Tests.{le-leb, ne_eqb, eqb-true, eqb-false, not-true}
use Rattle.meaning.proofs.Booleans.{and_both}
use Rattle.dimacs.specs.Text.{is_token}
use Rattle.dimacs.specs.Numbers.{is_digit, all_digits, is_zero, is_digits, is_natural, value_after, value_of_digits}
use Rattle.dimacs.proofs.Cases.{by, clash}
use Rattle.dimacs.proofs.Digits.{digit-least, digit-most}
use Rattle.grammar.specs.Parts.{Digits, digits, worth, Decimal, decimal_then, Number, nought, positive, number, number_value}
use Rattle.grammar.proofs.Places.{All}

-- ---- printed

pub digits-then : (ds r : List ℕ) → digits ds r ≡ digits ds [] ++ r
digits-then [] r = refl
digits-then (d ∷ ds) r = ap (λ (x : List ℕ). (48 + d) ∷ x) (digits-then ds r)

pub number-then : (x : Number) (r : List ℕ) → number x r ≡ number x [] ++ r
number-then nought r = refl
number-then (positive m) r = digits-then (m.first ∷ m.more) r

-- Bytes above the blanks belong to tokens.
pub token-byte : (b : ℕ) → 33 ≤ b → is_token b ≡ true
token-byte b h = rw (
  ne_eqb b 32 (λ e. absurd (omega arith)),
  ne_eqb b 9 (λ e. absurd (omega arith)),
  ne_eqb b 13 (λ e. absurd (omega arith)),
  ne_eqb b 10 (λ e. absurd (omega arith)),
)

digit-byte : (d : ℕ) → d ≤ 9 → is_digit (48 + d) ≡ true
digit-byte d h = rw (le-leb 48 (48 + d) (omega arith), le-leb (48 + d) 57 (omega arith))

pub digits-token : (ds : List ℕ) → All is_token (digits ds [])
digits-token [] = tt
digits-token (d ∷ ds) = (token-byte (48 + d) (omega arith), digits-token ds)

pub number-token : (x : Number) → All is_token (number x [])
number-token nought = (refl, tt)
number-token (positive m) = digits-token (m.first ∷ m.more)

digits-all : (ds : List ℕ) → Digits ds → all_digits (digits ds []) ≡ true
unfolding all_digits
digits-all [] h = refl
digits-all (d ∷ ds) h = rw (digit-byte d h.0) (digits-all ds h.1)

-- ---- their value

ten-times : (m d p : ℕ) → (m * 10 + d) * p ≡ m * (10 * p) + d * p
ten-times m d p = add-mul (m * 10) d p ∙ ap (λ (k : ℕ). k + d * p) (mul_assoc m 10 p)

value-worth : (ds : List ℕ) (m : ℕ) → value_after m (digits ds []) ≡ m * 10 ^ length ds + worth ds
unfolding value_after
value-worth [] m = omega arith
value-worth (d ∷ ds) m =
    let same : (48 + d) - 48 ≡ d = omega arith in
    ap (λ (k : ℕ). value_after (m * 10 + k) (digits ds [])) same
    ∙ value-worth ds (m * 10 + d)
    ∙ (let t : (m * 10 + d) * 10 ^ length ds ≡ m * (10 * 10 ^ length ds) + d * 10 ^ length ds = ten-times m d (10 ^ length ds) in
    let u : m * 10 ^ suc (length ds) ≡ m * (10 * 10 ^ length ds) = ap (λ (k : ℕ). m * k) (pow-succ' 10 (length ds)) in omega arith)

-- The reader's value of digits is their worth.
pub digits-worth : (ds : List ℕ) → value_of_digits (digits ds []) ≡ worth ds
digits-worth ds = value-worth ds 0 ∙ omega arith

pub number-value : (x : Number) → value_of_digits (number x []) ≡ number_value x
unfolding value_after
number-value nought = refl
number-value (positive m) = digits-worth (m.first ∷ m.more)

-- ---- their form

module _ (m : Decimal) where
  not-nought : eqb (48 + m.first) 48 ≡ false
  not-nought = ne_eqb (48 + m.first) 48 (λ e. absurd (omega (arith, m.least)))

  pub decimal-is : is_digits (decimal_then m []) ≡ true
  unfolding is_digits all_digits
  decimal-is = rw (not-nought, digit-byte m.first m.most) (digits-all m.more m.are_digits)

  nought-not : (ds : List ℕ) → is_zero ((48 + m.first) ∷ digits ds []) ≡ false
  unfolding is_zero
  nought-not [] = not-nought
  nought-not (d ∷ ds) = refl

  pub decimal-not : is_zero (decimal_then m []) ≡ false
  decimal-not = nought-not m.more

-- A number of the grammar is one for the reader.
pub number_is : (x : Number) → is_natural (number x []) ≡ true
unfolding is_natural
number_is nought = refl
number_is (positive m) = rw (decimal-not m, decimal-is m)

-- ---- read: digits for the reader are those of the grammar

digits_of : (bs : List ℕ) → all_digits bs ≡ true → (ds : List ℕ) × Digits ds × (digits ds [] ≡ bs)
unfolding all_digits
digits_of [] e = ([], tt, refl)
digits_of (b ∷ bs) e =
    let h = and_both (is_digit b) (all_digits bs) e in
    let rest = digits_of bs h.1 in
    let same : 48 + (b - 48) ≡ b = omega (arith, digit-least b h.0) in
    ((b - 48) ∷ rest.0, (omega (arith, digit-most b h.0), rest.1), ap₂ (λ (x : ℕ) (xs : List ℕ). x ∷ xs) same rest.2)

pub decimal-of : (bs : List ℕ) → is_digits bs ≡ true → (m : Decimal) × (decimal_then m [] ≡ bs)
unfolding is_digits all_digits
decimal-of [] e = clash (sym e)
decimal-of (b ∷ bs) e =
    let h = and_both (not (eqb b 48)) (is_digit b && all_digits bs) e in
    let k = and_both (is_digit b) (all_digits bs) h.1 in
    let rest = digits_of bs k.1 in
    let other : b ≡ 48 → ⊥ = eqb-false b 48 (not-true (eqb b 48) h.0) in
    let same : 48 + (b - 48) ≡ b = omega (arith, digit-least b k.0) in (
      record {
        first = b - 48;
        more = rest.0;
        least = omega (arith, other, digit-least b k.0);
        most = omega (arith, digit-most b k.0);
        are_digits = rest.1;
      },
      ap₂ (λ (x : ℕ) (xs : List ℕ). x ∷ xs) same rest.2,
    )

pub zero_of : (bs : List ℕ) → is_zero bs ≡ true → bs ≡ 48 ∷ []
unfolding is_zero
zero_of [] e = clash (sym e)
zero_of (b ∷ []) e = ap (λ (x : ℕ). x ∷ []) (eqb-true b 48 e)
zero_of (b ∷ c ∷ bs) e = clash (sym e)

-- A number for the reader is one of the grammar.
pub number_of : (bs : List ℕ) → is_natural bs ≡ true → (x : Number) × (number x [] ≡ bs)
unfolding is_natural
number_of bs e =
    by (is_zero bs)
    (λ z. (nought, sym (zero_of bs z)))
    (λ z. let m = decimal-of bs (sym (rw z) ∙ e) in (positive m.0, m.1))
