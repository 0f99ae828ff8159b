-- Numbers of the formula as lists of bytes, and what a token says. (01, The formula)
use Rattle.std.specs.Prelude.{Bool, true, false, not, ◌&&◌, ◌||◌, cond, List, [], ◌∷◌, ℕ, ◌+◌, ◌-◌, ◌*◌, eqb, leb}

abbrev pub is_digit : ℕ → Bool
is_digit b = leb 48 b && leb b 57

unfoldable pub all_digits : List ℕ → Bool
all_digits [] = true
all_digits (b ∷ bs) = is_digit b && all_digits bs

-- `0`
unfoldable pub is_zero : List ℕ → Bool
is_zero [] = false
is_zero (b ∷ []) = eqb b 48
is_zero (b ∷ c ∷ bs) = false

-- "digits not starting with 0"
unfoldable pub is_digits : List ℕ → Bool
unfolding all_digits
is_digits [] = false
is_digits (b ∷ bs) = not (eqb b 48) && all_digits (b ∷ bs)

-- "A number is `0`, or an optional minus and digits not starting with 0; header numbers have no minus."
unfoldable pub is_natural : List ℕ → Bool
unfolding is_zero is_digits
is_natural bs = is_zero bs || is_digits bs

abbrev pub has_minus : List ℕ → Bool
has_minus [] = false
has_minus (b ∷ bs) = eqb b 45

abbrev pub unsigned : List ℕ → List ℕ
unsigned [] = []
unsigned (b ∷ bs) = cond (eqb b 45) bs (b ∷ bs)

unfoldable pub is_number : List ℕ → Bool
unfolding is_zero is_digits
is_number bs = is_zero bs || is_digits (unsigned bs)

-- The value of digits read after the value n.
unfoldable pub value_after : ℕ → List ℕ → ℕ
value_after n [] = n
value_after n (b ∷ bs) = value_after (n * 10 + (b - 48)) bs

abbrev pub value_of_digits : List ℕ → ℕ
value_of_digits bs = value_after 0 bs

-- What a token says: a closing 0; a literal's variable and sign; or the number of the token's fault.
pub data Token : Type 0 where
  Closing : Token
  Literal : (variable : ℕ) (positive : Bool) → Token
  Wrong : (number : ℕ) → Token

-- What a token says in a formula of n variables: a closing 0, a literal, or the number of its fault: 3 "not a number",
-- 4 "literal beyond the header".
unfoldable pub token_of : ℕ → List ℕ → Token
unfolding is_number value_after
token_of n bs =
    let v = value_of_digits (unsigned bs) in
    cond (is_zero bs) Closing (cond (is_number bs) (cond (leb v n) (Literal v (not (has_minus bs))) (Wrong 4)) (Wrong 3))
