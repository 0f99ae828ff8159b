-- The formula's bytes: which of them part lines and tokens, and runs of them. (01, The formula)
use Rattle.std.specs.Prelude.{Bool, not, ◌&&◌, ◌||◌, cond, List, [], ◌∷◌, ℕ, zero, suc, ◌+◌, ◌-◌, length, get_or, drop, eqb}

-- "spaces or tabs"
abbrev pub is_space : ℕ → Bool
is_space b = eqb b 32 || eqb b 9

-- "spaces, tabs or CR"
abbrev pub is_blank : ℕ → Bool
is_blank b = is_space b || eqb b 13

-- "literals parted by space, tab, CR or LF"
abbrev pub is_parting : ℕ → Bool
is_parting b = is_blank b || eqb b 10

-- The bytes of a token: all others.
abbrev pub is_token : ℕ → Bool
is_token b = not (is_parting b)

-- The bytes of a line: only LF ends one.
abbrev pub is_line : ℕ → Bool
is_line b = not (eqb b 10)

-- How many bytes stand before the first that p does not admit.
unfoldable pub run : (ℕ → Bool) → List ℕ → ℕ
run p [] = 0
run p (b ∷ bs) = let more = suc (run p bs) in cond (p b) more 0

-- The first place of s, from `at` on, whose byte p does not admit; the length where there is none.
unfoldable pub past : (ℕ → Bool) → List ℕ → ℕ → ℕ
unfolding run
past p s at = at + run p (drop at s)

-- The end of the token, and of the line, in which the place is.
abbrev pub token_end : List ℕ → ℕ → ℕ
token_end s at = past is_token s at

abbrev pub line_end : List ℕ → ℕ → ℕ
line_end s at = past is_line s at

-- "A line whose first byte is `c`" starts at the place: a line starts at the text's first byte, and behind each LF. (02, 1/14)
unfoldable pub is_comment : List ℕ → ℕ → Bool
is_comment s at = eqb (get_or s at 0) 99 && (eqb at 0 || eqb (get_or s (at - 1) 0) 10)

-- What lies between two tokens is passed: the place of the next token, or the length. A comment line is "skipped anywhere in the formula,
-- also inside an open clause"; at most k of them are left.
unfoldable pub between_from : List ℕ → ℕ → ℕ → ℕ
unfolding past is_comment
between_from s zero at = past is_parting s at
between_from s (suc k) at =
    let first = past is_parting s at in
    let later = between_from s k (line_end s first) in cond (is_comment s first) later first

abbrev pub between : List ℕ → ℕ → ℕ
between s at = between_from s (length s) at
