-- The header: the lines before it, its form, its limits. (01, The formula; numbers 1 and 2)
use Rattle.std.specs.Prelude.{Bool, true, ◌&&◌, ◌||◌, cond, List, [], ◌∷◌, ℕ, zero, suc, ◌+◌, length, get_or, eqb, leb, ltb}
use Rattle.std.proofs.Math.Seq.{slice}
use Rattle.dimacs.specs.Text.{is_space, is_blank, past, token_end, line_end}
use Rattle.dimacs.specs.Numbers.{is_natural, value_of_digits, value_after}

-- "Before the header: blank lines (spaces, tabs, CR at most) and lines beginning with `c`."
unfoldable pub is_passed : List ℕ → ℕ → Bool
unfolding past
is_passed s at = eqb (past is_blank s at) (line_end s at) || eqb (get_or s at 0) 99

-- The start of the first line from `at` on that is neither blank nor a comment; the length where there is none. At most k lines are left.
unfoldable pub judged_from : List ℕ → ℕ → ℕ → ℕ
unfolding is_passed
judged_from s zero at = length s
judged_from s (suc k) at =
    let later = judged_from s k (suc (line_end s at)) in cond (ltb at (length s)) (cond (is_passed s at) later at) (length s)

-- The word of a line after the one at `at`: "parted by spaces or tabs".
unfoldable pub next_word : List ℕ → ℕ → ℕ
unfolding past
next_word s at = past is_space s (token_end s at)

abbrev pub word : List ℕ → ℕ → List ℕ
word s at = slice at (token_end s at) s

-- The bytes at a place.
abbrev pub spells : List ℕ → ℕ → List ℕ → Bool
spells s at [] = true
spells s at (b ∷ bs) = eqb (get_or s at 0) b && spells s (at + 1) bs

unfoldable pub is_word : List ℕ → ℕ → List ℕ → Bool
unfolding past
is_word s at bs = eqb (token_end s at) (at + length bs) && spells s at bs

-- "only spaces, tabs or CR may follow" the token at a place.
unfoldable pub ends_line : List ℕ → ℕ → Bool
unfolding past
ends_line s at = eqb (past is_blank s (token_end s at)) (line_end s at)

-- "The header line is `p`, `cnf`, variables, clauses [..]; `p` stands first in its line"
unfoldable pub is_header : List ℕ → ℕ → ℕ → ℕ → ℕ → Bool
unfolding is_word is_natural ends_line
is_header s p cnf variables clauses =
    is_word s p (112 ∷ [])
    && (is_word s cnf (99 ∷ 110 ∷ 102 ∷ []) && (is_natural (word s variables) && (is_natural (word s clauses) && ends_line s clauses)))

-- The variables, the clauses and the end of the header's line; or a number and a place.
pub data Header : Type 0 where
  Proper : (variables clauses end : ℕ) → Header
  Improper : (number place : ℕ) → Header

-- A line judged as the header: the variables, the clauses and where the line ends; else 1 "no proper header" or
-- 2 "over 64 variables or 1,024 clauses", at the line's start.
unfoldable pub header_at : List ℕ → ℕ → Header
unfolding next_word is_header value_after
header_at s at =
    let cnf = next_word s at in
    let variables = next_word s cnf in
    let clauses = next_word s variables in
    let v = value_of_digits (word s variables) in
    let c = value_of_digits (word s clauses) in
    let within = cond (leb v 64 && leb c 1024) (Proper v c (line_end s clauses)) (Improper 2 at) in
    cond (is_header s at cnf variables clauses) within (Improper 1 at)

-- "Place: 1 and 2, start of the line at fault, or the length if there is none"
unfoldable pub header : List ℕ → Header
unfolding judged_from header_at
header s =
    let at = judged_from s (length s) 0 in
    let judged = header_at s at in cond (ltb at (length s)) judged (Improper 1 (length s))
