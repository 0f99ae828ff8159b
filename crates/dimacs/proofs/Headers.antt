-- The header's judgement in the order in which the code asks: `p`, `cnf`, the two numbers, the line's end, the limits. Numbers cut off
-- above 1,024 are within a limit exactly where the numbers are. What a proper header says. Assumes nothing.
use mathlib.Core.Path.{◌≡◌, refl, sym, ◌∙◌}
use mathlib.Core.Bool.{Bool, true, false, cond, ◌&&◌}
use mathlib.Core.List.{List, [], ◌∷◌}
use Prim.Native.Nat.{ℕ, ◌≤◌, ◌<◌}
use native.Mathlib.Omega.{arith}
use lib.Dec.{ltb, leb}
use borrow.Author.Tests.{lt-ltb, le-ltb, leb-true, leb-false}
use Rattle.std.specs.Prelude.{Option, None, Some}
use Rattle.dimacs.specs.Text.{line_end}
use Rattle.dimacs.specs.Numbers.{is_natural, value_of_digits}
use Rattle.dimacs.specs.Inner.{capped, natural_of}
use Rattle.dimacs.specs.Header.{Header, Proper, Improper, next_word, word, is_word, ends_line, is_header, header_at}
use Rattle.dimacs.proofs.Cases.{by}
use Rattle.dimacs.proofs.Digits.{capped-over, capped-under}

abbrev pub within : ℕ → ℕ → ℕ → ℕ → Header
within v c at end = cond (ltb 64 v) (Improper 2 at) (cond (ltb 1024 c) (Improper 2 at) (Proper v c end))

abbrev pub numbered : Option ℕ → Option ℕ → Bool → ℕ → ℕ → Header
numbered None c ends at end = Improper 1 at
numbered (Some v) None ends at end = Improper 1 at
numbered (Some v) (Some c) ends at end = cond ends (within v c at end) (Improper 1 at)

abbrev pub judged : Bool → Bool → Option ℕ → Option ℕ → Bool → ℕ → ℕ → Header
judged p cnf v c ends at end = cond p (cond cnf (numbered v c ends at end) (Improper 1 at)) (Improper 1 at)

-- ---- the limits

within-capped : (v c at end : ℕ) → within (capped v) (capped c) at end ≡ cond (leb v 64 && leb c 1024) (Proper v c end) (Improper 2 at)
within-capped v c at end =
    by (leb v 64)
    (λ t. let small : v ≤ 64 = leb-true v 64 t in
    by (leb c 1024)
    (λ u. let few : c ≤ 1024 = leb-true c 1024 u in
    rw (capped-under v (omega arith), capped-under c (omega arith), t, u, le-ltb 64 v small, le-ltb 1024 c few))
    (λ u. let many : 1024 < c = leb-false c 1024 u in
    rw (capped-under v (omega arith), capped-over c many, t, u, le-ltb 64 v small)))
    (λ t. let large : 64 < v = leb-false v 64 t in
    by (ltb 1024 v) (λ o. rw (o, t)) (λ o. rw (o, t, lt-ltb 64 v large)))

-- ---- the form

form : (p cnf nv nc ends : Bool) (v c at end : ℕ)
    → cond (p && (cnf && (nv && (nc && ends)))) (cond (leb v 64 && leb c 1024) (Proper v c end) (Improper 2 at)) (Improper 1 at)
    ≡ judged p cnf (cond nv (Some (capped v)) None) (cond nc (Some (capped c)) None) ends at end
form false cnf nv nc ends v c at end = refl
form true false nv nc ends v c at end = refl
form true true false nc ends v c at end = refl
form true true true false ends v c at end = refl
form true true true true false v c at end = refl
form true true true true true v c at end = sym (within-capped v c at end)

-- The judgement of the line at `at` whose other words are at the three places.
abbrev pub judged_words : List ℕ → ℕ → ℕ → ℕ → ℕ → Header
judged_words s at cnf variables clauses =
    judged
    (is_word s at (112 ∷ []))
    (is_word s cnf (99 ∷ 110 ∷ 102 ∷ []))
    (natural_of (word s variables))
    (natural_of (word s clauses))
    (ends_line s clauses)
    at
    (line_end s clauses)

header-words : (s : List ℕ) (at : ℕ)
    → header_at s at ≡ judged_words s at (next_word s at) (next_word s (next_word s at)) (next_word s (next_word s (next_word s at)))
unfolding header_at is_header
header-words s at =
    let cnf = next_word s at in
    let variables = next_word s cnf in
    let clauses = next_word s variables in
    form
    (is_word s at (112 ∷ []))
    (is_word s cnf (99 ∷ 110 ∷ 102 ∷ []))
    (is_natural (word s variables))
    (is_natural (word s clauses))
    (ends_line s clauses)
    (value_of_digits (word s variables))
    (value_of_digits (word s clauses))
    at
    (line_end s clauses)

pub header-judged : (s : List ℕ) (at cnf variables clauses : ℕ) → cnf ≡ next_word s at → variables ≡ next_word s cnf → clauses
    ≡ next_word s variables
    → header_at s at ≡ judged_words s at cnf variables clauses
header-judged s at cnf variables clauses e f g = header-words s at ∙ rw (sym e, sym f, sym g)
