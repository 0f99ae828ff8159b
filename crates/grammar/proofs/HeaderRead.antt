-- The lines before the header and the header line of a text of the grammar are read as they say. The idea: each line, each word and each
-- gap is a run of bytes of one class. Assumes nothing.
use mathlib.Core.Path.{◌≡◌, refl, ap, sym, ◌∙◌}
use mathlib.Core.Bool.{Bool, true, false, not}
use mathlib.Core.List.{List, [], ◌∷◌, ◌++◌, append_assoc}
use Prim.Native.Nat.{ℕ, zero, suc, ◌+◌, ◌≤◌, ◌<◌}
use native.Mathlib.Omega.{arith}
use native.Mathlib.Numerals.{add-one}
use lib.ListN.{length, get_or, drop, length-append}
use lib.Dec.{eqb}
use borrow.Author.Tests.{lt-ltb, eq-eqb, ne_eqb, eqb-true, le-leb}
use Rattle.meaning.proofs.Booleans.{or_right}
use Rattle.dimacs.specs.Text.{is_space, is_blank, is_token, is_line, past, token_end, line_end}
use Rattle.dimacs.specs.Header.{Proper, is_passed, judged_from, next_word, word, spells, is_word, ends_line, is_header, header_at}
use Rattle.dimacs.proofs.Cases.{by, clash}
use Rattle.dimacs.proofs.Runs.{past_stop, past-go, past-least}
use Rattle.grammar.specs.Parts.{Space, space, tab, space_byte, Blank, spaces, blanks, Spaces, spacing, Number, nought, positive}
use Rattle.grammar.specs.Parts.{number, number_value}
use Rattle.grammar.specs.Formula.{Passed, blank_line, comment_line, passed_line, passed, HeaderLine, header_line, LineEnds}
use Rattle.grammar.proofs.Places.{All, Stops, inside, byte, behind, past-length, past-part, past-rest}
use Rattle.grammar.proofs.Numbers.{number-then, number-token, number_is, number-value}
use Rattle.grammar.proofs.Blanks.{spaces-then, spaces-all, blanks-then, blanks-all, blanks-line, line-all, blank-parts}

-- ---- classes

all_append : (p : ℕ → Bool) (xs ys : List ℕ) → All p xs → All p ys → All p (xs ++ ys)
all_append p [] ys h k = k
all_append p (x ∷ xs) ys h k = (h.0, all_append p xs ys h.1 k)

-- A token's bytes lie in its line.
token-line : (b : ℕ) → is_token b ≡ true → is_line b ≡ true
token-line b e = by (eqb b 10) (λ t. clash (sym (sym (ap is_token (eqb-true b 10 t)) ∙ e))) (λ f. rw f)

tokens-line : (bs : List ℕ) → All is_token bs → All is_line bs
tokens-line [] h = tt
tokens-line (b ∷ bs) h = (token-line b h.0, tokens-line bs h.1)

spacing-stops : (x : Spaces) (r : List ℕ) → Stops is_token (spacing x r)
spacing-stops x r = go x.first
  where
    go : (y : Space) → is_token (space_byte y) ≡ false
    go space = refl
    go tab = refl

number-stops : (x : Number) (r : List ℕ) → Stops is_space (number x r)
number-stops nought r = refl
number-stops (positive m) r = rw (
  ne_eqb (48 + m.first) 32 (λ e. absurd (omega arith)),
  ne_eqb (48 + m.first) 9 (λ e. absurd (omega arith)),
)

ends-stops : (r : List ℕ) → LineEnds r → Stops is_line r
ends-stops [] h = tt
ends-stops (b ∷ r) h = rw h

ends-blank : (r : List ℕ) → LineEnds r → Stops is_blank r
ends-blank [] h = tt
ends-blank (b ∷ r) h = rw h

blanks-token : (bs : List Blank) (r : List ℕ) → LineEnds r → Stops is_token (blanks bs r)
blanks-token [] [] h = tt
blanks-token [] (b ∷ r) h = rw h
blanks-token (b ∷ bs) r h = ap not (blank-parts b)

module _ (s : List ℕ) where
  -- ---- the lines before the header

  module _ (at : ℕ) where
    passed-blank : past is_blank s at ≡ line_end s at → is_passed s at ≡ true
    unfolding is_passed
    passed-blank e = rw (eq-eqb (past is_blank s at) (line_end s at) e)

    passed-comment : get_or s at 0 ≡ 99 → is_passed s at ≡ true
    unfolding is_passed
    passed-comment e = or_right (eqb (past is_blank s at) (line_end s at)) (eqb (get_or s at 0) 99) (eq-eqb (get_or s at 0) 99 e)

    passed-not : (r : List ℕ) → drop at s ≡ 112 ∷ r → is_passed s at ≡ false
    unfolding is_passed
    passed-not r e =
        let c : get_or s at 0 ≡ 112 = byte s at 112 r e in
        let lt : at < length s = inside s at 112 r e in
        let here : past is_blank s at ≡ at = past_stop is_blank s at lt (ap is_blank c) in
        let later : line_end s at ≡ past is_line s (at + 1) = past-go is_line s at lt (ap is_line c) in
        rw (
          ne_eqb (past is_blank s at) (line_end s at) (λ q. absurd (omega (arith, past-least is_line s (at + 1)))),
          ne_eqb (get_or s at 0) 99 (λ q. absurd (omega arith)),
        )

    judged-on : (k : ℕ) → at < length s → is_passed s at ≡ true → judged_from s (suc k) at ≡ judged_from s k (suc (line_end s at))
    unfolding judged_from
    judged-on k h e = rw (lt-ltb at (length s) h, e)

    judged-here : (k : ℕ) → at < length s → is_passed s at ≡ false → judged_from s (suc k) at ≡ at
    unfolding judged_from
    judged-here k h e = rw (lt-ltb at (length s) h, e)

  line-passed : (l : Passed) (r : List ℕ) (at : ℕ) → drop at s ≡ passed_line l (10 ∷ r) → (is_passed s at ≡ true)
      × (drop (line_end s at) s ≡ 10 ∷ r)
  line-passed (blank_line bs) r at e =
      let split : drop at s ≡ blanks bs [] ++ 10 ∷ r = e ∙ blanks-then bs (10 ∷ r) in (
        passed-blank at (past-length s at is_blank (blanks bs []) (10 ∷ r) split (blanks-all bs) refl
            ∙ sym (past-length s at is_line (blanks bs []) (10 ∷ r) split (blanks-line bs) refl)),
        past-rest s at is_line (blanks bs []) (10 ∷ r) split (blanks-line bs) refl,
      )
  line-passed (comment_line c) r at e = (
    passed-comment at (byte s at 99 (c.bytes ++ 10 ∷ r) e),
    past-rest s at is_line (99 ∷ c.bytes) (10 ∷ r) e (refl, line-all c.bytes c.in_line) refl,
  )

  passed-inside : (ls : List Passed) (r : List ℕ) (at : ℕ) → drop at s ≡ passed ls (112 ∷ r) → at < length s
  passed-inside [] r at e = inside s at 112 r e
  passed-inside (l ∷ ls) r at e =
      let here = line-passed l (passed ls (112 ∷ r)) at e in
      omega (arith, past-least is_line s at, inside s (line_end s at) 10 (passed ls (112 ∷ r)) here.1)

  -- The reader comes to the header line.
  pub lines-passed : (ls : List Passed) (r : List ℕ) (k at : ℕ) → length s ≤ at + k → drop at s ≡ passed ls (112 ∷ r)
      → drop (judged_from s k at) s ≡ 112 ∷ r
  lines-passed ls r zero at h e = absurd (omega (arith, passed-inside ls r at e))
  lines-passed [] r (suc k) at h e = ap (λ (p : ℕ). drop p s) (judged-here at k (inside s at 112 r e) (passed-not at r e)) ∙ e
  lines-passed (l ∷ ls) r (suc k) at h e =
      let here = line-passed l (passed ls (112 ∷ r)) at e in
      ap (λ (p : ℕ). drop p s) (judged-on at k (passed-inside (l ∷ ls) r at e) here.0)
      ∙ lines-passed ls r k (suc (line_end s at)) (omega (arith, past-least is_line s at))
      (behind s (line_end s at) 10 (passed ls (112 ∷ r)) here.1)

  -- ---- words

  spells-is : (bs r : List ℕ) (at : ℕ) → drop at s ≡ bs ++ r → spells s at bs ≡ true
  spells-is [] r at e = refl
  spells-is (b ∷ bs) r at e =
      rw (eq-eqb (get_or s at 0) b (byte s at b (bs ++ r) e))
      (spells-is bs r (at + 1) (ap (λ (p : ℕ). drop p s) (add-one at) ∙ behind s at b (bs ++ r) e))

  module _ (at : ℕ) (bs r : List ℕ) (e : drop at s ≡ bs ++ r) (a : All is_token bs) (h : Stops is_token r) where
    word-is : is_word s at bs ≡ true
    unfolding is_word
    word-is = rw (eq-eqb (token_end s at) (at + length bs) (past-length s at is_token bs r e a h)) (spells-is bs r at e)

  -- The next word stands behind the spaces.
  word_passed : (at : ℕ) (bs : List ℕ) (x : Spaces) (r : List ℕ) → drop at s ≡ bs ++ spacing x r → All is_token bs → Stops is_space r
      → drop (next_word s at) s ≡ r
  unfolding next_word
  word_passed at bs x r e a h =
      past-rest s (token_end s at) is_space (spaces (x.first ∷ x.more) []) r
      (past-rest s at is_token bs (spacing x r) e a (spacing-stops x r) ∙ spaces-then (x.first ∷ x.more) r)
      (spaces-all (x.first ∷ x.more)) h

  -- ---- the header line

  module _ (at : ℕ) (x : Number) (bs : List Blank) (r : List ℕ) (e : drop at s ≡ number x (blanks bs r)) (h : LineEnds r) where
    split : drop at s ≡ number x [] ++ blanks bs r
    split = e ∙ number-then x (blanks bs r)

    whole : drop at s ≡ (number x [] ++ blanks bs []) ++ r
    whole = split ∙ ap (λ (l : List ℕ). number x [] ++ l) (blanks-then bs r) ∙ sym (append_assoc (number x []) (blanks bs []) r)

    in-line : All is_line (number x [] ++ blanks bs [])
    in-line = all_append is_line (number x []) (blanks bs []) (tokens-line (number x []) (number-token x)) (blanks-line bs)

    pub line-rest : drop (line_end s at) s ≡ r
    line-rest = past-rest s at is_line (number x [] ++ blanks bs []) r whole in-line (ends-stops r h)

    ends_is : ends_line s at ≡ true
    unfolding ends_line
    ends_is =
        let token : token_end s at ≡ at + length (number x []) = past-length s at is_token (number x []) (blanks bs r) split
        (number-token x)
        (blanks-token bs r h) in
        let rest : drop (token_end s at) s ≡ blanks bs [] ++ r =
        past-rest s at is_token (number x []) (blanks bs r) split (number-token x) (blanks-token bs r h) ∙ blanks-then bs r in
        let blank : past is_blank s (token_end s at) ≡ token_end s at + length (blanks bs []) =
        past-length s (token_end s at) is_blank (blanks bs []) r rest (blanks-all bs) (ends-blank r h) in
        let line : line_end s at ≡ at + length (number x [] ++ blanks bs []) =
        past-length s at is_line (number x [] ++ blanks bs []) r whole in-line (ends-stops r h) in
        eq-eqb (past is_blank s (token_end s at)) (line_end s at) (omega (arith, length-append (number x []) (blanks bs [])))

    last_word : word s at ≡ number x []
    last_word = past-part s at is_token (number x []) (blanks bs r) split (number-token x) (blanks-token bs r h)

  -- The header line at `at`, and the places of its words.
  module _ (h : HeaderLine) (r : List ℕ) (ends : LineEnds r) (at : ℕ) (e : drop at s ≡ header_line h r) where
    abbrev from_clauses : List ℕ
    from_clauses = number h.clauses (blanks h.behind_clauses r)

    abbrev from_variables : List ℕ
    from_variables = number h.variables (spacing h.behind_variables from_clauses)

    abbrev from_cnf : List ℕ
    from_cnf = 99 ∷ 110 ∷ 102 ∷ spacing h.behind_cnf from_variables

    abbrev cnf : ℕ
    cnf = next_word s at

    abbrev variables : ℕ
    variables = next_word s cnf

    abbrev wanted : ℕ
    wanted = next_word s variables

    at-cnf : drop cnf s ≡ from_cnf
    at-cnf = word_passed at (112 ∷ []) h.behind_p from_cnf e (refl, tt) refl

    at-variables : drop variables s ≡ from_variables
    at-variables = word_passed cnf (99 ∷ 110 ∷ 102 ∷ []) h.behind_cnf from_variables at-cnf (refl, (refl, (refl, tt)))
        (number-stops h.variables (spacing h.behind_variables from_clauses))

    at_split : drop variables s ≡ number h.variables [] ++ spacing h.behind_variables from_clauses
    at_split = at-variables ∙ number-then h.variables (spacing h.behind_variables from_clauses)

    pub at-clauses : drop wanted s ≡ from_clauses
    at-clauses =
        word_passed variables (number h.variables []) h.behind_variables from_clauses at_split (number-token h.variables)
        (number-stops h.clauses (blanks h.behind_clauses r))

    variables-word : word s variables ≡ number h.variables []
    variables-word =
        past-part s variables is_token (number h.variables []) (spacing h.behind_variables from_clauses) at_split
        (number-token h.variables)
        (spacing-stops h.behind_variables from_clauses)

    clauses-word : word s wanted ≡ number h.clauses []
    clauses-word = last_word wanted h.clauses h.behind_clauses r at-clauses ends

    form : is_header s at cnf variables wanted ≡ true
    unfolding is_header
    form =
        rw (
          word-is at (112 ∷ []) (spacing h.behind_p from_cnf) e (refl, tt) (spacing-stops h.behind_p from_cnf),
          word-is cnf (99 ∷ 110 ∷ 102 ∷ []) (spacing h.behind_cnf from_variables) at-cnf (refl, (refl, (refl, tt)))
              (spacing-stops h.behind_cnf from_variables),
          variables-word,
          clauses-word,
          number_is h.variables,
          number_is h.clauses,
        )
        (ends_is wanted h.clauses h.behind_clauses r at-clauses ends)

    pub header-at : number_value h.variables ≤ 64 → number_value h.clauses ≤ 1024
        → header_at s at ≡ Proper (number_value h.variables) (number_value h.clauses) (line_end s wanted)
    unfolding header_at
    header-at small few =
        rw (
          form,
          variables-word,
          clauses-word,
          number-value h.variables,
          number-value h.clauses,
          le-leb (number_value h.variables) 64 small,
          le-leb (number_value h.clauses) 1024 few,
        )

    pub header-rest : drop (line_end s wanted) s ≡ r
    header-rest = line-rest wanted h.clauses h.behind_clauses r at-clauses ends
