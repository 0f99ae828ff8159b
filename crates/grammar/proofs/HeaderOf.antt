-- What the reader takes for lines before the header and for a header line is printed by those of the grammar. The idea: each test that the
-- reader makes says which bytes it passed. Assumes nothing.
use mathlib.Core.Path.{◌≡◌, refl, ap, ap₂, sym, subst, ◌∙◌}
use mathlib.Core.Bool.{true, ◌&&◌, cond}
use mathlib.Core.List.{List, [], ◌∷◌, ◌++◌}
use Prim.Native.Nat.{ℕ, zero, suc, ◌+◌, ◌≤◌, ◌<◌}
use native.Mathlib.Omega.{arith}
use native.Mathlib.Numerals.{add-one}
use lib.ListN.{length, get_or, drop}
use lib.Seq.{slice, drop-cons}
use lib.Dec.{eqb, leb, ltb}
use borrow.Author.Tests.{eqb-true, ltb-true, leb-true, not-false}
use Rattle.meaning.proofs.Booleans.{and_both}
use Rattle.dimacs.specs.Header.{Proper, Improper}
use Rattle.dimacs.specs.Text.{is_space, is_blank, is_token, is_line, past, token_end, line_end}
use Rattle.dimacs.specs.Numbers.{is_natural, value_of_digits}
use Rattle.dimacs.specs.Header.{is_passed, judged_from, next_word, word, spells, is_word, ends_line, is_header, header_at}
use Rattle.dimacs.proofs.Cases.{by, clash}
use Rattle.dimacs.proofs.Runs.{past-go, past-most}
use Rattle.dimacs.proofs.Lines.{judged-end}
use Rattle.grammar.specs.Parts.{Space, spaces, Spaces, spacing, Blank, blanks, Number, nought, positive, number, number_value}
use Rattle.grammar.specs.Formula.{Passed, blank_line, comment_line, passed_line, passed, HeaderLine, header_line, LineEnds}
use Rattle.grammar.proofs.Places.{Stops, outside, behind, past_all, past-stops, past_split}
use Rattle.grammar.proofs.Numbers.{number-then, number_of, number-value, token-byte}
use Rattle.grammar.proofs.Blanks.{spaces-then, spaces-of, blanks-then, blanks-of, line_of}

-- A line's end is LF or the text's end.
stops-ends : (r : List ℕ) → Stops is_line r → LineEnds r
stops-ends [] h = tt
stops-ends (b ∷ r) h = eqb-true b 10 (not-false (eqb b 10) h)

-- A number starts with a token's byte.
number-starts : (x : Number) (r : List ℕ) → Stops is_token (number x r) → ⊥
number-starts nought r h = clash h
number-starts (positive m) r h = clash (sym (token-byte (48 + m.first) (omega arith)) ∙ h)

module _ (s : List ℕ) where
  -- ---- the lines before the header

  -- The line at `at` is one of the grammar, up to its end.
  abbrev LineOf : ℕ → Type 0
  LineOf at = (l : Passed) × (drop at s ≡ passed_line l (drop (line_end s at) s))

  blank-of-line : (at : ℕ) → past is_blank s at ≡ line_end s at → LineOf at
  blank-of-line at e =
      let xs = blanks-of (slice at (past is_blank s at) s) (past_all s at is_blank) in (
        blank_line xs.0,
        past_split s at is_blank ∙ ap₂ (λ (l r : List ℕ). l ++ r) (sym xs.1) (ap (λ (p : ℕ). drop p s) e)
            ∙ sym (blanks-then xs.0 (drop (line_end s at) s)),
      )

  comment-of-line : (at : ℕ) → at < length s → get_or s at 0 ≡ 99 → LineOf at
  comment-of-line at h e =
      let to = past is_line s (suc at) in
      let same : line_end s at ≡ to = past-go is_line s at h (ap is_line e) ∙ ap (past is_line s) (add-one at) in (
        comment_line (record { bytes = slice (suc at) to s; in_line = line_of (slice (suc at) to s) (past_all s (suc at) is_line) }),
        drop-cons s at 0 h ∙ ap₂ (λ (b : ℕ) (l : List ℕ). b ∷ l) e (past_split s (suc at) is_line)
            ∙ ap (λ (p : ℕ). 99 ∷ (slice (suc at) to s ++ drop p s)) (sym same),
      )

  line-found : (at : ℕ) → at < length s → is_passed s at ≡ true → LineOf at
  unfolding is_passed
  line-found at h e =
      by (eqb (past is_blank s at) (line_end s at))
      (λ t. blank-of-line at (eqb-true (past is_blank s at) (line_end s at) t))
      (λ f. comment-of-line at h (eqb-true (get_or s at 0) 99 (sym (rw f) ∙ e)))

  -- The lines from `at` to the place p are passed over.
  abbrev LinesOf : ℕ → ℕ → Type 0
  LinesOf at p = (ls : List Passed) × (drop at s ≡ passed ls (drop p s))

  line_before : (at p : ℕ) → LineOf at → (r : List ℕ) → drop (line_end s at) s ≡ 10 ∷ r → LinesOf (suc (line_end s at)) p → LinesOf at p
  line_before at p L r e M = (
    L.0 ∷ M.0,
    L.1 ∙ ap (passed_line L.0) (e ∙ ap (λ (l : List ℕ). 10 ∷ l) (sym (behind s (line_end s at) 10 r e) ∙ M.1)),
  )

  module _ (k at : ℕ) where
    judged-suc : judged_from s (suc k) at ≡ cond (ltb at (length s)) (cond (is_passed s at) (judged_from s k (suc (line_end s at))) at)
        (length s)
    unfolding judged_from
    judged-suc = refl

    -- A line that is passed over ends with an LF, if the header comes behind it.
    ended : judged_from s k (suc (line_end s at)) < length s → (l : List ℕ) → drop (line_end s at) s ≡ l → Stops is_line l → (r : List ℕ)
        × (drop (line_end s at) s ≡ 10 ∷ r)
    ended h [] e t =
        let none : length s ≤ line_end s at = outside s (line_end s at) e in
        absurd (omega (arith, judged-end s k (suc (line_end s at)) (omega arith)))
    ended h (b ∷ r) e t = (r, e ∙ ap (λ (c : ℕ). c ∷ r) (eqb-true b 10 (not-false (eqb b 10) t)))

    lines_step : ((to : ℕ) → judged_from s k to < length s → LinesOf to (judged_from s k to)) → judged_from s (suc k) at < length s
        → LinesOf at (judged_from s (suc k) at)
    lines_step ih h =
        by (ltb at (length s))
        (λ t. by (is_passed s at)
        (λ p. let same : judged_from s (suc k) at ≡ judged_from s k (suc (line_end s at)) = judged-suc ∙ rw (t, p) in
        let later : judged_from s k (suc (line_end s at)) < length s = omega arith in
        let lf = ended later (drop (line_end s at) s) refl (past-stops s at is_line) in
        subst (LinesOf at) (sym same)
        (line_before at (judged_from s k (suc (line_end s at))) (line-found at (ltb-true at (length s) t) p) lf.0 lf.1
        (ih (suc (line_end s at)) later)))
        (λ p. let same : judged_from s (suc k) at ≡ at = judged-suc ∙ rw (t, p) in subst (LinesOf at) (sym same) ([], refl)))
        (λ t. let same : judged_from s (suc k) at ≡ length s = judged-suc ∙ rw t in absurd (omega arith))

  judged-none : (at : ℕ) → judged_from s zero at ≡ length s
  unfolding judged_from
  judged-none at = refl

  pub lines_of : (k at : ℕ) → judged_from s k at < length s → LinesOf at (judged_from s k at)
  lines_of zero at h = absurd (omega (arith, judged-none at))
  lines_of (suc k) at h = lines_step k at (λ to lt. lines_of k to lt) h

  -- ---- words

  spelled : (bs : List ℕ) (at : ℕ) → at + length bs ≤ length s → spells s at bs ≡ true → drop at s ≡ bs ++ drop (at + length bs) s
  spelled [] at h e = ap (λ (p : ℕ). drop p s) (let z : at ≡ at + 0 = omega arith in z)
  spelled (b ∷ bs) at h e =
      let k = and_both (eqb (get_or s at 0) b) (spells s (at + 1) bs) e in
      let here : at < length s = omega arith in
      let z : at + 1 + length bs ≡ at + length (b ∷ bs) = omega arith in
      drop-cons s at 0 here
      ∙ ap₂ (λ (c : ℕ) (l : List ℕ). c ∷ l) (eqb-true (get_or s at 0) b k.0)
      (ap (λ (p : ℕ). drop p s) (sym (add-one at)) ∙ spelled bs (at + 1) (omega arith) k.1 ∙ ap (λ (p : ℕ). bs ++ drop p s) z)

  word_of : (at : ℕ) (bs : List ℕ) → at ≤ length s → is_word s at bs ≡ true → drop at s ≡ bs ++ drop (token_end s at) s
  unfolding is_word
  word_of at bs h e =
      let k = and_both (eqb (token_end s at) (at + length bs)) (spells s at bs) e in
      let same : token_end s at ≡ at + length bs = eqb-true (token_end s at) (at + length bs) k.0 in
      spelled bs at (omega (arith, past-most is_token s at h)) k.1 ∙ ap (λ (p : ℕ). bs ++ drop p s) (sym same)

  -- What parts a word from the next: at least one space, since a word follows.
  spacing-of : (at : ℕ) → (Stops is_token (drop (next_word s at) s) → ⊥) → (x : Spaces)
      × (drop (token_end s at) s ≡ spacing x (drop (next_word s at) s))
  unfolding next_word
  spacing-of at h =
      let to = past is_space s (token_end s at) in
      let xs = spaces-of (slice (token_end s at) to s) (past_all s (token_end s at) is_space) in
      some xs.0
      (past_split s (token_end s at) is_space ∙ ap (λ (l : List ℕ). l ++ drop to s) (sym xs.1) ∙ sym (spaces-then xs.0 (drop to s)))
    where
      some : (xs : List Space) → drop (token_end s at) s ≡ spaces xs (drop (past is_space s (token_end s at)) s)
          → (x : Spaces) × (drop (token_end s at) s ≡ spacing x (drop (past is_space s (token_end s at)) s))
      some [] e = absurd (h (subst (Stops is_token) e (past-stops s at is_token)))
      some (x ∷ xs) e = (record { first = x; more = xs }, e)

  number-found : (at : ℕ) → is_natural (word s at) ≡ true
      → (x : Number) × (drop at s ≡ number x (drop (token_end s at) s)) × (value_of_digits (word s at) ≡ number_value x)
  number-found at e =
      let x = number_of (word s at) e in (
        x.0,
        past_split s at is_token ∙ ap (λ (l : List ℕ). l ++ drop (token_end s at) s) (sym x.1)
            ∙ sym (number-then x.0 (drop (token_end s at) s)),
        ap value_of_digits (sym x.1) ∙ number-value x.0,
      )

  line-end-of : (at : ℕ) → ends_line s at ≡ true → (bs : List Blank) × (drop (token_end s at) s ≡ blanks bs (drop (line_end s at) s))
  unfolding ends_line
  line-end-of at e =
      let to = past is_blank s (token_end s at) in
      let same : to ≡ line_end s at = eqb-true to (line_end s at) e in
      let bs = blanks-of (slice (token_end s at) to s) (past_all s (token_end s at) is_blank) in (
        bs.0,
        past_split s (token_end s at) is_blank
            ∙ ap₂ (λ (l r : List ℕ). l ++ r) (sym bs.1) (ap (λ (p : ℕ). drop p s) same)
            ∙ sym (blanks-then bs.0 (drop (line_end s at) s)),
      )

  -- ---- the header line

  -- The header line from `at` to `to` says n variables and m clauses.
  pub record HeaderOf (at to n m : ℕ) : Type 0 where
    pub tree : HeaderLine
    pub is : drop at s ≡ header_line tree (drop to s)
    pub variables : number_value tree.variables ≡ n
    pub clauses : number_value tree.clauses ≡ m
    pub ends : LineEnds (drop to s)

  module _ (at : ℕ) (inside : at ≤ length s) where
    abbrev cnf : ℕ
    cnf = next_word s at

    abbrev variables : ℕ
    variables = next_word s cnf

    abbrev wanted : ℕ
    wanted = next_word s variables

    word_in : (p : ℕ) → p ≤ length s → next_word s p ≤ length s
    unfolding next_word
    word_in p h = past-most is_space s (token_end s p) (past-most is_token s p h)

    form_of : is_header s at cnf variables wanted ≡ true → HeaderOf at (line_end s wanted) (value_of_digits (word s variables))
        (value_of_digits (word s wanted))
    unfolding is_header
    form_of e =
        let a = and_both (is_word s at (112 ∷ []))
        (is_word s cnf (99 ∷ 110 ∷ 102 ∷ []) && (is_natural (word s variables) && (is_natural (word s wanted) && ends_line s wanted))) e in
        let b = and_both (is_word s cnf (99 ∷ 110 ∷ 102 ∷ []))
        (is_natural (word s variables) && (is_natural (word s wanted) && ends_line s wanted)) a.1 in
        let c = and_both (is_natural (word s variables)) (is_natural (word s wanted) && ends_line s wanted) b.1 in
        let d = and_both (is_natural (word s wanted)) (ends_line s wanted) c.1 in
        let p = word_of at (112 ∷ []) inside a.0 in
        let q = word_of cnf (99 ∷ 110 ∷ 102 ∷ []) (word_in at inside) b.0 in
        let v = number-found variables c.0 in
        let w = number-found wanted d.0 in
        let t = line-end-of wanted d.1 in
        let x = spacing-of at (λ h. clash (subst (Stops is_token) q h)) in
        let y = spacing-of cnf (λ h. number-starts v.0 (drop (token_end s variables) s) (subst (Stops is_token) v.1 h)) in
        let z = spacing-of variables (λ h. number-starts w.0 (drop (token_end s wanted) s) (subst (Stops is_token) w.1 h)) in
        record {
          tree = record {
            behind_p = x.0;
            behind_cnf = y.0;
            variables = v.0;
            behind_variables = z.0;
            clauses = w.0;
            behind_clauses = t.0;
          };
          is = p ∙ ap (λ (l : List ℕ). 112 ∷ l)
              (x.1 ∙ ap (spacing x.0) (q ∙ ap (λ (l : List ℕ). 99 ∷ 110 ∷ 102 ∷ l) (y.1 ∙ ap (spacing y.0)
              (v.1 ∙ ap (number v.0) (z.1 ∙ ap (spacing z.0) (w.1 ∙ ap (number w.0) t.1))))));
          variables = sym v.2;
          clauses = sym w.2;
          ends = stops-ends (drop (line_end s wanted) s) (past-stops s wanted is_line);
        }

    -- Only a header of that form and within the limits is proper.
    pub header-at-of : (n m to : ℕ) → header_at s at ≡ Proper n m to → (n ≤ 64) × (m ≤ 1024) × HeaderOf at to n m
    unfolding header_at
    header-at-of n m to e =
        let v = value_of_digits (word s variables) in
        let c = value_of_digits (word s wanted) in
        by (is_header s at cnf variables wanted)
        (λ t. by (leb v 64 && leb c 1024)
        (λ l. let q : Proper v c (line_end s wanted) ≡ Proper n m to = sym (rw (t, l)) ∙ e in
        let i : v ≡ n = cc in
        let j : c ≡ m = cc in
        let k : line_end s wanted ≡ to = cc in
        let few = and_both (leb v 64) (leb c 1024) l in (
          omega (arith, leb-true v 64 few.0),
          omega (arith, leb-true c 1024 few.1),
          subst (λ a. HeaderOf at a n m) k (subst (λ a. HeaderOf at (line_end s wanted) n a) j
              (subst (λ a. HeaderOf at (line_end s wanted) a c) i (form_of t))),
        ))
        (λ l. let q : Improper 2 at ≡ Proper n m to = sym (rw (t, l)) ∙ e in let z : ◌≡◌ {A = ℕ} 0 1 = cc in absurd (omega arith)))
        (λ t. let q : Improper 1 at ≡ Proper n m to = sym (rw t) ∙ e in let z : ◌≡◌ {A = ℕ} 0 1 = cc in absurd (omega arith))
