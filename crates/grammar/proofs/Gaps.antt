-- What parts two tokens: the reader passes over a gap of the grammar, and what it passes over is one. The idea: byte by byte, a comment
-- line at a time, in both directions. Assumes nothing.
use mathlib.Core.Path.{◌≡◌, refl, ap, ap₂, sym, ◌∙◌}
use mathlib.Core.Logic.{◌≢◌}
use mathlib.Core.Bool.{true, false}
use mathlib.Core.List.{List, [], ◌∷◌, ◌++◌}
use Prim.Native.Nat.{ℕ, zero, suc, ◌+◌, ◌-◌, ◌≤◌, ◌<◌}
use native.Mathlib.Omega.{arith}
use native.Mathlib.Numerals.{add-one}
use lib.ListN.{length, get_or, drop}
use lib.Seq.{slice, drop-cons}
use lib.Dec.{eqb}
use borrow.Author.Tests.{eq-eqb, ne_eqb, eqb-true, not-false}
use Rattle.meaning.proofs.Booleans as booleans
use Rattle.dimacs.specs.Text.{is_parting, is_token, is_line, past, line_end, is_comment, between_from, between}
use Rattle.dimacs.proofs.Cases.{by, clash}
use Rattle.dimacs.proofs.Runs.{past_end, past_stop, past-go, past-least}
use Rattle.dimacs.proofs.Between.{comment-byte, comment-inside, between-stop, between_left, left-comment, between-least, other_byte}
use Rattle.dimacs.proofs.Between.{behind as comment-behind}
use Rattle.grammar.specs.Parts.{Blank, blank_byte, Comment, comment, comments, Piece, blank, new_line, gap}
use Rattle.grammar.specs.Formula.{Ending, plain, last_comment, ending}
use Rattle.grammar.proofs.Places.{Stops, outside, inside, byte, behind, past-rest, past_all, past-stops, past_split}
use Rattle.grammar.proofs.Blanks.{blank-parts, parting-of, line-all, line_of}

-- No separator and no comment comes next.
abbrev pub Fresh : List ℕ → Type 0
Fresh [] = Unit {0}
Fresh (b ∷ r) = (is_parting b ≡ false) × (b ≢ 99)

module _ (s : List ℕ) where
  -- ---- steps of the reader

  from_past : (k at to : ℕ) → past is_parting s at ≡ past is_parting s to → between_from s k at ≡ between_from s k to
  unfolding between_from
  from_past zero at to e = e
  from_past (suc k) at to e = rw e

  module _ (at b : ℕ) (r : List ℕ) (e : drop at s ≡ b ∷ r) where
    between-on : is_parting b ≡ true → between s at ≡ between s (suc at)
    between-on p =
        from_past (length s) at (suc at) (past-go is_parting s at (inside s at b r e) (ap is_parting (byte s at b r e) ∙ p)
        ∙ ap (past is_parting s) (add-one at))

    stays : is_parting b ≡ false → past is_parting s at ≡ at
    stays p = past_stop is_parting s at (inside s at b r e) (ap is_parting (byte s at b r e) ∙ p)

    between-skips : b ≡ 99 → is_comment s at ≡ true → between s at ≡ between s (line_end s at)
    between-skips q c =
        let here : past is_parting s at ≡ at = stays (ap is_parting q) in
        between_left s at
        ∙ left-comment s at (ap (is_comment s) here ∙ c)
        ∙ ap (λ (p : ℕ). between_from s (length s - line_end s p) (line_end s p)) here
        ∙ sym (between_left s (line_end s at))

  comment-not : (at : ℕ) → length s ≤ at → is_comment s at ≡ false
  comment-not at h = booleans.not-true (is_comment s at) (λ t. absurd (omega (arith, comment-inside s at t)))

  between-rests : (at : ℕ) → past is_parting s at ≡ at → is_comment s at ≡ false → between s at ≡ at
  between-rests at h c = between-stop s (length s) at (ap (is_comment s) h ∙ c) ∙ h

  -- ---- a gap is passed over

  -- a comment line behind an LF
  comment-here : (at : ℕ) (r : List ℕ) → drop at s ≡ 10 ∷ 99 ∷ r → is_comment s (suc at) ≡ true
  comment-here at r e =
      let c : get_or s (suc at) 0 ≡ 99 = byte s (suc at) 99 r (behind s at 10 (99 ∷ r) e) in
      let z : suc at - 1 ≡ at = omega arith in
      sym (comment-behind s (suc at) c (λ q. absurd (omega arith)))
      ∙ eq-eqb (get_or s (suc at - 1) 0) 10 (ap (λ (k : ℕ). get_or s k 0) z ∙ byte s at 10 (99 ∷ r) e)

  comment-skipped : (at : ℕ) (r : List ℕ) (c : Comment) → drop at s ≡ 10 ∷ comment c r → between s at ≡ between s (line_end s (suc at))
  comment-skipped at r c e =
      between-on at 10 (comment c r) e refl
      ∙ between-skips (suc at) 99 (c.bytes ++ r) (behind s at 10 (comment c r) e) refl (comment-here at (c.bytes ++ r) e)

  comment-rest : (at : ℕ) (r : List ℕ) (c : Comment) → drop at s ≡ 10 ∷ comment c r → Stops is_line r → drop (line_end s (suc at)) s ≡ r
  comment-rest at r c e h =
      past-rest s (suc at) is_line (99 ∷ c.bytes) r (behind s at 10 (comment c r) e) (refl, line-all c.bytes c.in_line) h

  -- The bytes x are reached from `at` with nothing but separators before them.
  abbrev Reaches : ℕ → List ℕ → Type 0
  Reaches at x = (p : ℕ) × (drop p s ≡ x) × (between s at ≡ between s p)

  comments-skipped : (cs : List Comment) (x : List ℕ) (at : ℕ) → drop at s ≡ 10 ∷ comments cs x → Reaches at (10 ∷ x)
  comments-skipped [] x at e = (at, e, refl)
  comments-skipped (c ∷ cs) x at e =
      let later = comments-skipped cs x (line_end s (suc at)) (comment-rest at (10 ∷ comments cs x) c e refl) in
      (later.0, later.1, comment-skipped at (10 ∷ comments cs x) c e ∙ later.2)

  gap-skipped : (g : List Piece) (x : List ℕ) (at : ℕ) → drop at s ≡ gap g x → Reaches at x
  gap-skipped [] x at e = (at, e, refl)
  gap-skipped (blank b ∷ g) x at e =
      let later = gap-skipped g x (suc at) (behind s at (blank_byte b) (gap g x) e) in
      (later.0, later.1, between-on at (blank_byte b) (gap g x) e (blank-parts b) ∙ later.2)
  gap-skipped (new_line cs ∷ g) x at e =
      let first = comments-skipped cs (gap g x) at e in
      let later = gap-skipped g x (suc first.0) (behind s first.0 10 (gap g x) first.1) in
      (later.0, later.1, first.2 ∙ between-on first.0 10 (gap g x) first.1 refl ∙ later.2)

  fresh-rests : (x : List ℕ) (at : ℕ) → drop at s ≡ x → Fresh x → between s at ≡ at
  fresh-rests [] at e h = between-rests at (past_end is_parting s at (outside s at e)) (comment-not at (outside s at e))
  fresh-rests (b ∷ x) at e h =
      between-rests at (stays at b x e h.0) (sym (other_byte s at (λ q. h.1 (sym (byte s at b x e) ∙ q))))

  -- Behind a gap the reader stands at what follows.
  pub gap-passed : (g : List Piece) (x : List ℕ) (at : ℕ) → drop at s ≡ gap g x → Fresh x → drop (between s at) s ≡ x
  gap-passed g x at e h =
      let later = gap-skipped g x at e in
      ap (λ (p : ℕ). drop p s) (later.2 ∙ fresh-rests x later.0 later.1 h) ∙ later.1

  -- An ending leaves nothing.
  pub ending-passed : (e : Ending) (at : ℕ) → drop at s ≡ ending e → length s ≤ between s at
  ending-passed (plain g) at e = outside s (between s at) (gap-passed g [] at e tt)
  ending-passed (last_comment g cs c) at e =
      let first = gap-skipped g (10 ∷ comments cs (comment c [])) at e in
      let second = comments-skipped cs (comment c []) first.0 first.1 in
      let last = line_end s (suc second.0) in
      let none : length s ≤ last = outside s last (comment-rest second.0 [] c second.1 tt) in
      let same : between s at ≡ between s last = first.2 ∙ second.2 ∙ comment-skipped second.0 [] c second.1 in
      omega (arith, between-least s last)

  -- ---- where the text starts

  -- a comment line at the text's start
  module _ (c : Comment) (r : List ℕ) (e : s ≡ comment c r) (h : Stops is_line r) where
    start-comment : is_comment s 0 ≡ true
    unfolding is_comment
    start-comment = rw (eq-eqb (get_or s 0 0) 99 (byte s 0 99 (c.bytes ++ r) e))

    start-passed : between s 0 ≡ between s (line_end s 0)
    start-passed = between-skips 0 99 (c.bytes ++ r) e refl start-comment

    start-rest : drop (line_end s 0) s ≡ r
    start-rest = past-rest s 0 is_line (99 ∷ c.bytes) r e (refl, line-all c.bytes c.in_line) h

  pub start-skipped : (ks : List Comment) (x : List ℕ) → s ≡ comments ks x → Reaches 0 x
  start-skipped [] x e = (0, e, refl)
  start-skipped (c ∷ ks) x e =
      let later = comments-skipped ks x (line_end s 0) (start-rest c (10 ∷ comments ks x) e refl) in (
        suc later.0,
        behind s later.0 10 x later.1,
        start-passed c (10 ∷ comments ks x) e refl ∙ later.2 ∙ between-on later.0 10 x later.1 refl,
      )

  -- A text of comment lines alone, the last without its LF.
  pub comment-alone : (ks : List Comment) (c : Comment) → s ≡ comments ks (comment c []) → length s ≤ between s 0
  comment-alone [] c e =
      let none : length s ≤ line_end s 0 = outside s (line_end s 0) (start-rest c [] e tt) in
      omega (arith, start-passed c [] e tt, between-least s (line_end s 0))
  comment-alone (k ∷ ks) c e =
      let r : List ℕ = 10 ∷ comments ks (comment c []) in
      let second = comments-skipped ks (comment c []) (line_end s 0) (start-rest k r e refl) in
      let last = line_end s (suc second.0) in
      let none : length s ≤ last = outside s last (comment-rest second.0 [] c second.1 tt) in
      let same : between s 0 ≡ between s last = start-passed k r e refl ∙ second.2 ∙ comment-skipped second.0 [] c second.1 in
      omega (arith, between-least s last)

  pub start-ends : (ks : List Comment) (e : Ending) → s ≡ comments ks (ending e) → length s ≤ between s 0
  start-ends ks e q =
      let first = start-skipped ks (ending e) q in omega (arith, first.2, ending-passed e first.0 first.1)

  pub start-gap : (ks : List Comment) (g : List Piece) (x : List ℕ) → s ≡ comments ks (gap g x) → Fresh x → drop (between s 0) s ≡ x
  start-gap ks g x e h =
      let first = start-skipped ks (gap g x) e in
      ap (λ (p : ℕ). drop p s) first.2 ∙ gap-passed g x first.0 first.1 h

  -- ---- what is passed over is a gap, or the text's end

  pub data Between (at : ℕ) : Type 0 where
    parts : (g : List Piece) → drop at s ≡ gap g (drop (between s at) s) → Between at
    last : (g : List Piece) (cs : List Comment) (c : Comment) → drop at s ≡ gap g (10 ∷ comments cs (comment c [])) →
        length s ≤ between s at → Between at

  -- The same where a line starts.
  pub data Line (at : ℕ) : Type 0 where
    lines : (ks : List Comment) (g : List Piece) → drop at s ≡ comments ks (gap g (drop (between s at) s)) → Line at
    last_line : (ks : List Comment) (c : Comment) → drop at s ≡ comments ks (comment c []) → length s ≤ between s at → Line at
    later : (ks : List Comment) (g : List Piece) (cs : List Comment) (c : Comment) → drop at s
        ≡ comments ks (gap g (10 ∷ comments cs (comment c [])))
        → length s ≤ between s at → Line at

  rests : (at : ℕ) → between s at ≡ at → Between at
  rests at e = parts [] (sym (ap (λ (p : ℕ). drop p s) e))

  -- one piece more in front
  module _ (at b : ℕ) (r : List ℕ) (e : drop at s ≡ b ∷ r) (same : between s at ≡ between s (suc at)) where
    rest : drop at s ≡ b ∷ drop (suc at) s
    rest = e ∙ ap (λ (l : List ℕ). b ∷ l) (sym (behind s at b r e))

    blank-before : (x : Blank) → blank_byte x ≡ b → Between (suc at) → Between at
    blank-before x q (parts g h) =
        parts (blank x ∷ g) (rest ∙ ap₂ (λ (c : ℕ) (l : List ℕ). c ∷ l) (sym q) (h ∙ ap (λ (p : ℕ). gap g (drop p s)) (sym same)))
    blank-before x q (last g cs c h k) = last (blank x ∷ g) cs c (rest ∙ ap₂ (λ (d : ℕ) (l : List ℕ). d ∷ l) (sym q) h) (omega arith)

    line_before : b ≡ 10 → Line (suc at) → Between at
    line_before q (lines ks g h) =
        parts (new_line ks ∷ g) (rest ∙ ap₂ (λ (c : ℕ) (l : List ℕ). c ∷ l) q
        (h ∙ ap (λ (p : ℕ). comments ks (gap g (drop p s))) (sym same)))
    line_before q (last_line ks c h k) = last [] ks c (rest ∙ ap₂ (λ (d : ℕ) (l : List ℕ). d ∷ l) q h) (omega arith)
    line_before q (later ks g cs c h k) = last (new_line ks ∷ g) cs c (rest ∙ ap₂ (λ (d : ℕ) (l : List ℕ). d ∷ l) q h) (omega arith)

  -- no comment line more
  starts : (at : ℕ) → Between at → Line at
  starts at (parts g h) = lines [] g h
  starts at (last g cs c h k) = later [] g cs c h k

  -- one comment line more
  module _ (at to : ℕ) (c : Comment) (e : drop at s ≡ comment c (10 ∷ drop to s)) (same : between s at ≡ between s to) where
    comment-before : Line to → Line at
    comment-before (lines ks g h) =
        lines (c ∷ ks) g (e ∙ ap (λ (l : List ℕ). comment c (10 ∷ l)) (h ∙ ap (λ (p : ℕ). comments ks (gap g (drop p s))) (sym same)))
    comment-before (last_line ks d h k) = last_line (c ∷ ks) d (e ∙ ap (λ (l : List ℕ). comment c (10 ∷ l)) h) (omega arith)
    comment-before (later ks g cs d h k) = later (c ∷ ks) g cs d (e ∙ ap (λ (l : List ℕ). comment c (10 ∷ l)) h) (omega arith)

  -- behind another byte than LF no line starts
  inner : (at b : ℕ) (r : List ℕ) → drop at s ≡ b ∷ r → eqb b 10 ≡ false → is_comment s (suc at) ≡ false
  unfolding is_comment
  inner at b r e n =
      let z : suc at - 1 ≡ at = omega arith in
      let q : eqb (get_or s (suc at - 1) 0) 10 ≡ false = ap (λ (k : ℕ). eqb (get_or s k 0) 10) z
      ∙ ap (λ (c : ℕ). eqb c 10) (byte s at b r e)
      ∙ n in
      rw (ne_eqb (suc at) 0 (λ w. absurd (omega arith)), q) (booleans.and-false (eqb (get_or s (suc at) 0) 99))

  -- What is known of a place: what lies between, if no comment line starts there; and the same as at a line's start.
  abbrev Known : ℕ → Type 0
  Known at = (is_comment s at ≡ false → Between at) × Line at

  between_step : (at : ℕ) → Known (suc at) → is_comment s at ≡ false → (l : List ℕ) → drop at s ≡ l → Between at
  between_step at ih n [] e = rests at (between-rests at (past_end is_parting s at (outside s at e)) n)
  between_step at ih n (b ∷ r) e =
      by (is_parting b)
      (λ t. by (eqb b 10)
      (λ f. line_before at b r e (between-on at b r e t) (eqb-true b 10 f) ih.1)
      (λ f. let x = parting-of b t f in blank-before at b r e (between-on at b r e t) x.0 x.1 (ih.0 (inner at b r e f))))
      (λ t. rests at (between-rests at (stays at b r e t) n))

  -- The comment line at `at`, up to its end `to`.
  module _ (at : ℕ) (t : is_comment s at ≡ true) (ih : (later : ℕ) → at < later → Known later) where
    abbrev to : ℕ
    to = past is_line s (suc at)

    here : drop at s ≡ 99 ∷ drop (suc at) s
    here = drop-cons s at 0 (comment-inside s at t) ∙ ap (λ (b : ℕ). b ∷ drop (suc at) s) (comment-byte s at t)

    abbrev line : Comment
    line = record { bytes = slice (suc at) to s; in_line = line_of (slice (suc at) to s) (past_all s (suc at) is_line) }

    line-is : drop at s ≡ comment line (drop to s)
    line-is = here ∙ ap (λ (l : List ℕ). 99 ∷ l) (past_split s (suc at) is_line)

    line-ends : line_end s at ≡ to
    line-ends =
        past-go is_line s at (comment-inside s at t) (ap is_line (comment-byte s at t))
        ∙ ap (past is_line s) (add-one at)

    line-skipped : between s at ≡ between s to
    line-skipped = between-skips at 99 (drop (suc at) s) here refl t ∙ ap (between s) line-ends

    line-then : (l : List ℕ) → drop to s ≡ l → Stops is_line l → Line at
    line-then [] e h =
        let none : length s ≤ to = outside s to e in
        last_line [] line (line-is ∙ ap (comment line) e) (omega (arith, line-skipped, between-least s to))
    line-then (b ∷ r) e h =
        let q : b ≡ 10 = eqb-true b 10 (not-false (eqb b 10) h) in
        let next : drop to s ≡ 10 ∷ drop (suc to) s = e ∙ ap₂ (λ (d : ℕ) (l : List ℕ). d ∷ l) q (sym (behind s to b r e)) in
        comment-before at (suc to) line (line-is ∙ ap (comment line) next)
        (line-skipped ∙ between-on to 10 (drop (suc to) s) next refl) (ih (suc to) (omega (arith, past-least is_line s (suc at)))).1

  line_step : (at : ℕ) → (is_comment s at ≡ false → Between at) → ((later : ℕ) → at < later → Known later) → Line at
  line_step at none ih =
      by (is_comment s at)
      (λ t. line-then at t ih (drop (to at t ih) s) refl (past-stops s (suc at) is_line))
      (λ f. starts at (none f))

  known : (m at : ℕ) → length s ≤ at + m → Known at
  known zero at h =
      let none : length s ≤ at = omega arith in (
        λ n. rests at (between-rests at (past_end is_parting s at none) n),
        starts at (rests at (between-rests at (past_end is_parting s at none) (comment-not at none))),
      )
  known (suc m) at h =
      let here : is_comment s at ≡ false → Between at = λ n. between_step at (known m (suc at) (omega arith)) n (drop at s) refl in
      (here, line_step at here (λ later lt. known m later (omega arith)))

  no-token : (at : ℕ) (l : List ℕ) → drop at s ≡ l → Stops is_token l → is_comment s at ≡ false
  no-token at [] e h = comment-not at (outside s at e)
  no-token at (b ∷ r) e h = sym (other_byte s at (λ q. clash (sym (ap is_token (sym (byte s at b r e) ∙ q)) ∙ h)))

  -- The same from a line's start on, which the text's start is: comment lines first.
  pub line-of-start : (at : ℕ) → Line at
  line-of-start at = (known (length s) at (omega arith)).1

  -- What the reader passes over from a token's end on is a gap, or all that is left and a comment is its last line.
  pub between-of : (at : ℕ) → Stops is_token (drop at s) → Between at
  between-of at h = (known (length s) at (omega arith)).0 (no-token at (drop at s) refl h)
