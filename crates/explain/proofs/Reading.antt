-- How the numbers of an answer are read: they are those of the explanation's cause; the words at the places 2 r and 2 r + 1 have just the
-- literals of round r; 18's word is the assignment. The idea: a word is taken digit by digit. Assumes nothing.
use mathlib.Core.Path.{◌≡◌, refl, sym, ap, ap₂, ◌∙◌}
use mathlib.Core.Bool.{Bool, true, false, ◌&&◌, cond}
use mathlib.Core.List.{List, [], ◌∷◌, ◌++◌}
use Prim.Native.Nat.{ℕ, zero, suc, ◌+◌, ◌-◌, ◌*◌, ◌/◌, ◌%◌, ◌^◌, ◌≤◌, ◌<◌}
use native.Mathlib.Nat.{div-div-eq-div-mul, div-one}
use native.Mathlib.Omega.{arith}
use lib.ListN.{length, get_or}
use lib.Dec.{eqb, leb}
use Rattle.meaning.specs.Diagram.{Assignment}
use Rattle.meaning.specs.Operations.{Literal}
use Rattle.meaning.specs.Words.{in_word, truth_from, assignment_of}
use Rattle.table.specs.Columns.{Columns}
use Rattle.clausal.specs.Tries.{makes_true, makes_false}
use Rattle.commands.specs.declared.Mode.{Mode}
use Rattle.verdict.specs.Check.{lent_fits}
use Rattle.causes.specs.Explanation.{explanation}
use Rattle.causes.specs.Answers.{word_from, true_word, false_word, fixed_words, word_of, told, WhyOutcome, why}

-- ---- digits

in_top : (b : Bool) (w : ℕ) → in_word (cond b 1 0 + 2 * w) 1 ≡ b
unfolding in_word
in_top b w = ap (λ (x : ℕ). eqb (x % 2) 1) (div-one (cond b 1 0 + 2 * w)) ∙ go b
  where
    go : (b : Bool) → eqb ((cond b 1 0 + 2 * w) % 2) 1 ≡ b
    go true = ap (λ (x : ℕ). eqb x 1) (odd w)
      where
        odd : (w : ℕ) → (1 + 2 * w) % 2 ≡ 1
        odd w = omega arith
    go false = ap (λ (x : ℕ). eqb x 1) (even w)
      where
        even : (w : ℕ) → (0 + 2 * w) % 2 ≡ 0
        even w = omega arith

half : (b : Bool) (w : ℕ) → (cond b 1 0 + 2 * w) / 2 ≡ w
half true w = omega arith
half false w = omega arith

in_rest : (b : Bool) (w v : ℕ) → 1 ≤ v → in_word (cond b 1 0 + 2 * w) (suc v) ≡ in_word w v
unfolding in_word
in_rest b w v least =
    let twice : 2 ^ (suc v - 1) ≡ 2 * 2 ^ (v - 1) = power v least in
    ap (λ (x : ℕ). eqb (x % 2) 1)
    (ap (λ (x : ℕ). (cond b 1 0 + 2 * w) / x) twice ∙ sym (div-div-eq-div-mul (cond b 1 0 + 2 * w) 2 (2 ^ (v - 1)))
    ∙ ap (λ (x : ℕ). x / 2 ^ (v - 1)) (half b w))
  where
    power : (v : ℕ) → 1 ≤ v → 2 ^ (suc v - 1) ≡ 2 * 2 ^ (v - 1)
    power zero h = absurd (omega (arith, h))
    power (suc k) h =
        let a : suc (suc k) - 1 ≡ suc k = omega arith in
        let c : suc k - 1 ≡ k = omega arith in
        let d : 2 ^ suc k ≡ 2 * 2 ^ k = omega arith in rw (a, c) d

-- ---- a round's literals

in-from : (k i : ℕ) (S : ℕ → Bool) (j : ℕ) → j < k → in_word (word_from k i S) (suc j) ≡ S (i + j)
unfolding word_from
in-from zero i S j h = absurd (omega (arith, h))
in-from (suc k) i S zero h = in_top (S i) (word_from k (suc i) S) ∙ ap S (stay i)
  where
    stay : (i : ℕ) → i ≡ i + 0
    stay i = omega arith
in-from (suc k) i S (suc j) h =
    in_rest (S i) (word_from k (suc i) S) (suc j) (omega arith) ∙ in-from k (suc i) S j (omega (arith, h)) ∙ ap S (shift i j)
  where
    shift : (i j : ℕ) → suc i + j ≡ i + suc j
    shift i j = omega arith

in-sixty-four : (S : ℕ → Bool) (v : ℕ) → 1 ≤ v → v ≤ 64 → in_word (word_from 64 1 S) v ≡ S v
in-sixty-four S zero least most = absurd (omega (arith, least))
in-sixty-four S (suc j) least most = in-from 64 1 S j (omega (arith, most)) ∙ ap S (next j)
  where
    next : (j : ℕ) → 1 + j ≡ suc j
    next j = omega arith

-- THEOREM: of a round's two words the first has the variables that its literals make true, the second those that they make false.
pub round-true : (ls : List Literal) (v : ℕ) → 1 ≤ v → v ≤ 64 → in_word (true_word ls) v ≡ makes_true ls v
round-true ls v least most = in-sixty-four (makes_true ls) v least most

pub round-false : (ls : List Literal) (v : ℕ) → 1 ≤ v → v ≤ 64 → in_word (false_word ls) v ≡ makes_false ls v
round-false ls v least most = in-sixty-four (makes_false ls) v least most

-- THEOREM: round r has the words at the places 2 r and 2 r + 1.
module _ (tail : List ℕ) where
  pub true-at : (rounds : List (List Literal)) (r : ℕ) → r < length rounds → get_or (fixed_words rounds ++ tail) (2 * r) 0
      ≡ true_word (get_or rounds r [])
  unfolding fixed_words
  true-at [] r h = absurd (omega (arith, h))
  true-at (ls ∷ rounds) zero h = refl
  true-at (ls ∷ rounds) (suc r) h = ap (λ (j : ℕ). get_or (true_word ls ∷ false_word ls ∷ (fixed_words rounds ++ tail)) j 0) (two r)
      ∙ true-at rounds r (omega (arith, h))
    where
      two : (r : ℕ) → 2 * suc r ≡ suc (suc (2 * r))
      two r = omega arith

  pub false-at : (rounds : List (List Literal)) (r : ℕ) → r < length rounds → get_or (fixed_words rounds ++ tail) (2 * r + 1) 0
      ≡ false_word (get_or rounds r [])
  unfolding fixed_words
  false-at [] r h = absurd (omega (arith, h))
  false-at (ls ∷ rounds) zero h = refl
  false-at (ls ∷ rounds) (suc r) h = ap (λ (j : ℕ). get_or (true_word ls ∷ false_word ls ∷ (fixed_words rounds ++ tail)) j 0) (two r)
      ∙ false-at rounds r (omega (arith, h))
    where
      two : (r : ℕ) → 2 * suc r + 1 ≡ suc (suc (2 * r + 1))
      two r = omega arith

-- ---- an assignment

truth-next : (i k : ℕ) (b : Bool) (w : ℕ) → 1 ≤ i → truth_from (suc i) k (cond b 1 0 + 2 * w) ≡ truth_from i k w
unfolding truth_from
truth-next i zero b w least = refl
truth-next i (suc k) b w least = ap₂ ◌∷◌ (in_rest b w i least) (truth-next (suc i) k b w (omega arith))

-- THEOREM: 18's word is the assignment.
pub word-assignment : (a : Assignment) → assignment_of (length a) (word_of a) ≡ a
unfolding word_of truth_from
word-assignment [] = refl
word-assignment (b ∷ a) = ap₂ ◌∷◌ (in_top b (word_of a)) (truth-next 1 (length a) b (word_of a) (omega arith) ∙ word-assignment a)

-- ---- the call

-- THEOREM: where nothing is of wrong size, the answer's numbers are those of the explanation's cause.
pub why-told : (mode : Mode) (c : Columns) (count : ℕ) (members struck scratch words text proof : List ℕ)
    → (leb 128 (length words) && lent_fits c members struck scratch) ≡ true →
    (why mode c count members struck scratch words text proof).told
    ≡ told (length words) (explanation mode (length c.vars) text proof).cause
unfolding why
why-told mode c count members struck scratch words text proof fits = ap (λ (o : WhyOutcome). o.told) (chosen _ _ _ fits)
  where
    chosen : (t : Bool) (x y : WhyOutcome) → t ≡ true → cond t x y ≡ x
    chosen true x y e = refl
    chosen false x y e = let z : ◌≡◌ {A = ℕ} 0 1 = cc in absurd (omega arith)
