-- What is worked out is the cause in numbers. An assignment's word is the word that it is of, where that has no variable beyond it.
-- Assumes nothing.
use mathlib.Core.Path.{◌≡◌, refl, sym, ap, ap₂, ◌∙◌}
use mathlib.Core.Bool.{Bool, false, true, cond}
use mathlib.Core.List.{List}
use mathlib.Core.Option.{none, some}
use Prim.Native.Nat.{ℕ, zero, suc, ◌+◌, ◌*◌, ◌^◌, ◌≤◌, ◌<◌}
use native.Mathlib.Omega.{arith}
use lib.ListN.{length}
use Rattle.meaning.specs.Operations.{Literal}
use Rattle.meaning.specs.Words.{in_word, truth_from, assignment_of}
use Rattle.verdict.specs.Check.{zeros}
use Rattle.causes.specs.Causes.{plain, variables, assignment, fixed}
use Rattle.causes.specs.Answers.{word_from, fixed_as, word_of, told}
use Rattle.traces.proofs.Units.{word-is}
use Rattle.command_causes.specs.Causes.{told_by, of_numbers, of_rounds}

-- ---- the word of an assignment

-- No variable from i on: no word.
none_from : (k i : ℕ) (S : ℕ → Bool) → ((v : ℕ) → i ≤ v → S v ≡ false) → word_from k i S ≡ 0
unfolding word_from
none_from zero i S no_more = refl
none_from (suc k) i S no_more =
    ap₂ (λ (b : Bool) (w : ℕ). cond b 1 0 + 2 * w) (no_more i (omega arith)) (none_from k (suc i) S (λ v h. no_more v (omega arith)))

-- The variables beyond the n first add nothing.
fewer : (n k i : ℕ) (S : ℕ → Bool) → n ≤ k → ((v : ℕ) → i + n ≤ v → S v ≡ false) → word_from k i S ≡ word_from n i S
unfolding word_from
fewer zero k i S h no_more = none_from k i S (λ v q. no_more v (omega arith))
fewer (suc n) zero i S h no_more = absurd (omega arith)
fewer (suc n) (suc k) i S h no_more =
    ap (λ (w : ℕ). cond (S i) 1 0 + 2 * w) (fewer n k (suc i) S (omega arith) (λ v q. no_more v (omega arith)))

of-truth : (k i w : ℕ) → word_of (truth_from i k w) ≡ word_from k i (in_word w)
unfolding word_of truth_from word_from
of-truth zero i w = refl
of-truth (suc k) i w = ap (λ (x : ℕ). cond (in_word w i) 1 0 + 2 * x) (of-truth k (suc i) w)

one_more : (j : ℕ) → suc j ≡ 1 + j
one_more j = omega arith

pub word-again : (n w : ℕ) → n ≤ 64 → w < 2 ^ 64 → ((v : ℕ) → n < v → in_word w v ≡ false) → w ≡ word_of (assignment_of n w)
word-again n w h lt no_more =
    word-is 64 1 (in_word w) w lt (λ j q. ap (in_word w) (one_more j))
    ∙ fewer n 64 1 (in_word w) h (λ v q. no_more v (omega arith))
    ∙ sym (of-truth n 1 w)

-- ---- the cause in numbers

module _ (m : ℕ) (words : List ℕ) where
  pub told-variables : (v w : ℕ) → words ≡ zeros m → told_by (of_numbers v w 0) words ≡ told m (variables v w)
  unfolding told
  told-variables v w e = ap (told_by (of_numbers v w 0)) e

  pub told-plain : words ≡ zeros m → told_by (of_numbers 0 0 0) words ≡ told m plain
  unfolding told
  told-plain e = ap (told_by (of_numbers 0 0 0)) e

  pub told-word : (n w : ℕ) → n ≤ 64 → w < 2 ^ 64 → ((v : ℕ) → n < v → in_word w v ≡ false) → words ≡ zeros m →
      told_by (of_numbers 0 0 w) words ≡ told m (assignment (assignment_of n w))
  unfolding told
  told-word n w h lt no_more e =
      ap₂ (λ (x : ℕ) (ws : List ℕ). told_by (of_numbers 0 0 x) ws) (word-again n w h lt no_more) e

  module _ (rounds : ℕ) (ls : List (List Literal)) (many : rounds ≡ length ls) (kept : length words ≡ m) (are : words
      ≡ fixed_as (length words) ls) where
    words_are : words ≡ fixed_as m ls
    words_are = are ∙ ap (λ (k : ℕ). fixed_as k ls) kept

    pub told-rounds : told_by (of_rounds rounds false 0) words ≡ told m (fixed ls none)
    unfolding told
    told-rounds = ap₂ (λ (k : ℕ) (ws : List ℕ). told_by (of_rounds k false 0) ws) many words_are

    pub told-turn : (i : ℕ) → told_by (of_rounds rounds true i) words ≡ told m (fixed ls (some i))
    unfolding told
    told-turn i = ap₂ (λ (k : ℕ) (ws : List ℕ). told_by (of_rounds k true i) ws) many words_are
