-- The diagram of two words is the clause from its greatest variable to its least; it is 1 where a variable has both signs. The idea: the
-- same values. Assumes nothing.
use mathlib.Core.Path.{◌≡◌, refl, sym, ◌∙◌}
use mathlib.Core.Bool.{Bool, true, false, not, ◌&&◌, ◌||◌, cond}
use Prim.Native.Nat.{ℕ, zero, suc, ◌+◌, ◌≤◌}
use native.Mathlib.Omega.{arith}
use native.Mathlib.Decide.{ℕ_discrete}
use Rattle.meaning.specs.Diagram.{Assignment, holds, Diagram, leaf, node, branch, value}
use Rattle.meaning.specs.Reduced.{Reduced}
use Rattle.meaning.specs.Words.{in_word}
use Rattle.meaning.proofs.Booleans.{t≢f, both_ways, or_cases, or_left, or_right, and_commutes}
use Rattle.meaning.proofs.Canonical.{branch_same, branch_differ}
use Rattle.meaning.proofs.Values.{diagram-is}
use Rattle.meaning.proofs.Clauses.{clause_from, clause_from-reduced, clause_from-true, true-clause_from, clause-tautology}
use Rattle.words.specs.declared.Literals.{Literals}
use Rattle.words.specs.Sets.{shares}
use Rattle.words.proofs.Variables.{shares-found, shares-apart}
use Rattle.clause.specs.Words.{words_value, clause_of_words}

-- the literal of a variable that the assignment makes true
literal-is : (p n h : Bool) → ((p && h) || (n && not h)) ≡ cond h p n
literal-is true true true = refl
literal-is true false true = refl
literal-is false true true = refl
literal-is false false true = refl
literal-is true true false = refl
literal-is true false false = refl
literal-is false true false = refl
literal-is false false false = refl

module _ (u : Literals) where
  abbrev p : ℕ
  p = u.positive

  abbrev n : ℕ
  n = u.negative

  -- the clause of the variables from i on, k of them
  abbrev pub clause_words : ℕ → ℕ → Diagram
  clause_words k i = clause_from (in_word p) (in_word n) k i

  module _ (a : Assignment) where
    words_step : (k : ℕ) → words_value u (suc k) a ≡ (cond (holds a (suc k)) (in_word p (suc k)) (in_word n (suc k)) || words_value u k a)
    unfolding words_value
    words_step k = rw (literal-is (in_word p (suc k)) (in_word n (suc k)) (holds a (suc k)))

    words-true : (k v : ℕ) → 1 ≤ v → v ≤ k → cond (holds a v) (in_word p v) (in_word n v) ≡ true → words_value u k a ≡ true
    words-true zero v x y e = absurd (omega arith)
    words-true (suc k) v x y e = words_step k ∙ go (ℕ_discrete v (suc k)) (λ ne. words-true k v x (omega arith) e)
      where
        go : Dec (v ≡ suc k) → ((v ≡ suc k → ⊥) → words_value u k a ≡ true) →
            (cond (holds a (suc k)) (in_word p (suc k)) (in_word n (suc k)) || words_value u k a) ≡ true
        go (yes q) ih = or_left (cond (holds a (suc k)) (in_word p (suc k)) (in_word n (suc k))) (words_value u k a) (rw (← q) e)
        go (no ne) ih = or_right (cond (holds a (suc k)) (in_word p (suc k)) (in_word n (suc k))) (words_value u k a) (ih ne)

    true-words : {A : Type 0} (k : ℕ) → words_value u k a ≡ true →
        ((v : ℕ) → 1 ≤ v → v ≤ k → cond (holds a v) (in_word p v) (in_word n v) ≡ true → A) → A
    unfolding words_value
    true-words zero e f = t≢f (sym e)
    true-words (suc k) e f =
        or_cases (cond (holds a (suc k)) (in_word p (suc k)) (in_word n (suc k))) (words_value u k a) (sym (words_step k) ∙ e)
        (λ t. f (suc k) (omega arith) (omega arith) t) (λ t. true-words k t (λ v x y. f v x (omega arith)))

  pub words-reduced : (k i : ℕ) → i + k ≡ 65 → Reduced i 65 (clause_words k i)
  words-reduced k i e = clause_from-reduced (in_word p) (in_word n) k i 65 (sym e)

  pub words_are : clause_of_words u ≡ clause_words 64 1
  unfolding clause_of_words
  words_are = diagram-is 64 (words_value u 64) (clause_words 64 1) (words-reduced 64 1 refl) λ a len.
      both_ways (words_value u 64 a) (value (clause_words 64 1) a)
      (λ t. true-words a 64 t (λ v x y e. clause_from-true (in_word p) (in_word n) a 64 1 v x (omega arith) e))
      (λ t. true-clause_from (in_word p) (in_word n) a 64 1 t (λ v x y e. words-true a 64 v x (omega arith) e))

  -- "a clause with both signs is the diagram 1" (01, The formula)
  pub both-signs : shares 64 p n ≡ true → clause_of_words u ≡ leaf true
  both-signs e = words_are ∙ shares-found 64 p n e λ v x y a b. clause-tautology (in_word p) (in_word n) 64 1 v x (omega arith) a b

  -- no variable has both
  pub one-sign : shares 64 p n ≡ false → (v : ℕ) → 1 ≤ v → v ≤ 64 → (in_word n v && in_word p v) ≡ false
  one-sign e v lo hi = and_commutes (in_word n v) (in_word p v) ∙ shares-apart 64 p n e v lo hi

  -- and then it is not 1
  not-one-from : shares 64 p n ≡ false → (k i : ℕ) → 1 ≤ i → i + k ≡ 65 → clause_words k i ≡ leaf true → ⊥
  unfolding clause_from
  not-one-from apart zero i lo e q = let z : ◌≡◌ {A = Bool} false true = cc in t≢f (sym z)
  not-one-from apart (suc k) i lo e q =
      go (in_word n i) (in_word p i) (one-sign apart i lo (omega arith)) (clause_words k (suc i))
      (not-one-from apart k (suc i) (omega arith) (omega arith)) q
    where
      go : (low high : Bool) → (low && high) ≡ false → (rest : Diagram) → (rest ≡ leaf true → ⊥) →
          branch i (cond low (leaf true) rest) (cond high (leaf true) rest) ≡ leaf true → ⊥
      go true true d rest ne q = t≢f d
      go true false d rest ne q =
          let r : node i (leaf true) rest ≡ leaf true = sym (branch_differ i (leaf true) rest (λ e. ne (sym e))) ∙ q in
          let z : ◌≡◌ {A = ℕ} 0 1 = cc in omega arith
      go false true d rest ne q =
          let r : node i rest (leaf true) ≡ leaf true = sym (branch_differ i rest (leaf true) ne) ∙ q in
          let z : ◌≡◌ {A = ℕ} 0 1 = cc in omega arith
      go false false d rest ne q = ne (sym (branch_same i rest rest refl) ∙ q)

  pub not-one : shares 64 p n ≡ false → clause_of_words u ≡ leaf true → ⊥
  not-one apart q = not-one-from apart 64 1 (omega arith) refl (sym words_are ∙ q)
