-- The two words of a clause's witness have just the literals that the witness sets. The idea: variable by variable and sign by sign.
-- Assumes nothing.
use mathlib.Core.Path.{◌≡◌, refl, sym, ap, ◌∙◌, subst}
use mathlib.Core.Bool.{Bool, true, false, not, ◌&&◌, ◌||◌, beq}
use mathlib.Core.List.{List, [], ◌∷◌}
use Prim.Native.Nat.{ℕ, ◌+◌, ◌-◌, ◌≤◌}
use native.Mathlib.Omega.{arith}
use native.Mathlib.Decide.{ℕ_discrete}
use lib.Dec.{eqb, ltb, leb}
use borrow.Author.Tests.{eq-eqb, ne_eqb, le-ltb, le-leb, lt-leb, ltb-false}
use Rattle.meaning.specs.Operations.{Literal}
use Rattle.meaning.specs.Words.{in_word}
use Rattle.meaning.proofs.Booleans.{t≢f, both_ways, and_both, or_cases, or_left, or_right}
use Rattle.meaning.proofs.Clauses.{occurs}
use Rattle.meaning.specs.Literals.{OfVariables}
use Rattle.words.specs.declared.Literals.{Literals}
use Rattle.words.specs.Sets.{literals_of, with_variable, without as without-word, has as Has-word}
use Rattle.words.proofs.Variables.{in_without}
use Rattle.words.proofs.LiteralSets.{in-set}
use Rattle.clausal.specs.Literals.{Clause, literal, negated, alike, has, without}
use Rattle.clausal.specs.Tries.{makes_true, makes_false, witness}
use Rattle.clausal.proofs.Literals.{alike-eq, eq-alike, negated-twice, has_here, has-cases, has_there, negations, has-negation}
use Rattle.clausal.proofs.Literals.{negation-has, has-without, without-has}
use Rattle.tries.specs.Words.{witness_words}
use Rattle.words.proofs.LiteralSets.{in-with}

-- ---- the literals that a witness sets

pub has-occurs : (ls : List Literal) (v : ℕ) (s : Bool) → has ls (literal v s) ≡ occurs ls v s
unfolding has alike occurs
has-occurs [] v s = refl
has-occurs (l ∷ ls) v s = ap (◌||◌ (eqb l.variable v && beq l.positive s)) (has-occurs ls v s)

-- a literal is the pivot, or another one's negation
sets : (p l : Literal) (c : Clause) → has (witness p c) l ≡ (alike p l || (has c (negated l) && not (alike (negated l) p)))
unfolding has
sets p l c = both_ways (has (witness p c) l) (alike p l || (has c (negated l) && not (alike (negated l) p))) only all
  where
    only : has (witness p c) l ≡ true → (alike p l || (has c (negated l) && not (alike (negated l) p))) ≡ true
    only h = has-cases p (negations (without p c)) l h
        (λ e. or_left (alike p l) (has c (negated l) && not (alike (negated l) p)) (eq-alike p l e))
        (λ x. let (y, ne) = without-has p c (negated l) (negation-has (without p c) l x) in
        or_right (alike p l) (has c (negated l) && not (alike (negated l) p)) (go y (alike (negated l) p) refl ne))
      where
        go : has c (negated l) ≡ true → (b : Bool) → alike (negated l) p ≡ b → (negated l ≡ p → ⊥) →
            (has c (negated l) && not (alike (negated l) p)) ≡ true
        go y true e ne = absurd (ne (alike-eq (negated l) p e))
        go y false e ne = rw (y, e) refl

    all : (alike p l || (has c (negated l) && not (alike (negated l) p))) ≡ true → has (witness p c) l ≡ true
    all h = or_cases (alike p l) (has c (negated l) && not (alike (negated l) p)) h
        (λ e. subst (λ (m : Literal). has (witness p c) m ≡ true) (alike-eq p l e) (has_here p (negations (without p c))))
        (λ x. let (y, ne) = and_both (has c (negated l)) (not (alike (negated l) p)) x in
        has_there p (negations (without p c)) l
        (subst (λ (m : Literal). has (negations (without p c)) m ≡ true) (negated-twice l)
        (has-negation (without p c) (negated l)
        (has-without p c (negated l) y (λ q. differ (alike (negated l) p) (eq-alike (negated l) p q) ne)))))
      where
        differ : (b : Bool) → b ≡ true → not b ≡ true → ⊥
        differ true e f = t≢f (sym f)
        differ false e f = t≢f (sym e)

-- ---- the words

-- a word with one variable more, and without it
beside : (v x : ℕ) → (ltb v x || leb (x + 1) v) ≡ not (eqb v x)
beside v x = go (ℕ_discrete v x)
  where
    go : Dec (v ≡ x) → (ltb v x || leb (x + 1) v) ≡ not (eqb v x)
    go (yes e) = rw (eq-eqb v x e, le-ltb v x (omega arith), lt-leb (x + 1) v (omega arith)) refl
    go (no ne) = rw (ne_eqb v x ne) (order v x ne)
      where
        order : (v x : ℕ) → (v ≡ x → ⊥) → (ltb v x || leb (x + 1) v) ≡ true
        order v x ne = both (ltb v x) refl
          where
            both : (b : Bool) → ltb v x ≡ b → (ltb v x || leb (x + 1) v) ≡ true
            both true e = rw e refl
            both false e = or_right (ltb v x) (leb (x + 1) v) (le-leb (x + 1) v (omega (arith, ne, ltb-false v x e)))

swapped : (a e f : Bool) → (a || e) ≡ ((e && true) || (a && not (f && false)))
swapped true true true = refl
swapped true true false = refl
swapped true false true = refl
swapped true false false = refl
swapped false true f = refl
swapped false false f = refl

left_out : (a e f : Bool) → (a && not f) ≡ ((e && false) || (a && not (f && true)))
left_out true true true = refl
left_out true true false = refl
left_out true false true = refl
left_out true false false = refl
left_out false true f = refl
left_out false false f = refl

module _ (n : ℕ) (c : Clause) (w : OfVariables n c) (narrow : n ≤ 64) (x : ℕ) (lo : 1 ≤ x) (hi : x ≤ 64) (v : ℕ) (one : 1 ≤ v)
    (most : v ≤ 64) where
  positives : in_word (literals_of c).positive v ≡ has c (literal v true)
  unfolding Has-word
  positives = in-set n c v true w one ∙ sym (has-occurs c v true)

  negatives : in_word (literals_of c).negative v ≡ has c (literal v false)
  unfolding Has-word
  negatives = in-set n c v false w one ∙ sym (has-occurs c v false)

  without_is : (u : ℕ) → in_word (without-word 64 u x (x + 1)) v ≡ (in_word u v && not (eqb v x))
  without_is u = in_without 64 u x (x + 1) v lo (omega arith) (omega arith) one most ∙ ap (◌&&◌ (in_word u v)) (beside v x)

  -- THEOREM: the words have just what the witness sets.
  pub witness-true : (b : Bool) → in_word (witness_words (literals_of c) x b).positive v ≡ makes_true (witness (literal x b) c) v
  unfolding witness_words alike
  witness-true true = in-with (literals_of c).negative x v lo one ∙ rw (negatives) (swapped (has c (literal v false)) (eqb x v) (eqb v x))
      ∙ sym (sets (literal x true) (literal v true) c)
  witness-true false = without_is (literals_of c).negative ∙ rw (negatives) (left_out (has c (literal v false)) (eqb x v) (eqb v x))
      ∙ sym (sets (literal x false) (literal v true) c)

  pub witness-false : (b : Bool) → in_word (witness_words (literals_of c) x b).negative v ≡ makes_false (witness (literal x b) c) v
  unfolding witness_words alike
  witness-false false = in-with (literals_of c).positive x v lo one ∙ rw (positives) (swapped (has c (literal v true)) (eqb x v) (eqb v x))
      ∙ sym (sets (literal x false) (literal v false) c)
  witness-false true = without_is (literals_of c).positive ∙ rw (positives) (left_out (has c (literal v true)) (eqb x v) (eqb v x))
      ∙ sym (sets (literal x true) (literal v false) c)

-- ---- the code's answers

module _ (u : Literals) (v : ℕ) (sign : Bool) (p q : ℕ) where
  pub words-true : sign ≡ true → p ≡ with_variable u.negative v → q ≡ without-word 64 u.positive v (v + 1) →
      record { positive = p; negative = q } ≡ witness_words u v sign
  unfolding witness_words
  words-true e a b = rw (e, a, b) refl

  pub words-false : sign ≡ false → p ≡ without-word 64 u.negative v (v + 1) → q ≡ with_variable u.positive v →
      record { positive = p; negative = q } ≡ witness_words u v sign
  unfolding witness_words
  words-false e a b = rw (e, a, b) refl
