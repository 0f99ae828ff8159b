-- What is left of a clause where the literals of an assignment are true and none of its own is: the clause of the literals that are not
-- false. It is not 1 if the clause has no both signs. The idea: the same values. Assumes nothing.
use mathlib.Core.Path.{◌≡◌, refl, sym, ap, ◌∙◌, subst}
use mathlib.Core.Logic.{◌≢◌}
use mathlib.Core.Bool.{Bool, true, false, not, ◌||◌, cond, beq}
use mathlib.Core.List.{List, [], ◌∷◌}
use Prim.Native.Nat.{ℕ, suc, ◌≤◌}
use native.Mathlib.Omega.{arith}
use lib.ListN.{length, replicate, length-replicate}
use Rattle.meaning.specs.Diagram.{Assignment, holds, Diagram, leaf, same, value_from, value}
use Rattle.meaning.specs.Operations.{Literal, literal_value, clause_value, clause}
use Rattle.meaning.proofs.Booleans.{t≢f, not-true, or_cases}
use Rattle.meaning.proofs.Canonical.{unique}
use Rattle.meaning.proofs.Pointwise.{forced-length, clause-value, clause-reduced}
use Rattle.meaning.proofs.PointwiseSteps.{literals-none}
use Rattle.meaning.proofs.Units.{same-eq, eq-same}
use Rattle.meaning.specs.Literals.{OfVariables}
use Rattle.clausal.specs.Drat.{Plain}
use Rattle.clausal.specs.Literals.{Clause, negated, has}
use Rattle.clausal.specs.Tries.{makes_true, makes_false}
use Rattle.clausal.proofs.Literals.{has_here, has-cases, has_there, negations, has-negation, negations-plain, has_within}
use Rattle.clausal.proofs.Under.{forced_by, under, under-value, under-reduced, false-there, same-there, clause-some, clause-none}
use Rattle.clausal.proofs.Under.{under-true}

-- the literals that are not false
unfoldable pub rest : List Literal → Clause → Clause
rest α [] = []
rest α (l ∷ c) = cond (has α (negated l)) (rest α c) (l ∷ rest α c)

pub has_rest : (α : List Literal) (c : Clause) (k : Literal) → has c k ≡ true → has α (negated k) ≡ false → has (rest α c) k ≡ true
unfolding rest has
has_rest α [] k h f = h
has_rest α (j ∷ c) k h f = go (has α (negated j)) refl (has_rest α c k)
  where
    go : (b : Bool) → has α (negated j) ≡ b → (has c k ≡ true → has α (negated k) ≡ false → has (rest α c) k ≡ true) →
        has (cond b (rest α c) (j ∷ rest α c)) k ≡ true
    go true e ih = has-cases j c k h (λ q. t≢f (sym e ∙ ap (λ (m : Literal). has α (negated m)) q ∙ f)) (λ x. ih x f)
    go false e ih = has-cases j c k h (λ q. subst (λ (m : Literal). has (j ∷ rest α c) m ≡ true) q (has_here j (rest α c)))
        (λ x. has_there j (rest α c) k (ih x f))

pub rest_has : (α : List Literal) (c : Clause) (k : Literal) → has (rest α c) k ≡ true → (has c k ≡ true) × (has α (negated k) ≡ false)
unfolding rest has
rest_has α [] k h = t≢f (sym h)
rest_has α (j ∷ c) k h = go (has α (negated j)) refl h (rest_has α c k)
  where
    go : (b : Bool) → has α (negated j) ≡ b → has (cond b (rest α c) (j ∷ rest α c)) k ≡ true →
        (has (rest α c) k ≡ true → (has c k ≡ true) × (has α (negated k) ≡ false))
        → (has (j ∷ c) k ≡ true) × (has α (negated k) ≡ false)
    go true e h ih = let (x, f) = ih h in (has_there j c k x, f)
    go false e h ih = has-cases j (rest α c) k h
        (λ q. (subst (λ (m : Literal). has (j ∷ c) m ≡ true) q (has_here j c), subst (λ (m : Literal). has α (negated m) ≡ false) q e))
        (λ x. let (y, f) = ih x in (has_there j c k y, f))

pub rest-within : (n : ℕ) (α : List Literal) (c : Clause) → OfVariables n c → OfVariables n (rest α c)
unfolding rest
rest-within n α [] w = tt
rest-within n α (l ∷ c) w = go (has α (negated l)) (rest-within n α c w.2)
  where
    go : (b : Bool) → OfVariables n (rest α c) → OfVariables n (cond b (rest α c) (l ∷ rest α c))
    go true r = r
    go false r = (w.0, w.1, r)

-- a clause that is 1 has a literal that is true
found : (c : Clause) (a : Assignment) → clause_value c a ≡ true → (k : Literal) × (has c k ≡ true) × (literal_value k a ≡ true)
unfolding clause_value
found [] a e = t≢f (sym e)
found (l ∷ c) a e = or_cases (literal_value l a) (clause_value c a) e (λ t. (l, has_here l c, t))
    (λ t. let (k, h, x) = found c a t in (k, has_there l c k h, x))

-- ---- a clause under an assignment that makes none of its literals true

module _ (n : ℕ) (α : List Literal) (plain : Plain α) (c : Clause) (w : OfVariables n c) where
  pub under_one : (k : Literal) → has c k ≡ true → has α k ≡ true → under n α c ≡ leaf true
  unfolding value_from
  under_one k h t = unique n 1 (suc n) (under n α c) (leaf true) (omega arith) (under-reduced n α c) tt
      (λ a len. under-true n α plain c w k h t a len)

  module _ (none : (k : Literal) → has c k ≡ true → has α k ≡ false) where
    -- it is the clause of the literals that are not false
    pub under_rest : under n α c ≡ clause n (rest α c)
    under_rest =
        unique n 1 (suc n) (under n α c) (clause n (rest α c)) (omega arith) (under-reduced n α c) (clause-reduced n (rest α c)) λ a len.
        under-value n α c a len ∙ go a len (clause_value (rest α c) a) refl ∙ sym (clause-value n a len (rest α c))
      where
        -- a literal of the rest has its own value
        own : (a : Assignment) → length a ≡ n → (k : Literal) → has (rest α c) k ≡ true → literal_value k (forced_by α a)
            ≡ literal_value k a
        own a len k h =
            let (x, f) = rest_has α c k h in
            let r : (1 ≤ k.variable) × (k.variable ≤ n) = has_within n c k w x in
            same-there n α plain a len k r.0 r.1 (none k x) f

        -- a literal of the clause that is true is one of the rest
        one : (a : Assignment) → length a ≡ n → clause_value (rest α c) a ≡ false → (k : Literal) → has c k ≡ true →
            literal_value k (forced_by α a) ≡ false
        one a len z k h = here (has α (negated k)) refl
          where
            r : (1 ≤ k.variable) × (k.variable ≤ n)
            r = has_within n c k w h

            here : (b : Bool) → has α (negated k) ≡ b → literal_value k (forced_by α a) ≡ false
            here true e = false-there n α plain a len k r.0 r.1 e
            here false e = not-true (literal_value k (forced_by α a))
                (λ t. t≢f (sym (clause-some (rest α c) a k (has_rest α c k h e) (sym (own a len k (has_rest α c k h e)) ∙ t)) ∙ z))

        go : (a : Assignment) → length a ≡ n → (b : Bool) → clause_value (rest α c) a ≡ b → clause_value c (forced_by α a) ≡ b
        go a len true e = let (k, h, t) = found (rest α c) a e in clause-some c (forced_by α a) k (rest_has α c k h).0 (own a len k h ∙ t)
        go a len false e = clause-none c (forced_by α a) (one a len e)

    -- it is not 1, for its own literals can all be made false
    pub not-one : Plain c → under n α c ≢ leaf true
    unfolding value_from
    not-one pc e =
        let a : Assignment = replicate n false in
        let len : length a ≡ n = length-replicate n false in
        let b : Assignment = forced_by (negations c) a in
        let long : length b ≡ n = forced-length (makes_true (negations c)) (makes_false (negations c)) 1 a ∙ len in
        t≢f (sym (ap (λ (f : Diagram). value f b) e) ∙ under-value n α c b long
        ∙ clause-none c (forced_by α b) (λ k h. off a len b long refl k h (has α (negated k)) refl))
      where
        off : (a : Assignment) → length a ≡ n → (b : Assignment) → length b ≡ n → b ≡ forced_by (negations c) a → (k : Literal) → has c k
            ≡ true → (x : Bool) → has α (negated k) ≡ x
            → literal_value k (forced_by α b) ≡ false
        off a len b long is k h true q = let r = has_within n c k w h in false-there n α plain b long k r.0 r.1 q
        off a len b long is k h false q =
            let r = has_within n c k w h in
            same-there n α plain b long k r.0 r.1 (none k h) q ∙ ap (literal_value k) is
            ∙ false-there n (negations c) (negations-plain c pc) a len k r.0 r.1 (has-negation c k h)

-- 17 never comes to a clause without both signs: it is not the diagram 1
pub plain-not-one : (n : ℕ) (c : Clause) → OfVariables n c → Plain c → same (clause n c) (leaf true) ≡ false
unfolding under has
plain-not-one n c w plain = not-true (same (clause n c) (leaf true)) (λ e.
    not-one n [] (λ l x y. t≢f (sym x)) c w (λ k h. refl) plain
    (literals-none n (λ v. false) (λ v. false) 1 (clause n c) (omega arith) (clause-reduced n c) (λ v x y. (refl, refl))
    ∙ same-eq (clause n c) (leaf true) e))

-- and a clause that is not the diagram 1 has no both signs
pub not-one-plain : (n : ℕ) (c : Clause) → same (clause n c) (leaf true) ≡ false → Plain c
unfolding value_from literal_value
not-one-plain n c e l x y =
    t≢f (sym (eq-same (clause n c) (leaf true) (unique n 1 (suc n) (clause n c) (leaf true) (omega arith) (clause-reduced n c) tt
    (λ a len. clause-value n a len c ∙ either a))) ∙ e)
  where
    sign : (h s : Bool) → (beq h s || beq h (not s)) ≡ true
    sign true true = refl
    sign true false = refl
    sign false true = refl
    sign false false = refl

    either : (a : Assignment) → clause_value c a ≡ true
    either a =
        or_cases (beq (holds a l.variable) l.positive) (beq (holds a l.variable) (not l.positive))
        (sign (holds a l.variable) l.positive)
        (λ t. clause-some c a l x t) (λ t. clause-some c a (negated l) y t)
