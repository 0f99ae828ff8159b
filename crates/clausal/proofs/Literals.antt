-- Literals and lists of them: equality of literals, membership, and what `all_false` and `all_false_but` say literal by literal. The idea:
-- by the list's cases. Assumes nothing.
use mathlib.Core.Path.{◌≡◌, refl, sym, ap, ◌∙◌, subst}
use mathlib.Core.Logic.{◌⊎◌, inl, inr, ◌≢◌}
use mathlib.Core.Bool.{Bool, true, false, not, ◌&&◌, ◌||◌, cond, beq}
use mathlib.Core.List.{List, [], ◌∷◌, ◌++◌, map}
use Prim.Native.Nat.{ℕ, ◌+◌, ◌≤◌}
use lib.Dec.{eqb}
use Rattle.meaning.specs.Operations.{Literal}
use Rattle.meaning.proofs.Booleans.{t≢f, not-not, and_both, or_cases, or_left, or_right, eqb-eq, eq-eqb, beq-eq, eq-beq}
use Rattle.meaning.specs.Literals.{OfVariables}
use Rattle.clausal.specs.Drat.{In, Plain, AllPlain, all_false, all_false_but}
use Rattle.clausal.specs.Literals.{Clause, literal, negated, alike, has, without}

pub alike-eq : (k l : Literal) → alike k l ≡ true → k ≡ l
unfolding alike
alike-eq k l e =
    let b : (eqb k.variable l.variable ≡ true) × (beq k.positive l.positive ≡ true) =
    and_both (eqb k.variable l.variable) (beq k.positive l.positive) e in
    go (eqb-eq k.variable l.variable b.0) (beq-eq k.positive l.positive b.1)
  where
    go : k.variable ≡ l.variable → k.positive ≡ l.positive → k ≡ l
    go p q = ap (λ (v : ℕ). literal v k.positive) p ∙ ap (λ (s : Bool). literal l.variable s) q

pub eq-alike : (k l : Literal) → k ≡ l → alike k l ≡ true
unfolding alike
eq-alike k l e = rw (e, eq-eqb l.variable l.variable refl, eq-beq l.positive l.positive refl)

pub negated-twice : (l : Literal) → negated (negated l) ≡ l
negated-twice l = ap (λ (s : Bool). literal l.variable s) (not-not l.positive)

pub negated-differs : (l : Literal) → l ≡ negated l → ⊥
negated-differs l e = go l.positive (ap (λ (k : Literal). k.positive) e)
  where
    go : (s : Bool) → s ≡ not s → ⊥
    go true e = t≢f e
    go false e = t≢f (sym e)

-- ---- membership

pub has_here : (l : Literal) (ls : List Literal) → has (l ∷ ls) l ≡ true
unfolding has
has_here l ls = or_left (alike l l) (has ls l) (eq-alike l l refl)

pub has-cases : {A : Type 0} (k : Literal) (ls : List Literal) (l : Literal) → has (k ∷ ls) l ≡ true → (k ≡ l → A) → (has ls l ≡ true → A) →
    A
unfolding has
has-cases k ls l e f g = or_cases (alike k l) (has ls l) e (λ x. f (alike-eq k l x)) g

pub has_there : (k : Literal) (ls : List Literal) (l : Literal) → has ls l ≡ true → has (k ∷ ls) l ≡ true
unfolding has
has_there k ls l e = or_right (alike k l) (has ls l) e

pub has-append : {A : Type 0} (xs ys : List Literal) (l : Literal) → has (xs ++ ys) l ≡ true → (has xs l ≡ true → A) →
    (has ys l ≡ true → A) → A
has-append [] ys l e f g = g e
has-append (k ∷ xs) ys l e f g =
    has-cases k (xs ++ ys) l e (λ x. f (subst (λ (m : Literal). has (k ∷ xs) m ≡ true) x (has_here k xs)))
    (λ x. has-append xs ys l x (λ y. f (has_there k xs l y)) g)

pub has-or : (xs ys : List Literal) (l : Literal) → has (xs ++ ys) l ≡ (has xs l || has ys l)
unfolding has
has-or [] ys l = refl
has-or (k ∷ xs) ys l = ap (◌||◌ (alike k l)) (has-or xs ys l) ∙ assoc (alike k l) (has xs l) (has ys l)
  where
    assoc : (x y z : Bool) → (x || (y || z)) ≡ ((x || y) || z)
    assoc true y z = refl
    assoc false y z = refl

pub has_left : (xs ys : List Literal) (l : Literal) → has xs l ≡ true → has (xs ++ ys) l ≡ true
unfolding has
has_left [] ys l e = t≢f (sym e)
has_left (k ∷ xs) ys l e =
    has-cases k xs l e (λ x. subst (λ (m : Literal). has (k ∷ (xs ++ ys)) m ≡ true) x (has_here k (xs ++ ys)))
    (λ x. has_there k (xs ++ ys) l (has_left xs ys l x))

pub has_right : (xs ys : List Literal) (l : Literal) → has ys l ≡ true → has (xs ++ ys) l ≡ true
has_right [] ys l e = e
has_right (k ∷ xs) ys l e = has_there k (xs ++ ys) l (has_right xs ys l e)

-- Every literal of the one list is in the other.
abbrev pub Among : List Literal → List Literal → Type 0
Among xs ys = (l : Literal) → has xs l ≡ true → has ys l ≡ true

-- the literals' negations
abbrev pub negations : List Literal → List Literal
negations ls = map negated ls

pub has-negation : (ls : List Literal) (l : Literal) → has ls l ≡ true → has (negations ls) (negated l) ≡ true
unfolding has
has-negation [] l e = t≢f (sym e)
has-negation (k ∷ ls) l e =
    has-cases k ls l e (λ x. subst (λ (m : Literal). has (negations (k ∷ ls)) (negated m) ≡ true) x (has_here (negated k) (negations ls)))
    (λ x. has_there (negated k) (negations ls) (negated l) (has-negation ls l x))

pub negation-has : (ls : List Literal) (l : Literal) → has (negations ls) l ≡ true → has ls (negated l) ≡ true
unfolding has
negation-has [] l e = t≢f (sym e)
negation-has (k ∷ ls) l e =
    has-cases (negated k) (negations ls) l e
    (λ x. subst (λ (m : Literal). has (k ∷ ls) m ≡ true) (sym (negated-twice k) ∙ ap negated x) (has_here k ls))
    (λ x. has_there k ls (negated l) (negation-has ls l x))

pub negations-plain : (ls : List Literal) → Plain ls → Plain (negations ls)
negations-plain ls p l x y = p l (subst (λ (m : Literal). has ls m ≡ true) (negated-twice l) (negation-has ls (negated l) y))
    (negation-has ls l x)

-- ---- within

pub has_within : (n : ℕ) (ls : List Literal) (l : Literal) → OfVariables n ls → has ls l ≡ true → (1 ≤ l.variable) × (l.variable ≤ n)
unfolding has
has_within n [] l w e = t≢f (sym e)
has_within n (k ∷ ls) l w e =
    has-cases k ls l e (λ x. subst (λ (m : Literal). (1 ≤ m.variable) × (m.variable ≤ n)) x (w.0, w.1)) (has_within n ls l w.2)

-- ---- all false

pub all_false-each : (α : List Literal) (c : Clause) → all_false α c ≡ true → (l : Literal) → has c l ≡ true → has α (negated l) ≡ true
unfolding all_false has
all_false-each α [] e l h = t≢f (sym h)
all_false-each α (k ∷ c) e l h =
    let b : (has α (negated k) ≡ true) × (all_false α c ≡ true) = and_both (has α (negated k)) (all_false α c) e in
    has-cases k c l h (λ x. subst (λ (m : Literal). has α (negated m) ≡ true) x b.0) (all_false-each α c b.1 l)

pub each-all_false : (α : List Literal) (c : Clause) → ((l : Literal) → has c l ≡ true → has α (negated l) ≡ true) → all_false α c ≡ true
unfolding all_false
each-all_false α [] h = refl
each-all_false α (k ∷ c) h = rw (h k (has_here k c)) (each-all_false α c (λ l x. h l (has_there k c l x)))

pub all_false_but-each : (α : List Literal) (l : Literal) (c : Clause) → all_false_but α l c ≡ true → (k : Literal) → has c k ≡ true →
    k ≢ l →
    has α (negated k) ≡ true
unfolding all_false_but has
all_false_but-each α l [] e k h ne = t≢f (sym h)
all_false_but-each α l (j ∷ c) e k h ne =
    let b : ((alike j l || has α (negated j)) ≡ true) × (all_false_but α l c ≡ true) =
    and_both (alike j l || has α (negated j)) (all_false_but α l c) e in
    has-cases j c k h
    (λ x. or_cases (alike j l) (has α (negated j)) b.0 (λ y. absurd (ne (sym x ∙ alike-eq j l y)))
    (λ y. subst (λ (m : Literal). has α (negated m) ≡ true) x y))
    (λ x. all_false_but-each α l c b.1 k x ne)

pub each-all_false_but : (α : List Literal) (l : Literal) (c : Clause) →
    ((k : Literal) → has c k ≡ true → k ≢ l → has α (negated k) ≡ true) →
    all_false_but α l c ≡ true
unfolding all_false_but
each-all_false_but α l [] h = refl
each-all_false_but α l (k ∷ c) h = rw (here (alike k l) refl) (each-all_false_but α l c (λ j x. h j (has_there k c j x)))
  where
    here : (b : Bool) → alike k l ≡ b → (alike k l || has α (negated k)) ≡ true
    here true e = or_left (alike k l) (has α (negated k)) e
    here false e = or_right (alike k l) (has α (negated k)) (h k (has_here k c) (λ q. t≢f (sym (eq-alike k l q) ∙ e)))

-- a clause not all of whose literals are false has one that is not
pub not-all_false : (α : List Literal) (c : Clause) → all_false α c ≡ false → (l : Literal) × (has c l ≡ true) × (has α (negated l) ≡ false)
unfolding all_false
not-all_false α [] e = t≢f e
not-all_false α (k ∷ c) e = go (has α (negated k)) refl e (not-all_false α c)
  where
    go : (b : Bool) → has α (negated k) ≡ b → (b && all_false α c) ≡ false →
        (all_false α c ≡ false → (l : Literal) × (has c l ≡ true) × (has α (negated l) ≡ false))
        → (l : Literal) × (has (k ∷ c) l ≡ true) × (has α (negated l) ≡ false)
    go true p e ih = let (l, h, f) = ih e in (l, has_there k c l h, f)
    go false p e ih = (k, has_here k c, p)

-- ---- a literal under an assignment

pub data Said (α : List Literal) (l : Literal) : Type 0 where
  is_true : has α l ≡ true → Said α l
  is_false : has α (negated l) ≡ true → Said α l
  open-yet : has α l ≡ false → has α (negated l) ≡ false → Said α l

pub said : (α : List Literal) (l : Literal) → Said α l
said α l = go (has α l) refl (has α (negated l)) refl
  where
    go : (x : Bool) → has α l ≡ x → (y : Bool) → has α (negated l) ≡ y → Said α l
    go true p y q = is_true p
    go false p true q = is_false q
    go false p false q = open-yet p q

-- ---- without a literal

pub has-without : (l : Literal) (c : Clause) (k : Literal) → has c k ≡ true → k ≢ l → has (without l c) k ≡ true
unfolding without has
has-without l [] k h ne = h
has-without l (j ∷ c) k h ne = go (alike j l) refl (has-without l c k)
  where
    go : (b : Bool) → alike j l ≡ b → (has c k ≡ true → k ≢ l → has (without l c) k ≡ true) → has (cond b (without l c) (j ∷ without l c)) k
        ≡ true
    go true e ih = has-cases j c k h (λ q. absurd (ne (sym q ∙ alike-eq j l e))) (λ x. ih x ne)
    go false e ih = has-cases j c k h (λ q. subst (λ (m : Literal). has (j ∷ without l c) m ≡ true) q (has_here j (without l c)))
        (λ x. has_there j (without l c) k (ih x ne))

pub without-has : (l : Literal) (c : Clause) (k : Literal) → has (without l c) k ≡ true → (has c k ≡ true) × (k ≢ l)
unfolding without has
without-has l [] k h = t≢f (sym h)
without-has l (j ∷ c) k h = go (alike j l) refl h (without-has l c k)
  where
    go : (b : Bool) → alike j l ≡ b → has (cond b (without l c) (j ∷ without l c)) k ≡ true →
        (has (without l c) k ≡ true → (has c k ≡ true) × (k ≢ l)) → (has (j ∷ c) k ≡ true) × (k ≢ l)
    go true e h ih = let (x, ne) = ih h in (has_there j c k x, ne)
    go false e h ih = has-cases j (without l c) k h
        (λ q. (subst (λ (m : Literal). has (j ∷ c) m ≡ true) q (has_here j c), λ z. t≢f (sym (eq-alike j l (q ∙ z)) ∙ e)))
        (λ x. let (y, ne) = ih x in (has_there j c k y, ne))

-- a clause has a literal that is true, or none of its literals is
pub some-true : (α : List Literal) (c : Clause) → ((k : Literal) × (has c k ≡ true) × (has α k ≡ true)) ⊎
    ((k : Literal) → has c k ≡ true → has α k ≡ false)
unfolding has
some-true α [] = inr (λ k h. t≢f (sym h))
some-true α (l ∷ c) = go (has α l) refl (some-true α c)
  where
    go : (b : Bool) → has α l ≡ b → ((k : Literal) × (has c k ≡ true) × (has α k ≡ true)) ⊎
        ((k : Literal) → has c k ≡ true → has α k ≡ false)
        → ((k : Literal) × (has (l ∷ c) k ≡ true) × (has α k ≡ true)) ⊎ ((k : Literal) → has (l ∷ c) k ≡ true → has α k ≡ false)
    go true e r = inl (l, has_here l c, e)
    go false e (inl (k, h, t)) = inl (k, has_there l c k h, t)
    go false e (inr f) = inr (λ k h. has-cases l c k h (λ q. subst (λ (m : Literal). has α m ≡ false) q e) (f k))

-- ---- clauses of a list

abbrev pub AllOfVariables : ℕ → List Clause → Type 0
AllOfVariables n [] = Unit {0}
AllOfVariables n (c ∷ cs) = OfVariables n c × AllOfVariables n cs

pub in_within : (n : ℕ) (F : List Clause) (c : Clause) → AllOfVariables n F → In c F → OfVariables n c
in_within n [] c w i = absurd i
in_within n (d ∷ F) c w (inl e) = subst (OfVariables n) (sym e) w.0
in_within n (d ∷ F) c w (inr i) = in_within n F c w.1 i

pub in-plain : (F : List Clause) (c : Clause) → AllPlain F → In c F → Plain c
in-plain [] c p i = absurd i
in-plain (d ∷ F) c p (inl e) = subst Plain (sym e) p.0
in-plain (d ∷ F) c p (inr i) = in-plain F c p.1 i
