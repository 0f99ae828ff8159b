-- Clausal unit propagation by itself: it keeps its conflict under more clauses and more literals, RUP is propagation under the clause's
-- negated literals. The idea: by the cases of a propagation. Assumes nothing.
use mathlib.Core.Path.{◌≡◌, sym, ap, subst}
use mathlib.Core.Logic.{inl, inr, ◌≢◌}
use mathlib.Core.Bool.{true}
use mathlib.Core.List.{List, [], ◌∷◌, ◌++◌}
use Prim.Native.Nat.{◌+◌}
use Rattle.meaning.specs.Operations.{Literal}
use Rattle.meaning.proofs.Booleans.{t≢f}
use Rattle.clausal.specs.Drat.{In, Plain, Refutes, falsified, propagated, negation, Rup}
use Rattle.clausal.specs.Literals.{Clause, negated, has}
use Rattle.clausal.proofs.Literals.{negated-twice, has_here, has-cases, has_there, Among, negations, all_false-each, each-all_false}
use Rattle.clausal.proofs.Literals.{all_false_but-each, each-all_false_but}
use Rattle.clausal.proofs.Propagation.{Closed, closed-stays}

-- ---- clauses of a formula

pub in_left : (c : Clause) (F G : List Clause) → In c F → In c (F ++ G)
in_left c [] G i = absurd i
in_left c (d ∷ F) G (inl e) = inl e
in_left c (d ∷ F) G (inr i) = inr (in_left c F G i)

pub in_right : (c : Clause) (F G : List Clause) → In c G → In c (F ++ G)
in_right c [] G i = i
in_right c (d ∷ F) G i = inr (in_right c F G i)

pub in-append : {A : Type 0} (c : Clause) (F G : List Clause) → In c (F ++ G) → (In c F → A) → (In c G → A) → A
in-append c [] G i f g = g i
in-append c (d ∷ F) G (inl e) f g = f (inl e)
in-append c (d ∷ F) G (inr i) f g = in-append c F G i (λ j. f (inr j)) g

pub in-negation : (c : Clause) (l : Literal) → has c l ≡ true → In (negated l ∷ []) (negation c)
unfolding has
in-negation [] l h = t≢f (sym h)
in-negation (k ∷ c) l h = has-cases k c l h (λ e. inl (ap (λ (m : Literal). negated m ∷ []) (sym e))) (λ x. inr (in-negation c l x))

pub negation-in : (c : Clause) (d : Clause) → In d (negation c) → (l : Literal) × (has c l ≡ true) × (d ≡ negated l ∷ [])
negation-in [] d i = absurd i
negation-in (k ∷ c) d (inl e) = (k, has_here k c, e)
negation-in (k ∷ c) d (inr i) = let (l, h, e) = negation-in c d i in (l, has_there k c l h, e)

-- ---- more clauses, more literals

pub refutes-more : {F G : List Clause} {α β : List Literal} → ((c : Clause) → In c F → In c G) → Among α β → Refutes F α → Refutes G β
refutes-more {F} {G} {α} {β} f le (falsified c i e) = falsified c (f c i)
    (each-all_false β c (λ l h. le (negated l) (all_false-each α c e l h)))
refutes-more {F} {G} {α} {β} f le (propagated c l i h e r) =
    propagated c l (f c i) h (each-all_false_but β l c (λ k x ne. le (negated k) (all_false_but-each α l c e k x ne)))
    (refutes-more {α = l ∷ α} {β = l ∷ β} f (λ k x. has-cases l α k x (λ q. subst (λ (m : Literal). has (l ∷ β) m ≡ true) q (has_here l β))
    (λ y. has_there l β k (le k y))) r)

-- the units of a clause's negation are propagated first
pub units-first : (G : List Clause) (c : Clause) (β : List Literal) → ((l : Literal) → has c l ≡ true → In (negated l ∷ []) G) →
    Refutes G (negations c ++ β) → Refutes G β
unfolding has
units-first G [] β f r = r
units-first G (k ∷ c) β f r =
    units-first G c β (λ l h. f l (has_there k c l h))
    (propagated (negated k ∷ []) (negated k) (f k (has_here k c)) (has_here (negated k) [])
    (each-all_false_but (negations c ++ β) (negated k) (negated k ∷ [])
    (λ j h ne. has-cases (negated k) [] j h (λ q. absurd (ne (sym q))) (λ x. t≢f (sym x)))) r)

pub append-none : (xs : List Literal) → Among xs (xs ++ [])
append-none [] l h = h
append-none (k ∷ xs) l h = has-cases k xs l h (λ q. subst (λ (m : Literal). has (k ∷ (xs ++ [])) m ≡ true) q (has_here k (xs ++ [])))
    (λ x. has_there k (xs ++ []) l (append-none xs l x))

pub refutes-rup : (F : List Clause) (c : Clause) → Refutes F (negations c) → Rup F c
refutes-rup F c r =
    units-first (negation c ++ F) c [] (λ l h. in_left (negated l ∷ []) (negation c) F (in-negation c l h))
    (refutes-more (λ d i. in_right d (negation c) F i) (append-none (negations c)) r)

-- an assignment that has the negations of the clause's literals and that F's propagation does not leave
pub closed-not-rup : (F : List Clause) (c : Clause) (β : List Literal) → Plain β → Closed F β →
    ((l : Literal) → has c l ≡ true → has β (negated l) ≡ true) → Rup F c → ⊥
unfolding has
closed-not-rup F c β plain C there r = closed-stays (negation c ++ F) β closed {β = []} (λ l h. t≢f (sym h)) r
  where
    of-unit : (d : Clause) → In d (negation c) → (k : Literal) → has d k ≡ true → has β k ≡ true
    of-unit d i k h =
        let (l, hl, e) = negation-in c d i in
        has-cases (negated l) [] k (subst (λ (x : Clause). has x k ≡ true) e h)
        (λ q. subst (λ (m : Literal). has β m ≡ true) q (there l hl)) (λ x. t≢f (sym x))

    some_in : (d : Clause) → In d (negation c) → (k : Literal) × (has d k ≡ true)
    some_in d i = let (l, hl, e) = negation-in c d i in
        (negated l, subst (λ (x : Clause). has x (negated l) ≡ true) (sym e) (has_here (negated l) []))

    closed : Closed (negation c ++ F) β
    closed = record {
      none-false = λ d i e. in-append d (negation c) F i
          (λ j. let (k, h) = some_in d j in plain k (of-unit d j k h) (all_false-each β d e k h)) (λ j. C.none-false d j e);
      unit-there = λ d l i h e. in-append d (negation c) F i (λ j. of-unit d j l h) (λ j. C.unit-there d l j h e);
    }

-- a clause with both signs is RUP
pub both-signs-rup : (F : List Clause) (c : Clause) (k : Literal) → has c k ≡ true → has c (negated k) ≡ true → Rup F c
unfolding has
both-signs-rup F c k p q =
    propagated (negated k ∷ []) (negated k) (in_left (negated k ∷ []) (negation c) F (in-negation c k p)) (has_here (negated k) [])
    (each-all_false_but [] (negated k) (negated k ∷ [])
    (λ j h ne. has-cases (negated k) [] j h (λ x. absurd (ne (sym x))) (λ x. t≢f (sym x))))
    (falsified (negated (negated k) ∷ []) (in_left (negated (negated k) ∷ []) (negation c) F (in-negation c (negated k) q))
    (each-all_false (negated k ∷ []) (negated (negated k) ∷ [])
    (λ j h. has-cases (negated (negated k)) [] j h
    (λ x. subst (λ (m : Literal). has (negated k ∷ []) (negated m) ≡ true) x
    (subst (λ (m : Literal). has (negated k ∷ []) m ≡ true) (sym (negated-twice (negated k))) (has_here (negated k) [])))
    (λ x. t≢f (sym x)))))
