-- Whether a resolvent keeps the pivot says nothing for RUP: the clause that is resolved with gives the pivot's negation by propagation, all
-- its other literals being false. The idea: by the cases of a propagation. Assumes nothing.
use mathlib.Core.Path.{◌≡◌, refl, sym, ap, ◌∙◌, subst}
use mathlib.Core.Logic.{◌≢◌, ◌↔◌}
use mathlib.Core.Bool.{Bool, true, false}
use mathlib.Core.List.{List, [], ◌∷◌, ◌++◌}
use Prim.Native.Nat.{◌+◌}
use Rattle.meaning.specs.Operations.{Literal}
use Rattle.meaning.proofs.Booleans.{t≢f}
use Rattle.clausal.specs.Drat.{In, all_false, Refutes, falsified, propagated, negation, Rup}
use Rattle.clausal.specs.Literals.{Clause, negated, alike, has, without}
use Rattle.clausal.proofs.Literals.{alike-eq, eq-alike, negated-twice, has_here, has-cases, has_there, has-append, has_left}
use Rattle.clausal.proofs.Literals.{has_right, Among, negations, has-negation, all_false-each, each-all_false, all_false_but-each}
use Rattle.clausal.proofs.Literals.{each-all_false_but, has-without, without-has}
use Rattle.clausal.proofs.Refuting.{in_left, in_right, in-append, in-negation, negation-in, refutes-more, units-first, append-none}

-- Literals that are assumed true need not be propagated from their unit clauses: `clash` says what becomes of one that is met with the
-- other sign.
assumed : (F G : List Clause) (c : Clause) (first : List Literal) → ((d : Clause) → In d F → In d G) →
    ((l : Literal) → has c l ≡ true → has first (negated l) ≡ true)
    → (clash : (l : Literal) → has c l ≡ true → (β : List Literal) → Among first β → has β l ≡ true → Refutes G β)
    → {α β : List Literal} → Among first β → Among α β → Refutes (negation c ++ F) α → Refutes G β
unfolding has
assumed F G c first f there clash {α} {β} lo le (falsified d i e) =
    in-append d (negation c) F i
    (λ j. let (l, h, q) = negation-in c d j in
    let z : has α (negated (negated l)) ≡ true = all_false-each α (negated l ∷ []) (subst (λ (x : Clause). all_false α x ≡ true) q e)
    (negated l) (has_here (negated l) []) in
    clash l h β lo (le l (subst (λ (m : Literal). has α m ≡ true) (negated-twice l) z)))
    (λ j. falsified d (f d j) (each-all_false β d (λ l h. le (negated l) (all_false-each α d e l h))))
assumed F G c first f there clash {α} {β} lo le (propagated d l i h e r) =
    in-append d (negation c) F i
    (λ j. assumed F G c first f there clash {α = l ∷ α} {β = β} lo
    (λ m x. has-cases l α m x (λ q. subst (λ (y : Literal). has β y ≡ true) q (held j)) (le m)) r)
    (λ j. propagated d l (f d j) h (each-all_false_but β l d (λ k x ne. le (negated k) (all_false_but-each α l d e k x ne)))
    (assumed F G c first f there clash {α = l ∷ α} {β = l ∷ β} (λ m x. has_there l β m (lo m x))
    (λ m x. has-cases l α m x (λ q. subst (λ (y : Literal). has (l ∷ β) y ≡ true) q (has_here l β)) (λ y. has_there l β m (le m y))) r))
  where
    held : In d (negation c) → has β l ≡ true
    held j =
        let (k, hk, q) = negation-in c d j in
        has-cases (negated k) [] l (subst (λ (x : Clause). has x l ≡ true) q h)
        (λ z. subst (λ (m : Literal). has β m ≡ true) z (lo (negated k) (there k hk))) (λ x. t≢f (sym x))

module _ (F : List Clause) (p : Literal) (c d : Clause) (inside : In d F) (faces : has d (negated p) ≡ true) where
  -- The resolvent with the pivot of the clause, and without it.
  abbrev kept : Clause
  kept = c ++ without (negated p) d

  abbrev dropped : Clause
  dropped = without p c ++ without (negated p) d

  -- what is assumed once the dropped resolvent's negation and then d are propagated
  abbrev first : List Literal
  first = negated p ∷ (negations dropped ++ [])

  in-first : (l : Literal) → has dropped l ≡ true → has first (negated l) ≡ true
  in-first l h = has_there (negated p) (negations dropped ++ []) (negated l)
      (append-none (negations dropped) (negated l) (has-negation dropped l h))

  in-dropped : {A : Type 0} (l : Literal) → has kept l ≡ true → (l ≡ p → A) → (has dropped l ≡ true → A) → A
  in-dropped {A = A} l h f g = has-append c (without (negated p) d) l h (λ x. go x (alike l p) refl)
      (λ x. g (has_right (without p c) (without (negated p) d) l x))
    where
      go : has c l ≡ true → (b : Bool) → alike l p ≡ b → A
      go x true e = f (alike-eq l p e)
      go x false e = g (has_left (without p c) (without (negated p) d) l (has-without p c l x (λ q. t≢f (sym (eq-alike l p q) ∙ e))))

  -- every literal of d but the pivot's negation is in the resolvent
  of-d : {A : Type 0} (k : Literal) → has d k ≡ true → (k ≡ negated p → A) → (has dropped k ≡ true → A) → A
  of-d {A = A} k h f g = go (alike k (negated p)) refl
    where
      go : (b : Bool) → alike k (negated p) ≡ b → A
      go true e = f (alike-eq k (negated p) e)
      go false e = g (has_right (without p c) (without (negated p) d) k
          (has-without (negated p) d k h (λ q. t≢f (sym (eq-alike k (negated p) q) ∙ e))))

  clash : (l : Literal) → has kept l ≡ true → (β : List Literal) → Among first β → has β l ≡ true → Refutes (negation dropped ++ F) β
  unfolding has
  clash l h β le t = in-dropped l h
      (λ q. falsified d (in_right d (negation dropped) F inside) (each-all_false β d (λ k x. of-d k x
      (λ z. subst (λ (m : Literal). has β m ≡ true) (q ∙ sym (ap negated z ∙ negated-twice p)) t)
      (λ y. le (negated k) (in-first k y)))))
      (λ y. falsified (negated l ∷ []) (in_left (negated l ∷ []) (negation dropped) F (in-negation dropped l y))
      (each-all_false β (negated l ∷ []) (λ k x.
      has-cases (negated l) [] k x (λ z. subst (λ (m : Literal). has β (negated m) ≡ true) z
      (subst (λ (m : Literal). has β m ≡ true) (sym (negated-twice l)) t)) (λ z. t≢f (sym z)))))

  to-dropped : Rup F kept → Rup F dropped
  unfolding has
  to-dropped r =
      units-first (negation dropped ++ F) dropped [] (λ l h. in_left (negated l ∷ []) (negation dropped) F (in-negation dropped l h))
      (propagated d (negated p) (in_right d (negation dropped) F inside) faces
      (each-all_false_but (negations dropped ++ []) (negated p) d
      (λ k x ne. of-d k x (λ z. absurd (ne z)) (λ y. append-none (negations dropped) (negated k) (has-negation dropped k y))))
      (assumed F (negation dropped ++ F) kept first (λ e i. in_right e (negation dropped) F i)
      (λ l h. in-dropped l h (λ q. subst (λ (m : Literal). has first (negated m) ≡ true) (sym q)
      (has_here (negated p) (negations dropped ++ []))) (in-first l))
      clash {α = []} {β = first} (λ l h. h) nothing r))
    where
      nothing : Among [] first
      nothing l h = t≢f (sym h)

  from-dropped : Rup F dropped → Rup F kept
  from-dropped r = refutes-more wider (λ l h. h) r
    where
      in_kept : (l : Literal) → has dropped l ≡ true → has kept l ≡ true
      in_kept l h = has-append (without p c) (without (negated p) d) l h
          (λ x. has_left c (without (negated p) d) l (without-has p c l x).0) (λ x. has_right c (without (negated p) d) l x)

      wider : (e : Clause) → In e (negation dropped ++ F) → In e (negation kept ++ F)
      wider e i = in-append e (negation dropped) F i
          (λ j. let (l, h, q) = negation-in dropped e j in
          in_left e (negation kept) F (subst (λ (x : Clause). In x (negation kept)) (sym q) (in-negation kept l (in_kept l h))))
          (λ j. in_right e (negation kept) F j)

  -- THEOREM: the resolvent with the pivot is RUP exactly where the one without it is.
  pub pivot-dropped : Rup F (c ++ without (negated p) d) ↔ Rup F (without p c ++ without (negated p) d)
  pivot-dropped = (to-dropped, from-dropped)
