-- A round of UnitProp over clauses' diagrams is a step of clausal unit propagation. The idea: the member that is taken has one literal
-- left, and its U is that literal. Assumes nothing.
use mathlib.Core.Path.{◌≡◌, refl, sym, ap, ap₂, ◌∙◌, subst}
use mathlib.Core.Logic.{inl, inr, ◌≢◌}
use mathlib.Core.Bool.{Bool, true, false, not, ◌||◌, cond}
use mathlib.Core.List.{List, [], ◌∷◌, ◌++◌, map}
use mathlib.Core.Option.{none, some}
use Prim.Native.Nat.{ℕ, zero, suc, ◌+◌, ◌-◌, ◌≤◌}
use native.Mathlib.Omega.{arith}
use native.Mathlib.Decide.{dec_le}
use lib.ListN.{length, get_or}
use lib.Seq.{ext_get_or}
use Rattle.meaning.specs.Diagram.{Assignment, Diagram, leaf}
use Rattle.meaning.specs.Operations.{Literal, clause_value, cofactor_literals, is_unit}
use Rattle.meaning.specs.Rules.{any, has_unit, first_with_unit, by_units}
use Rattle.meaning.proofs.Booleans.{t≢f, both_ways, not-true, or_cases, or_left, or_right}
use Rattle.meaning.proofs.Canonical.{unique}
use Rattle.meaning.proofs.Pointwise.{forced-length, forced-at, literals-value, literals-reduced}
use Rattle.meaning.proofs.PointwiseSteps.{literals-cong}
use Rattle.meaning.proofs.Ends.{AllReduced}
use Rattle.meaning.specs.Literals.{OfVariables}
use Rattle.clausal.specs.Drat.{In, Plain}
use Rattle.clausal.specs.Literals.{Clause, literal, negated, alike, has}
use Rattle.clausal.specs.Tries.{makes_true, makes_false}
use Rattle.clausal.proofs.Literals.{eq-alike, negated-twice, has-cases, has-or, has_within, all_false_but-each}
use Rattle.clausal.proofs.Under.{forced_by, under, under-value, under-reduced, Left, unit_left, left-unit}

-- ---- two assignments one after the other

forced-append : (α β : List Literal) (a : Assignment) → Plain (β ++ α) → forced_by α (forced_by β a) ≡ forced_by (β ++ α) a
forced-append α β a plain =
    ext_get_or false (forced_by α (forced_by β a)) (forced_by (β ++ α) a) (len₁ ∙ sym len₂) λ j lt.
    let z : suc j - 1 ≡ j = omega arith in
    (rw z at (forced-at (makes_true α) (makes_false α) 1 (forced_by β a) (suc j) (omega arith) (omega (arith, len₁, len₀))))
    ∙ ap (λ (b : Bool). cond (makes_true α (suc j)) true (cond (makes_false α (suc j)) false b))
    (rw z at (forced-at (makes_true β) (makes_false β) 1 a (suc j) (omega arith) (omega (arith, len₁))))
    ∙ go (makes_true α (suc j)) (makes_false α (suc j)) (makes_true β (suc j)) (makes_false β (suc j)) (get_or a j false)
    (λ p q. plain (literal (suc j) true) (has-or β α (literal (suc j) true) ∙ p) (has-or β α (literal (suc j) false) ∙ q))
    ∙ sym (ap₂ (λ (x y : Bool). cond x true (cond y false (get_or a j false))) (has-or β α (literal (suc j) true))
    (has-or β α (literal (suc j) false)))
    ∙ sym (rw z at (forced-at (makes_true (β ++ α)) (makes_false (β ++ α)) 1 a (suc j) (omega arith) (omega (arith, len₁))))
  where
    len₀ : length (forced_by β a) ≡ length a
    len₀ = forced-length (makes_true β) (makes_false β) 1 a

    len₁ : length (forced_by α (forced_by β a)) ≡ length a
    len₁ = forced-length (makes_true α) (makes_false α) 1 (forced_by β a) ∙ len₀

    len₂ : length (forced_by (β ++ α) a) ≡ length a
    len₂ = forced-length (makes_true (β ++ α)) (makes_false (β ++ α)) 1 a

    go : (pa na pb nb b : Bool) → ((pb || pa) ≡ true → (nb || na) ≡ true → ⊥) →
        cond pa true (cond na false (cond pb true (cond nb false b))) ≡ cond (pb || pa) true (cond (nb || na) false b)
    go true na true nb b h = refl
    go true na false nb b h = refl
    go false true true true b h = absurd (h refl refl)
    go false true true false b h = absurd (h refl refl)
    go false true false true b h = refl
    go false true false false b h = refl
    go false false true nb b h = refl
    go false false false true b h = refl
    go false false false false b h = refl

-- a cofactor by further literals
pub under_more : (n : ℕ) (α β : List Literal) (c : Clause) → Plain (β ++ α) →
    cofactor_literals n (makes_true β) (makes_false β) (under n α c)
    ≡ under n (β ++ α) c
under_more n α β c plain =
    unique n 1 (suc n) _ (under n (β ++ α) c) (omega arith) (literals-reduced n (makes_true β) (makes_false β) (under n α c))
    (under-reduced n (β ++ α) c) λ a len.
    literals-value n a len (makes_true β) (makes_false β) (under n α c)
    ∙ under-value n α c (forced_by β a) (forced-length (makes_true β) (makes_false β) 1 a ∙ len)
    ∙ ap (clause_value c) (forced-append α β a plain)
    ∙ sym (under-value n (β ++ α) c a len)

-- ---- the units of a member

module _ (n : ℕ) (α : List Literal) (plain : Plain α) (c : Clause) (w : OfVariables n c) (nz : under n α c ≢ leaf false) (l : Literal)
    (L : Left n α plain c w l) where
  lo : 1 ≤ l.variable
  lo = (has_within n c l w L.in-clause).0

  hi : l.variable ≤ n
  hi = (has_within n c l w L.in-clause).1

  units-are : (v : ℕ) (s : Bool) → 1 ≤ v → v ≤ n → is_unit n (under n α c) v s ≡ has (l ∷ []) (literal v s)
  unfolding has
  units-are v s p q = both_ways (is_unit n (under n α c) v s) (has (l ∷ []) (literal v s)) only is
    where
      only : is_unit n (under n α c) v s ≡ true → has (l ∷ []) (literal v s) ≡ true
      only u = go (alike l (literal v s)) refl
        where
          M : Left n α plain c w (literal v s)
          M = unit_left n α plain c w (literal v s) p q u nz

          go : (b : Bool) → alike l (literal v s) ≡ b → (alike l (literal v s) || false) ≡ true
          go true e = rw e
          go false e = t≢f (sym (all_false_but-each α (literal v s) c M.others l L.in-clause
              (λ x. t≢f (sym (eq-alike l (literal v s) x) ∙ e))) ∙ L.not-false)

      is : has (l ∷ []) (literal v s) ≡ true → is_unit n (under n α c) v s ≡ true
      is h = has-cases l [] (literal v s) h
          (λ e. subst (λ (m : Literal). is_unit n (under n α c) m.variable m.positive ≡ true) e
          (left-unit n α plain c w l lo hi L.not-true L.others))
          (λ x. t≢f (sym x))

  -- with the one literal left α has no both signs
  pub plain_more : Plain (l ∷ α)
  plain_more k x y =
      has-cases l α k x
      (λ e. has-cases l α (negated k) y (λ f. cross k (sym e) f)
      (λ f. t≢f (sym (subst (λ (m : Literal). has α (negated m) ≡ true) (sym e) f) ∙ L.not-false)))
      (λ e. has-cases l α (negated k) y (λ f. t≢f
      (sym (subst (λ (m : Literal). has α m ≡ true) (sym (negated-twice k) ∙ ap negated (sym f)) e) ∙ L.not-false)) (λ f. plain k e f))
    where
      cross : (k : Literal) → k ≡ l → l ≡ negated k → ⊥
      cross k p q = go k.positive (ap (λ (m : Literal). m.positive) (p ∙ q))
        where
          go : (s : Bool) → s ≡ not s → ⊥
          go true e = t≢f e
          go false e = t≢f (sym e)

  pub round_is : (F : List Clause) → by_units n (under n α c) (map (under n α) F) ≡ map (under n (l ∷ α)) F
  unfolding by_units
  round_is [] = refl
  round_is (d ∷ F) = ap₂ ◌∷◌
      (literals-cong n _ _ (makes_true (l ∷ [])) (makes_false (l ∷ [])) (under n α d) (λ v p q. units-are v true p q)
      (λ v p q. units-are v false p q)
      ∙ under_more n α (l ∷ []) d plain_more)
      (round_is F)

-- ---- members of a list

pub any-in : (p : Diagram → Bool) (g : Clause → Diagram) (F : List Clause) → any p (map g F) ≡ true → (c : Clause) × In c F
    × (p (g c) ≡ true)
unfolding any
any-in p g [] e = t≢f (sym e)
any-in p g (d ∷ F) e = or_cases (p (g d)) (any p (map g F)) e (λ x. (d, inl refl, x)) (λ x. let (c, i, q) = any-in p g F x in (c, inr i, q))

pub in-any : (p : Diagram → Bool) (g : Clause → Diagram) (F : List Clause) (c : Clause) → In c F → p (g c) ≡ true → any p (map g F) ≡ true
unfolding any
in-any p g [] c i q = absurd i
in-any p g (d ∷ F) c (inl e) q = or_left (p (g d)) (any p (map g F)) (subst (λ (x : Clause). p (g x) ≡ true) e q)
in-any p g (d ∷ F) c (inr i) q = or_right (p (g d)) (any p (map g F)) (in-any p g F c i q)

pub under-all-reduced : (n : ℕ) (α : List Literal) (F : List Clause) → AllReduced n (map (under n α) F)
under-all-reduced n α [] = tt
under-all-reduced n α (c ∷ F) = (under-reduced n α c, under-all-reduced n α F)

-- the member that a round takes
pub first-in : (n : ℕ) (g : Clause → Diagram) (F : List Clause) (u : Diagram) → first_with_unit n (map g F) ≡ some u → (c : Clause) × In c F
    × (g c ≡ u) × (has_unit n n u ≡ true)
unfolding first_with_unit
first-in n g [] u e = let z : ◌≡◌ {A = ℕ} 0 1 = cc in absurd (omega arith)
first-in n g (d ∷ F) u e = go (has_unit n n (g d)) refl e (first-in n g F u)
  where
    go : (b : Bool) → has_unit n n (g d) ≡ b → cond b (some (g d)) (first_with_unit n (map g F)) ≡ some u
        → (first_with_unit n (map g F) ≡ some u → (c : Clause) × In c F × (g c ≡ u) × (has_unit n n u ≡ true)) → (c : Clause) × In c (d ∷ F)
        × (g c ≡ u) × (has_unit n n u ≡ true)
    go true h e ih = let q : g d ≡ u = cc in (d, inl refl, q, subst (λ (f : Diagram). has_unit n n f ≡ true) q h)
    go false h e ih = let (c, i, q, t) = ih e in (c, inr i, q, t)

pub none_in : (n : ℕ) (g : Clause → Diagram) (F : List Clause) → first_with_unit n (map g F) ≡ none → (c : Clause) → In c F →
    has_unit n n (g c) ≡ false
unfolding first_with_unit
none_in n g [] e c i = absurd i
none_in n g (d ∷ F) e c i = go (has_unit n n (g d)) refl e i (λ x j. none_in n g F x c j)
  where
    go : (b : Bool) → has_unit n n (g d) ≡ b → cond b (some (g d)) (first_with_unit n (map g F)) ≡ none → In c (d ∷ F)
        → (first_with_unit n (map g F) ≡ none → In c F → has_unit n n (g c) ≡ false) → has_unit n n (g c) ≡ false
    go true h e i ih = let z : ◌≡◌ {A = ℕ} 0 1 = cc in absurd (omega arith)
    go false h e (inl q) ih = subst (λ (x : Clause). has_unit n n (g x) ≡ false) (sym q) h
    go false h e (inr j) ih = ih e j

-- a unit that `has_unit` finds, and that it finds each
pub unit-has : (n w : ℕ) (f : Diagram) (v : ℕ) (s : Bool) → 1 ≤ v → v ≤ w → is_unit n f v s ≡ true → has_unit n w f ≡ true
unfolding has_unit
unit-has n zero f v s lo hi u = absurd (omega arith)
unit-has n (suc w) f v s lo hi u = go (dec_le v w) (λ p. unit-has n w f v s lo p u)
  where
    here : (s : Bool) → is_unit n f (suc w) s ≡ true → (is_unit n f (suc w) true || is_unit n f (suc w) false) ≡ true
    here true u = or_left (is_unit n f (suc w) true) (is_unit n f (suc w) false) u
    here false u = or_right (is_unit n f (suc w) true) (is_unit n f (suc w) false) u

    go : Dec (v ≤ w) → (v ≤ w → has_unit n w f ≡ true) → has_unit n (suc w) f ≡ true
    go (yes p) ih = or_right (is_unit n f (suc w) true || is_unit n f (suc w) false) (has_unit n w f) (ih p)
    go (no p) ih = or_left (is_unit n f (suc w) true || is_unit n f (suc w) false) (has_unit n w f)
        (here s (let e : v ≡ suc w = omega arith in subst (λ (x : ℕ). is_unit n f x s ≡ true) e u))
