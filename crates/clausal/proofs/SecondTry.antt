-- The second try of a DRAT clause, as a PR line over the diagrams of clauses, is RAT over the clauses. The idea: a member under the witness
-- is 1 where the resolvent has both signs, and else leaves the literals by which the resolvent's RUP differs from the clause's. Assumes
-- nothing.
use mathlib.Core.Path.{◌≡◌, refl, sym, ap, ap₂, ◌∙◌, subst}
use mathlib.Core.Logic.{◌⊎◌, inl, inr, ◌≢◌}
use mathlib.Core.Bool.{Bool, true, false, cond}
use mathlib.Core.List.{List, [], ◌∷◌, ◌++◌, map}
use Prim.Native.Nat.{ℕ, ◌+◌}
use Rattle.meaning.specs.Diagram.{Diagram, leaf, same}
use Rattle.meaning.specs.Operations.{Literal, clause, cofactor_literals}
use Rattle.meaning.specs.Operations as meaning
use Rattle.meaning.specs.Rules.{unit_prop, by_diagram, after_turn, pr_turns, witnessed, pr}
use Rattle.meaning.proofs.Booleans.{t≢f, and_both}
use Rattle.meaning.proofs.Units.{same-eq, eq-same}
use Rattle.meaning.specs.Literals.{OfVariables}
use Rattle.clausal.specs.Drat.{In, Plain, AllPlain, negation, Rup, Rat}
use Rattle.clausal.specs.Literals.{Clause, negated, alike, has, without}
use Rattle.clausal.specs.Tries.{makes_true, makes_false, witness}
use Rattle.clausal.proofs.Literals.{alike-eq, eq-alike, negated-twice, negated-differs, has_here, has-cases, has_there, has-append}
use Rattle.clausal.proofs.Literals.{has_left, has_right, Among, negations, has-negation, negation-has, negations-plain}
use Rattle.clausal.proofs.Literals.{each-all_false, Said, is_true, is_false, open-yet, said, has-without, without-has, some-true}
use Rattle.clausal.proofs.Literals.{AllOfVariables, in_within, in-plain}
use Rattle.clausal.proofs.Under.{under}
use Rattle.clausal.proofs.Rest.{rest, has_rest, rest_has, rest-within, under_one, under_rest, not-one}
use Rattle.clausal.proofs.Rounds.{under_more}
use Rattle.clausal.proofs.Propagation.{Closed, unit_prop-refutes, unit_prop-closes}
use Rattle.clausal.proofs.Cube.{cube-cofactor}
use Rattle.clausal.proofs.Refuting.{refutes-more, refutes-rup, closed-not-rup, both-signs-rup}
use Rattle.clausal.proofs.FirstTry.{members-by}

-- ---- the turns of the second try

module _ (n : ℕ) (P N : ℕ → Bool) (ms' : List Diagram) where
  -- What a member's turn asks.
  abbrev Turn : Clause → Type 0
  Turn d =
      (same (cofactor_literals n P N (clause n d)) (leaf true) ≡ true)
      ⊎ ((unit_prop n (by_diagram n (meaning.negation n (cofactor_literals n P N (clause n d))) ms')).conflict ≡ true)

  turns-each : (G : List Clause) → (pr_turns n P N ms' (map (clause n) G)).shown ≡ true → (d : Clause) → In d G → Turn d
  unfolding pr_turns
  turns-each [] e d i = absurd i
  turns-each (f ∷ G) e d i = go (same h (leaf true)) refl e i (λ x j. turns-each G x d j)
    where
      h : Diagram
      h = cofactor_literals n P N (clause n f)

      second : List Diagram
      second = by_diagram n (meaning.negation n h) ms'

      go : (b : Bool) → same h (leaf true) ≡ b
          → (cond b (pr_turns n P N ms' (map (clause n) G))
          (after_turn (unit_prop n second) (h ∷ meaning.negation n h ∷ second) (pr_turns n P N ms' (map (clause n) G)))).shown ≡ true
          → In d (f ∷ G) → ((pr_turns n P N ms' (map (clause n) G)).shown ≡ true → In d G → Turn d) → Turn d
      go true p e (inl q) ih = inl (subst (λ (x : Clause). same (cofactor_literals n P N (clause n x)) (leaf true) ≡ true) (sym q) p)
      go true p e (inr j) ih = ih e j
      go false p e (inl q) ih =
          inr (subst (λ (x : Clause). (unit_prop n (by_diagram n (meaning.negation n (cofactor_literals n P N (clause n x))) ms')).conflict
          ≡ true) (sym q)
          (and_both (unit_prop n second).conflict (pr_turns n P N ms' (map (clause n) G)).shown e).0)
      go false p e (inr j) ih = ih (and_both (unit_prop n second).conflict (pr_turns n P N ms' (map (clause n) G)).shown e).1 j

  each-turns : (G : List Clause) → ((d : Clause) → In d G → Turn d) → (pr_turns n P N ms' (map (clause n) G)).shown ≡ true
  unfolding pr_turns
  each-turns [] f = refl
  each-turns (d ∷ G) f = go (same h (leaf true)) refl (f d (inl refl)) (each-turns G (λ x i. f x (inr i)))
    where
      h : Diagram
      h = cofactor_literals n P N (clause n d)

      second : List Diagram
      second = by_diagram n (meaning.negation n h) ms'

      go : (b : Bool) → same h (leaf true) ≡ b → Turn d → (pr_turns n P N ms' (map (clause n) G)).shown ≡ true
          → (cond b (pr_turns n P N ms' (map (clause n) G))
          (after_turn (unit_prop n second) (h ∷ meaning.negation n h ∷ second) (pr_turns n P N ms' (map (clause n) G)))).shown ≡ true
      go true p t e = e
      go false p (inl x) e = t≢f (sym x ∙ p)
      go false p (inr x) e = rw (x, e)

-- ---- the clause, its pivot and its witness

module _ (n : ℕ) (c : Clause) (w : OfVariables n c) (plain : Plain c) (p : Literal) (hp : has c p ≡ true) where
  abbrev ω : List Literal
  ω = witness p c

  witness-plain : Plain ω
  witness-plain l x y =
      has-cases p (negations (without p c)) l x
      (λ e. has-cases p (negations (without p c)) (negated l) y (λ f. negated-differs p (f ∙ ap negated (sym e)))
      (λ f. (without-has p c l (subst (λ (m : Literal). has (without p c) m ≡ true) (negated-twice l)
      (negation-has (without p c) (negated l) f))).1 (sym e)))
      (λ e. has-cases p (negations (without p c)) (negated l) y
      (λ f. (without-has p c (negated l) (negation-has (without p c) l e)).1 (sym f))
      (λ f. plain l
      (without-has p c l (subst (λ (m : Literal). has (without p c) m ≡ true) (negated-twice l) (negation-has (without p c) (negated l) f))
      ).0
      (without-has p c (negated l) (negation-has (without p c) l e)).0))

  -- 18 never comes
  pub pivot-witnessed : witnessed n (makes_true ω) (makes_false ω) (clause n c) ≡ true
  unfolding witnessed under
  pivot-witnessed = eq-same _ (leaf true) (under_one n ω witness-plain c w p hp (has_here p (negations (without p c))))

  module _ (F : List Clause) (within : AllOfVariables n F) where
    -- a member with no literal that the witness makes true
    module _ (d : Clause) (wd : OfVariables n d) (none : (k : Literal) → has d k ≡ true → has ω k ≡ false) (pd : Plain d) where
      abbrev e : Clause
      e = rest ω d

      abbrev γ : List Literal
      γ = negations e ++ negations c

      -- a literal of d: of c, or the pivot's negation, or left of d under the witness
      where-is : {A : Type 0} (k : Literal) → has d k ≡ true → (k ≡ negated p → A) → (has c k ≡ true → A) → (has e k ≡ true → A) → A
      where-is {A = A} k h f g r = go (said ω k)
        where
          go : Said ω k → A
          go (is_true t) = t≢f (sym t ∙ none k h)
          go (is_false t) = has-cases p (negations (without p c)) (negated k) t (λ q. f (sym (negated-twice k) ∙ ap negated (sym q)))
              (λ x. g (without-has p c k (subst (λ (m : Literal). has (without p c) m ≡ true) (negated-twice k)
              (negation-has (without p c) (negated k) x))).0)
          go (open-yet t q) = r (has_rest ω d k h q)

      e-plain : Plain e
      e-plain l x y = pd l (rest_has ω d l x).0 (rest_has ω d (negated l) y).0

      -- what is left shares no variable's other sign with c
      e-apart : (l : Literal) → has e l ≡ true → has c (negated l) ≡ true → ⊥
      e-apart l x y =
          let (h, f) = rest_has ω d l x in
          go (alike (negated l) p) refl h f
        where
          go : (b : Bool) → alike (negated l) p ≡ b → has d l ≡ true → has ω (negated l) ≡ false → ⊥
          go true q h f = t≢f (sym (subst (λ (m : Literal). has ω m ≡ true) (sym (alike-eq (negated l) p q))
              (has_here p (negations (without p c)))) ∙ f)
          go false q h f =
              let o : has (without p c) (negated l) ≡ true = has-without p c (negated l) y (λ z. t≢f (sym (eq-alike (negated l) p z) ∙ q))
              in
              t≢f (sym (has_there p (negations (without p c)) l
              (subst (λ (m : Literal). has (negations (without p c)) m ≡ true) (negated-twice l)
              (has-negation (without p c) (negated l) o))) ∙ none l h)

      γ-plain : Plain γ
      γ-plain l x y =
          has-append (negations e) (negations c) l x
          (λ f. has-append (negations e) (negations c) (negated l) y
          (λ g. negations-plain e e-plain l f g)
          (λ g. e-apart (negated l) (negation-has e l f) (negation-has c (negated l) g)))
          (λ f. has-append (negations e) (negations c) (negated l) y
          (λ g. e-apart l (subst (λ (m : Literal). has e m ≡ true) (negated-twice l) (negation-has e (negated l) g)) (negation-has c l f))
          (λ g. negations-plain c plain l f g))

      second-by : (G : List Clause) → by_diagram n (meaning.negation n (clause n e)) (map (under n (negations c)) G) ≡ map (under n γ) G
      second-by [] = refl
      second-by (g ∷ G) = ap₂ ◌∷◌ (cube-cofactor n e (rest-within n ω d wd) e-plain (under n (negations c) g)
          ∙ under_more n (negations c) (negations e) g γ-plain) (second-by G)

      -- the turn's propagation
      pub turn_is : by_diagram n (meaning.negation n (under n ω d)) (by_diagram n (meaning.negation n (clause n c)) (map (clause n) F))
          ≡ map (under n γ) F
      turn_is =
          ap₂ (λ (h : Diagram) (ms : List Diagram). by_diagram n (meaning.negation n h) ms) (under_rest n ω witness-plain d wd none)
          (members-by n c w plain F)
          ∙ second-by F

      -- a conflict gives the resolvent's RUP
      pub turn-only : (unit_prop n (map (under n γ) F)).conflict ≡ true → Rup F (c ++ without (negated p) d)
      turn-only conflict = refutes-rup F R (refutes-more (λ x i. i) le (unit_prop-refutes n F within γ γ-plain conflict))
        where
          R : Clause
          R = c ++ without (negated p) d

          from : (l : Literal) → has R (negated l) ≡ true → has (negations R) l ≡ true
          from l h = subst (λ (m : Literal). has (negations R) m ≡ true) (negated-twice l) (has-negation R (negated l) h)

          le : Among γ (negations R)
          le l x = has-append (negations e) (negations c) l x
              (λ f. let (h, q) = rest_has ω d (negated l) (negation-has e l f) in
              from l (has_right c (without (negated p) d) (negated l) (has-without (negated p) d (negated l) h
              (λ z. t≢f (sym (subst (λ (m : Literal). has ω m ≡ true) (sym (negated-twice p) ∙ ap negated (sym z))
              (has_here p (negations (without p c)))) ∙ q)))))
              (λ f. from l (has_left c (without (negated p) d) (negated l) (negation-has c l f)))

      -- and the other way round; a member without the pivot's negation is falsified by itself
      pub turn-all : (has d (negated p) ≡ true → Rup F (c ++ without (negated p) d)) → In d F → (unit_prop n (map (under n γ) F)).conflict
          ≡ true
      turn-all r i = go (unit_prop n (map (under n γ) F)).conflict refl
        where
          go : (b : Bool) → (unit_prop n (map (under n γ) F)).conflict ≡ b → (unit_prop n (map (under n γ) F)).conflict ≡ true
          go true x = x
          go false x =
              let (β, pl, le, C) = unit_prop-closes n F within γ γ-plain x in
              let of_c : (l : Literal) → has c l ≡ true → has β (negated l) ≡ true =
              λ l h. le (negated l) (has_right (negations e) (negations c) (negated l) (has-negation c l h)) in
              let of-e : (l : Literal) → has e l ≡ true → has β (negated l) ≡ true =
              λ l h. le (negated l) (has_left (negations e) (negations c) (negated l) (has-negation e l h)) in
              pivot β pl C of_c of-e (has d (negated p)) refl
            where
              pivot : (β : List Literal) → Plain β → Closed F β → ((l : Literal) → has c l ≡ true → has β (negated l) ≡ true) →
                  ((l : Literal) → has e l ≡ true → has β (negated l) ≡ true)
                  → (b : Bool) → has d (negated p) ≡ b → (unit_prop n (map (under n γ) F)).conflict ≡ true
              pivot β pl C of_c of-e true h =
                  absurd (closed-not-rup F (c ++ without (negated p) d) β pl C
                  (λ l x. has-append c (without (negated p) d) l x (of_c l)
                  (λ y. let (z, ne) = without-has (negated p) d l y in where-is l z (λ q. absurd (ne q)) (of_c l) (of-e l)))
                  (r h))
              pivot β pl C of_c of-e false h =
                  absurd (C.none-false d i (each-all_false β d
                  (λ l x. where-is l x (λ q. t≢f (sym x ∙ ap (has d) q ∙ h)) (of_c l) (of-e l))))

    -- ---- all members

    ms' : List Diagram
    ms' = by_diagram n (meaning.negation n (clause n c)) (map (clause n) F)

    module _ (plains : AllPlain F) where
      one_only : (d : Clause) → In d F → Turn n (makes_true ω) (makes_false ω) ms' d → has d (negated p) ≡ true →
          Rup F (c ++ without (negated p) d)
      unfolding ms' under
      one_only d i t h = go (some-true ω d) t
        where
          wd : OfVariables n d
          wd = in_within n F d within i

          pd : Plain d
          pd = in-plain F d plains i

          -- a literal that the witness makes true gives the resolvent both signs
          both : (k : Literal) → has d k ≡ true → has ω k ≡ true → Rup F (c ++ without (negated p) d)
          both k hk tk = has-cases p (negations (without p c)) k tk
              (λ q. absurd (pd p (subst (λ (m : Literal). has d m ≡ true) (sym q) hk) h))
              (λ x. let (inc, ne) = without-has p c (negated k) (negation-has (without p c) k x) in
              both-signs-rup F (c ++ without (negated p) d) k
              (has_right c (without (negated p) d) k (has-without (negated p) d k hk (λ z. ne (ap negated z ∙ negated-twice p))))
              (has_left c (without (negated p) d) (negated k) inc))

          go : ((k : Literal) × (has d k ≡ true) × (has ω k ≡ true)) ⊎ ((k : Literal) → has d k ≡ true → has ω k ≡ false)
              → Turn n (makes_true ω) (makes_false ω) ms' d → Rup F (c ++ without (negated p) d)
          go (inl (k, hk, tk)) t = both k hk tk
          go (inr none) (inl one) = absurd (not-one n ω witness-plain d wd none pd (same-eq _ (leaf true) one))
          go (inr none) (inr conflict) = turn-only d wd none pd
              (subst (λ (ms : List Diagram). (unit_prop n ms).conflict ≡ true) (turn_is d wd none pd) conflict)

      one-all : (d : Clause) → In d F → (has d (negated p) ≡ true → Rup F (c ++ without (negated p) d)) →
          Turn n (makes_true ω) (makes_false ω) ms' d
      unfolding ms' under
      one-all d i r = go (some-true ω d)
        where
          wd : OfVariables n d
          wd = in_within n F d within i

          go : ((k : Literal) × (has d k ≡ true) × (has ω k ≡ true)) ⊎ ((k : Literal) → has d k ≡ true → has ω k ≡ false) →
              Turn n (makes_true ω) (makes_false ω) ms' d
          go (inl (k, hk, tk)) = inl (eq-same _ (leaf true) (under_one n ω witness-plain d wd k hk tk))
          go (inr none) = inr (subst (λ (ms : List Diagram). (unit_prop n ms).conflict ≡ true)
              (sym (turn_is d wd none (in-plain F d plains i))) (turn-all d wd none (in-plain F d plains i) r i))

      pub rat-only : (pr n (makes_true ω) (makes_false ω) (map (clause n) F) (clause n c)).shown ≡ true → Rat F p c
      unfolding pr ms'
      rat-only shown d i h = one_only d i (turns-each n (makes_true ω) (makes_false ω) ms' F shown d i) h

      pub rat-all : Rat F p c → (pr n (makes_true ω) (makes_false ω) (map (clause n) F) (clause n c)).shown ≡ true
      unfolding pr ms'
      rat-all r = each-turns n (makes_true ω) (makes_false ω) ms' F (λ d i. one-all d i (r d i))
