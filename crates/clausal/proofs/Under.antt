-- A clause's diagram cofactored by the literals of an assignment: 0 exactly where all its literals are false, 1 where one is true, and its
-- units are the one literal left. The idea: an assignment of all variables can be chosen freely at the variables that are still open.
-- Assumes nothing.
use mathlib.Core.Path.{◌≡◌, refl, sym, ap, ◌∙◌, subst}
use mathlib.Core.Logic.{◌≢◌}
use mathlib.Core.Bool.{Bool, true, false, not, ◌||◌, cond, beq}
use mathlib.Core.List.{List, [], ◌∷◌}
use Prim.Native.Nat.{ℕ, suc, ◌-◌, ◌≤◌}
use native.Mathlib.Omega.{arith}
use native.Mathlib.Decide.{ℕ_discrete}
use lib.ListN.{length, set, replicate, length-set, length-replicate}
use lib.Seq.{get_or-set_same, get_or-set_other}
use Rattle.meaning.specs.Diagram.{Assignment, holds, Diagram, leaf, value_from, value}
use Rattle.meaning.specs.Reduced.{Reduced}
use Rattle.meaning.specs.Operations.{Literal, literal_value, clause_value, clause, forced, cofactor_literals, is_unit}
use Rattle.meaning.proofs.Booleans.{t≢f, not-true, or_left, or_right, beq-eq, eq-beq}
use Rattle.meaning.proofs.Canonical.{unique}
use Rattle.meaning.proofs.Assignments.{all-every}
use Rattle.meaning.proofs.Pointwise.{forced-length, forced-at, clause-value, literals-value, literals-reduced}
use Rattle.meaning.proofs.Units.{unit-holds}
use Rattle.meaning.specs.Literals.{OfVariables}
use Rattle.clausal.specs.Drat.{Plain, all_false, all_false_but}
use Rattle.clausal.specs.Literals.{Clause, literal, negated, alike, has}
use Rattle.clausal.specs.Tries.{makes_true, makes_false}
use Rattle.clausal.proofs.Literals.{alike-eq, eq-alike, negated-twice, negated-differs, has_here, has-cases, has_there, has_within}
use Rattle.clausal.proofs.Literals.{all_false-each, each-all_false, all_false_but-each, each-all_false_but, not-all_false, Said, is_true}
use Rattle.clausal.proofs.Literals.{is_false, open-yet, said}

-- ---- the assignment that makes the literals of α true
abbrev pub forced_by : List Literal → Assignment → Assignment
forced_by α a = forced (makes_true α) (makes_false α) 1 a

-- The clause's diagram by the literals of α.
unfoldable pub under : ℕ → List Literal → Clause → Diagram
under n α c = cofactor_literals n (makes_true α) (makes_false α) (clause n c)

pub under-value : (n : ℕ) (α : List Literal) (c : Clause) (a : Assignment) → length a ≡ n → value (under n α c) a
    ≡ clause_value c (forced_by α a)
unfolding under
under-value n α c a len =
    literals-value n a len (makes_true α) (makes_false α) (clause n c) ∙ clause-value n (forced_by α a)
    (forced-length (makes_true α) (makes_false α) 1 a ∙ len) c

pub under-reduced : (n : ℕ) (α : List Literal) (c : Clause) → Reduced 1 (suc n) (under n α c)
unfolding under
under-reduced n α c = literals-reduced n (makes_true α) (makes_false α) (clause n c)

-- ---- the values of literals there

pub forced-holds : (α : List Literal) (a : Assignment) (v : ℕ) → 1 ≤ v → v ≤ length a
    → holds (forced_by α a) v ≡ cond (makes_true α v) true (cond (makes_false α v) false (holds a v))
forced-holds α a v lo hi = forced-at (makes_true α) (makes_false α) 1 a v lo (omega arith)

module _ (n : ℕ) (α : List Literal) (plain : Plain α) (a : Assignment) (len : length a ≡ n) (l : Literal) (lo : 1 ≤ l.variable)
    (hi : l.variable ≤ n) where
  at-l : holds (forced_by α a) l.variable ≡ cond (makes_true α l.variable) true
      (cond (makes_false α l.variable) false (holds a l.variable))
  at-l = forced-holds α a l.variable lo (omega arith)

  true-there : has α l ≡ true → literal_value l (forced_by α a) ≡ true
  unfolding literal_value
  true-there h = go l.positive refl
    where
      go : (s : Bool) → l.positive ≡ s → beq (holds (forced_by α a) l.variable) l.positive ≡ true
      go true e =
          let p : makes_true α l.variable ≡ true = ap (λ (s : Bool). has α (literal l.variable s)) (sym e) ∙ h in
          rw (at-l, p, e) refl
      go false e =
          let q : makes_false α l.variable ≡ true = ap (λ (s : Bool). has α (literal l.variable s)) (sym e) ∙ h in
          let p : makes_true α l.variable ≡ false = not-true (makes_true α l.variable) (λ x. plain (literal l.variable true) x q) in
          rw (at-l, p, q, e) refl

  pub false-there : has α (negated l) ≡ true → literal_value l (forced_by α a) ≡ false
  unfolding literal_value
  false-there h = go l.positive refl
    where
      go : (s : Bool) → l.positive ≡ s → beq (holds (forced_by α a) l.variable) l.positive ≡ false
      go true e =
          let q : makes_false α l.variable ≡ true = ap (λ (s : Bool). has α (literal l.variable (not s))) (sym e) ∙ h in
          let p : makes_true α l.variable ≡ false = not-true (makes_true α l.variable) (λ x. plain (literal l.variable true) x q) in
          rw (at-l, p, q, e) refl
      go false e =
          let p : makes_true α l.variable ≡ true = ap (λ (s : Bool). has α (literal l.variable (not s))) (sym e) ∙ h in
          rw (at-l, p, e) refl

  pub same-there : has α l ≡ false → has α (negated l) ≡ false → literal_value l (forced_by α a) ≡ literal_value l a
  unfolding literal_value
  same-there h k = go l.positive refl
    where
      go : (s : Bool) → l.positive ≡ s → beq (holds (forced_by α a) l.variable) l.positive
          ≡ beq (holds a l.variable) l.positive
      go true e =
          let p : makes_true α l.variable ≡ false = ap (λ (s : Bool). has α (literal l.variable s)) (sym e) ∙ h in
          let q : makes_false α l.variable ≡ false = ap (λ (s : Bool). has α (literal l.variable (not s))) (sym e) ∙ k in
          rw (at-l, p, q) refl
      go false e =
          let p : makes_true α l.variable ≡ false = ap (λ (s : Bool). has α (literal l.variable (not s))) (sym e) ∙ k in
          let q : makes_false α l.variable ≡ false = ap (λ (s : Bool). has α (literal l.variable s)) (sym e) ∙ h in
          rw (at-l, p, q) refl

-- ---- clauses by their literals

pub clause-some : (c : Clause) (a : Assignment) (l : Literal) → has c l ≡ true → literal_value l a ≡ true → clause_value c a ≡ true
unfolding clause_value has
clause-some [] a l h t = t≢f (sym h)
clause-some (k ∷ c) a l h t =
    has-cases k c l h (λ x. or_left (literal_value k a) (clause_value c a) (subst (λ (m : Literal). literal_value m a ≡ true) (sym x) t))
    (λ x. or_right (literal_value k a) (clause_value c a) (clause-some c a l x t))

pub clause-none : (c : Clause) (a : Assignment) → ((l : Literal) → has c l ≡ true → literal_value l a ≡ false) → clause_value c a ≡ false
unfolding clause_value
clause-none [] a h = refl
clause-none (k ∷ c) a h = rw (h k (has_here k c)) (clause-none c a (λ l x. h l (has_there k c l x)))

-- ---- assignments chosen at one variable, and at two

-- a with the literal made true
abbrev pub making : Literal → Assignment → Assignment
making l a = set a (l.variable - 1) l.positive

pub making-length : (l : Literal) (a : Assignment) → length (making l a) ≡ length a
making-length l a = length-set a (l.variable - 1) l.positive

pub making-true : (l : Literal) (a : Assignment) → 1 ≤ l.variable → l.variable ≤ length a → literal_value l (making l a) ≡ true
unfolding literal_value
making-true l a lo hi = eq-beq (holds (making l a) l.variable) l.positive
    (get_or-set_same a (l.variable - 1) l.positive false (omega arith))

-- another literal that is true stays so, if it is not the negation
pub making-other : (l k : Literal) (a : Assignment) → 1 ≤ l.variable → 1 ≤ k.variable → l.variable ≤ length a → k ≢ negated l →
    literal_value k a ≡ true → literal_value k (making l a) ≡ true
unfolding literal_value
making-other l k a lo lk hi ne t = go (ℕ_discrete k.variable l.variable)
  where
    differ : (s t : Bool) → (s ≡ not t → ⊥) → t ≡ s
    differ true true h = refl
    differ true false h = absurd (h refl)
    differ false true h = absurd (h refl)
    differ false false h = refl

    go : Dec (k.variable ≡ l.variable) → beq (holds (making l a) k.variable) k.positive ≡ true
    go (yes e) = eq-beq (holds (making l a) k.variable) k.positive
        (ap (λ (v : ℕ). holds (making l a) v) e ∙ get_or-set_same a (l.variable - 1) l.positive false (omega arith)
        ∙ differ k.positive l.positive (λ q. ne
        (ap (λ (v : ℕ). literal v k.positive) e ∙ ap (λ (s : Bool). literal l.variable s) q)))
    go (no d) = eq-beq (holds (making l a) k.variable) k.positive
        (get_or-set_other a (l.variable - 1) (k.variable - 1) l.positive false (omega arith)
        ∙ beq-eq (holds a k.variable) k.positive t)

-- ---- what the diagram is

module _ (n : ℕ) (α : List Literal) (plain : Plain α) (c : Clause) (w : OfVariables n c) where
  -- 1 everywhere, where a literal is true
  pub under-true : (l : Literal) → has c l ≡ true → has α l ≡ true → (a : Assignment) → length a ≡ n → value (under n α c) a ≡ true
  under-true l h t a len =
      let r = has_within n c l w h in
      under-value n α c a len ∙ clause-some c (forced_by α a) l h (true-there n α plain a len l r.0 r.1 t)

  -- 1 where an open literal is
  under-open : (l : Literal) → has c l ≡ true → has α l ≡ false → has α (negated l) ≡ false → (a : Assignment) → length a ≡ n →
      literal_value l a ≡ true → value (under n α c) a ≡ true
  under-open l h p q a len t =
      let r = has_within n c l w h in
      under-value n α c a len ∙ clause-some c (forced_by α a) l h (same-there n α plain a len l r.0 r.1 p q ∙ t)

  -- a literal that is not false is made true by some assignment near a
  pub under_some : (l : Literal) → has c l ≡ true → has α (negated l) ≡ false → (a : Assignment) → length a ≡ n → literal_value l a ≡ true →
      value (under n α c) a ≡ true
  under_some l h q a len t = go (said α l)
    where
      go : Said α l → value (under n α c) a ≡ true
      go (is_true p) = under-true l h p a len
      go (is_false p) = t≢f (sym p ∙ q)
      go (open-yet p _) = under-open l h p q a len t

  pub false-under : all_false α c ≡ true → under n α c ≡ leaf false
  unfolding value_from
  false-under e = unique n 1 (suc n) (under n α c) (leaf false) (omega arith) (under-reduced n α c) tt λ a len.
      under-value n α c a len ∙ clause-none c (forced_by α a)
      (λ l h. let r = has_within n c l w h in false-there n α plain a len l r.0 r.1 (all_false-each α c e l h))

  -- some assignment of n variables
  abbrev start : Assignment
  start = replicate n false

  start-long : length start ≡ n
  start-long = length-replicate n false

  -- the value 0 everywhere leaves no literal that is not false
  zero-under : ((a : Assignment) → length a ≡ n → value (under n α c) a ≡ false) → all_false α c ≡ true
  zero-under z = go (all_false α c) refl
    where
      go : (b : Bool) → all_false α c ≡ b → all_false α c ≡ true
      go true e = e
      go false e =
          let (l, h, q) = not-all_false α c e in
          let r : (1 ≤ l.variable) × (l.variable ≤ n) = has_within n c l w h in
          t≢f (sym (under_some l h q (making l start) (making-length l start ∙ start-long)
          (making-true l start r.0 (omega (arith, r.1, start-long))))
          ∙ z (making l start) (making-length l start ∙ start-long))

  pub under-false : under n α c ≡ leaf false → all_false α c ≡ true
  unfolding value_from
  under-false e = zero-under (λ a len. ap (λ (f : Diagram). value f a) e)

  -- ---- units

  -- A unit of a diagram other than 0: the clause has it, it is open, and all other literals are false.
  pub record Left (l : Literal) : Type 0 where
    pub in-clause : has c l ≡ true
    pub not-true : has α l ≡ false
    pub not-false : has α (negated l) ≡ false
    pub others : all_false_but α l c ≡ true

  module _ (l : Literal) (lo : 1 ≤ l.variable) (hi : l.variable ≤ n) (u : is_unit n (under n α c) l.variable l.positive ≡ true) where
    -- wherever the diagram is 1 the unit is true
    unit-true : (a : Assignment) → length a ≡ n → value (under n α c) a ≡ true → literal_value l a ≡ true
    unfolding literal_value
    unit-true a len t = eq-beq (holds a l.variable) l.positive (unit-holds n (under n α c) l.variable l.positive a u len t)

    -- an assignment that makes the unit false
    against : Assignment
    against = making (negated l) start

    against-long : length against ≡ n
    unfolding against
    against-long = making-length (negated l) start ∙ start-long

    false-against : (a : Assignment) → literal_value (negated l) a ≡ true → literal_value l a ≡ true → ⊥
    unfolding literal_value
    false-against a p q =
        negated-differs l (ap (λ (s : Bool). literal l.variable s)
        (sym (beq-eq (holds a l.variable) l.positive q) ∙ beq-eq (holds a l.variable) (not l.positive) p))

    -- another literal that is not false can be made true against the unit
    other-false : (k : Literal) → has c k ≡ true → k ≢ l → has α (negated k) ≡ true
    unfolding against
    other-false k h ne = go (has α (negated k)) refl
      where
        r : (1 ≤ k.variable) × (k.variable ≤ n)
        r = has_within n c k w h

        b : Assignment
        b = making (negated l) (making k start)

        b-long : length b ≡ n
        b-long = making-length (negated l) (making k start) ∙ making-length k start ∙ start-long

        k-long : length (making k start) ≡ n
        k-long = making-length k start ∙ start-long

        go : (x : Bool) → has α (negated k) ≡ x → has α (negated k) ≡ true
        go true e = e
        go false e =
            let t : literal_value k b ≡ true = making-other (negated l) k (making k start) lo r.0 (omega (arith, k-long))
            (λ q. ne (q ∙ negated-twice l)) (making-true k start r.0 (omega (arith, r.1, start-long))) in
            absurd (false-against b (making-true (negated l) (making k start) lo (omega (arith, k-long)))
            (unit-true b b-long (under_some k h e b b-long t)))

    pub unit_left : under n α c ≢ leaf false → Left l
    unfolding against
    unit_left nz =
        let others : all_false_but α l c ≡ true = each-all_false_but α l c other-false in
        let in-clause : has c l ≡ true = inside (has c l) refl in
        record {
          in-clause = in-clause;
          not-true = not-true (has α l) (λ t. false-against against (making-true (negated l) start lo (omega (arith, start-long)))
              (unit-true against against-long (under-true l in-clause t against against-long)));
          not-false = not-true (has α (negated l)) (λ f. nz (false-under (each-all_false α c (λ k h. each k h f (alike k l) refl))));
          others = others;
        }
      where
        inside : (b : Bool) → has c l ≡ b → has c l ≡ true
        inside true e = e
        inside false e = absurd (nz (false-under (each-all_false α c (λ k h. other-false k h (λ q. t≢f (sym h ∙ ap (has c) q ∙ e))))))

        each : (k : Literal) → has c k ≡ true → has α (negated l) ≡ true → (b : Bool) → alike k l ≡ b → has α (negated k) ≡ true
        each k h f true e = subst (λ (m : Literal). has α (negated m) ≡ true) (sym (alike-eq k l e)) f
        each k h f false e = other-false k h (λ q. t≢f (sym (eq-alike k l q) ∙ e))

  -- and the other way round: the one open literal is a unit
  pub left-unit : (l : Literal) → 1 ≤ l.variable → l.variable ≤ n → has α l ≡ false → all_false_but α l c ≡ true →
      is_unit n (under n α c) l.variable l.positive ≡ true
  unfolding is_unit literal_value
  left-unit l lo hi nt others = all-every n _ λ a len. go a len (beq (holds a l.variable) l.positive) refl
    where
      at : (a : Assignment) → length a ≡ n → literal_value l a ≡ false → (k : Literal) → has c k ≡ true → (b : Bool) → alike k l ≡ b →
          literal_value k (forced_by α a) ≡ false
      at a len f k h true e =
          subst (λ (m : Literal). literal_value m (forced_by α a) ≡ false) (sym (alike-eq k l e)) (here (said α l))
        where
          here : Said α l → literal_value l (forced_by α a) ≡ false
          here (is_true p) = t≢f (sym p ∙ nt)
          here (is_false p) = false-there n α plain a len l lo hi p
          here (open-yet p q) = same-there n α plain a len l lo hi p q ∙ f
      at a len f k h false e =
          let r : (1 ≤ k.variable) × (k.variable ≤ n) = has_within n c k w h in
          false-there n α plain a len k r.0 r.1 (all_false_but-each α l c others k h (λ q. t≢f (sym (eq-alike k l q) ∙ e)))

      go : (a : Assignment) → length a ≡ n → (x : Bool) → beq (holds a l.variable) l.positive ≡ x →
          (x || not (value (under n α c) a)) ≡ true
      go a len true e = refl
      go a len false e = ap not (under-value n α c a len ∙ clause-none c (forced_by α a) (λ k h. at a len e k h (alike k l) refl))
