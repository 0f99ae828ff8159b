-- A clause's diagram, built from its greatest variable to its least: a node for each variable that has one literal, 1 where a variable has
-- both. P and N are the variables of the positive and of the negative literals. The idea: the same values. Assumes nothing.
use mathlib.Core.Path.{◌≡◌, refl, sym, ◌∙◌}
use mathlib.Core.Logic.{◌≢◌}
use mathlib.Core.Bool.{Bool, true, false, ◌&&◌, ◌||◌, cond, beq}
use mathlib.Core.List.{List, [], ◌∷◌}
use Prim.Native.Nat.{ℕ, zero, suc, ◌+◌, ◌≤◌, ◌<◌}
use native.Mathlib.Omega.{arith}
use native.Mathlib.Decide.{ℕ_discrete}
use lib.Dec.{eqb}
use Rattle.meaning.specs.Diagram.{Assignment, holds, Diagram, leaf, value_from, value, branch}
use Rattle.meaning.specs.Reduced.{Reduced}
use Rattle.meaning.specs.Operations.{Literal, literal_value, clause_value, clause}
use Rattle.meaning.proofs.Canonical.{branch_same, branch-reduced}
use Rattle.meaning.proofs.Values.{branch-at, diagram-is}
use Rattle.meaning.proofs.Booleans.{t≢f, or_cases, or_left, or_right, and_both, both_ways, eqb-eq, eq-eqb, beq-eq, eq-beq}
use Rattle.meaning.specs.Literals.{OfVariables}

-- Whether the literal of variable v with that sign is among those listed.
unfoldable pub occurs : List Literal → ℕ → Bool → Bool
occurs [] v s = false
occurs (l ∷ ls) v s = (eqb l.variable v && beq l.positive s) || occurs ls v s

-- The clause of the literals whose variables are the k from i on.
unfoldable pub clause_from : (ℕ → Bool) → (ℕ → Bool) → ℕ → ℕ → Diagram
unfolding branch
clause_from P N zero i = leaf false
clause_from P N (suc k) i = branch i (cond (N i) (leaf true) (clause_from P N k (suc i)))
    (cond (P i) (leaf true) (clause_from P N k (suc i)))

-- ---- both signs of a variable

pub clause-tautology : (P N : ℕ → Bool) (k i v : ℕ) → i ≤ v → v < i + k → P v ≡ true → N v ≡ true → clause_from P N k i ≡ leaf true
unfolding clause_from
clause-tautology P N zero i v lo hi p q = absurd (omega arith)
clause-tautology P N (suc k) i v lo hi p q = go (ℕ_discrete i v) (λ ne. clause-tautology P N k (suc i) v (omega arith) (omega arith) p q)
  where
    one : (b : Bool) → cond b (leaf true) (leaf true) ≡ leaf true
    one true = refl
    one false = refl

    go : Dec (i ≡ v) → (i ≢ v → clause_from P N k (suc i) ≡ leaf true) → clause_from P N (suc k) i ≡ leaf true
    go (yes e) ih = rw (e, p, q) (branch_same v (leaf true) (leaf true) refl)
    go (no ne) ih = rw (ih ne, one (N i), one (P i)) (branch_same i (leaf true) (leaf true) refl)

-- ---- reduced, with the clause's values

pub clause_from-reduced : (P N : ℕ → Bool) (k i e : ℕ) → e ≡ i + k → Reduced i e (clause_from P N k i)
unfolding clause_from
clause_from-reduced P N zero i e q = tt
clause_from-reduced P N (suc k) i e q =
    let o : Reduced (suc i) e (clause_from P N k (suc i)) = clause_from-reduced P N k (suc i) e (omega arith) in
    branch-reduced i e (cond (N i) (leaf true) (clause_from P N k (suc i))) (cond (P i) (leaf true) (clause_from P N k (suc i)))
    (omega arith)
    (go (N i) o) (go (P i) o)
  where
    go : (b : Bool) → Reduced (suc i) e (clause_from P N k (suc i)) → Reduced (suc i) e (cond b (leaf true) (clause_from P N k (suc i)))
    go true o = tt
    go false o = o

-- the variable i has the literal that is true, or a later one has
pub clause_from-value : (P N : ℕ → Bool) (k i : ℕ) (a : Assignment)
    → value (clause_from P N (suc k) i) a ≡ (cond (holds a i) (P i) (N i) || value (clause_from P N k (suc i)) a)
unfolding clause_from value_from
clause_from-value P N k i a =
    branch-at 1 i (cond (N i) (leaf true) (clause_from P N k (suc i))) (cond (P i) (leaf true) (clause_from P N k (suc i))) a
    ∙ go (holds a i) (P i) (N i)
  where
    rest : Diagram
    rest = clause_from P N k (suc i)

    go : (c x y : Bool) → cond c (value (cond x (leaf true) rest) a) (value (cond y (leaf true) rest) a) ≡ (cond c x y || value rest a)
    go true true y = refl
    go true false y = refl
    go false x true = refl
    go false x false = refl

module _ (P N : ℕ → Bool) (a : Assignment) where
  -- 1 where a literal within is true
  pub clause_from-true : (k i v : ℕ) → i ≤ v → v < i + k → cond (holds a v) (P v) (N v) ≡ true → value (clause_from P N k i) a ≡ true
  clause_from-true zero i v lo hi t = absurd (omega arith)
  clause_from-true (suc k) i v lo hi t =
      clause_from-value P N k i a ∙ go (ℕ_discrete i v) (λ ne. clause_from-true k (suc i) v (omega arith) (omega arith) t)
    where
      go : Dec (i ≡ v) → (i ≢ v → value (clause_from P N k (suc i)) a ≡ true) →
          (cond (holds a i) (P i) (N i) || value (clause_from P N k (suc i)) a) ≡ true
      go (yes e) ih = or_left (cond (holds a i) (P i) (N i)) (value (clause_from P N k (suc i)) a) (rw e t)
      go (no ne) ih = or_right (cond (holds a i) (P i) (N i)) (value (clause_from P N k (suc i)) a) (ih ne)

  -- and nowhere else
  pub true-clause_from : {A : Type 0} (k i : ℕ) → value (clause_from P N k i) a ≡ true
      → ((v : ℕ) → i ≤ v → v < i + k → cond (holds a v) (P v) (N v) ≡ true → A) → A
  unfolding clause_from value_from
  true-clause_from zero i e f = t≢f (sym e)
  true-clause_from (suc k) i e f =
      or_cases (cond (holds a i) (P i) (N i)) (value (clause_from P N k (suc i)) a) (sym (clause_from-value P N k i a) ∙ e)
      (λ t. f i (omega arith) (omega arith) t) (λ t. true-clause_from k (suc i) t (λ v x y. f v (omega arith) (omega arith)))

-- ---- the clause of the literals listed

occurs-true : (ls : List Literal) (a : Assignment) (v : ℕ) → occurs ls v (holds a v) ≡ true → clause_value ls a ≡ true
unfolding occurs clause_value literal_value
occurs-true [] a v e = e
occurs-true (l ∷ ls) a v e =
    or_cases (eqb l.variable v && beq l.positive (holds a v)) (occurs ls v (holds a v)) e
    (λ t. let b : (eqb l.variable v ≡ true) × (beq l.positive (holds a v) ≡ true) =
    and_both (eqb l.variable v) (beq l.positive (holds a v)) t in
    let q : l.variable ≡ v = eqb-eq l.variable v b.0 in
    or_left (beq (holds a l.variable) l.positive) (clause_value ls a)
    (rw q (eq-beq (holds a v) l.positive (sym (beq-eq l.positive (holds a v) b.1)))))
    (λ t. or_right (beq (holds a l.variable) l.positive) (clause_value ls a) (occurs-true ls a v t))

true-occurs : {A : Type 0} (n : ℕ) (ls : List Literal) (a : Assignment) → OfVariables n ls → clause_value ls a ≡ true
    → ((v : ℕ) → 1 ≤ v → v ≤ n → occurs ls v (holds a v) ≡ true → A) → A
unfolding occurs clause_value literal_value
true-occurs n [] a w e f = t≢f (sym e)
true-occurs n (l ∷ ls) a w e f =
    or_cases (beq (holds a l.variable) l.positive) (clause_value ls a) e
    (λ t. f l.variable w.0 w.1 (or_left (eqb l.variable l.variable && beq l.positive (holds a l.variable))
    (occurs ls l.variable (holds a l.variable))
    (rw (eq-eqb l.variable l.variable refl)
    (eq-beq l.positive (holds a l.variable) (sym (beq-eq (holds a l.variable) l.positive t))))))
    (λ t. true-occurs n ls a w.2 t (λ v x y o. f v x y
    (or_right (eqb l.variable v && beq l.positive (holds a v)) (occurs ls v (holds a v)) o)))

pub clause-is : (n : ℕ) (ls : List Literal) (P N : ℕ → Bool) → OfVariables n ls → ((v : ℕ) → 1 ≤ v → v ≤ n → P v ≡ occurs ls v true)
    → ((v : ℕ) → 1 ≤ v → v ≤ n → N v ≡ occurs ls v false) → clause n ls ≡ clause_from P N n 1
unfolding clause
clause-is n ls P N w p q = diagram-is n (clause_value ls) (clause_from P N n 1) (clause_from-reduced P N n 1 (suc n) (omega arith)) λ a len.
    both_ways (clause_value ls a) (value (clause_from P N n 1) a)
    (λ t. true-occurs n ls a w t (λ v x y o. clause_from-true P N a n 1 v x (omega arith) (at v x y (holds a v) ∙ o)))
    (λ t. true-clause_from P N a n 1 t (λ v x y o. occurs-true ls a v (sym (at v x (omega arith) (holds a v)) ∙ o)))
  where
    at : (v : ℕ) → 1 ≤ v → v ≤ n → (s : Bool) → cond s (P v) (N v) ≡ occurs ls v s
    at v x y true = p v x y
    at v x y false = q v x y
