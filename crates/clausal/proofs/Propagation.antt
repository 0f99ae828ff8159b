-- UnitProp over the diagrams of clauses under an assignment conflicts exactly where clausal unit propagation does. The idea: each round is
-- a clausal step; where the rounds end without a conflict the assignment reached is closed, and no clausal propagation leaves it. Assumes
-- nothing.
use mathlib.Core.Path.{◌≡◌, refl, sym, ap, ◌∙◌, subst}
use mathlib.Core.Logic.{◌≢◌}
use mathlib.Core.Bool.{Bool, true, false, cond}
use mathlib.Core.List.{List, ◌∷◌, map}
use mathlib.Core.Option.{Option, none, some}
use Prim.Native.Nat.{ℕ, zero, suc, ◌+◌, ◌≤◌, ◌<◌}
use native.Mathlib.Omega.{arith}
use Rattle.meaning.specs.Diagram.{Diagram, leaf, same}
use Rattle.meaning.specs.Operations.{Literal, clause, is_unit}
use Rattle.meaning.specs.Operations as meaning
use Rattle.meaning.specs.Rules.{any, conflicts, first_with_unit, by_units, Propagation, round, still, taking, propagate, unit_prop}
use Rattle.meaning.proofs.Booleans.{t≢f, or-neither}
use Rattle.meaning.proofs.Units.{eq-same}
use Rattle.meaning.proofs.Ends.{in_use, fewer, more-rounds}
use Rattle.meaning.specs.Literals.{OfVariables}
use Rattle.clausal.specs.Drat.{In, Plain, all_false, all_false_but, Refutes, falsified, propagated}
use Rattle.clausal.specs.Literals.{Clause, literal, negated, has}
use Rattle.clausal.specs.Drat.{negation}
use Rattle.clausal.proofs.Literals.{has-cases, has_there, Among, has_within, all_false-each, each-all_false, all_false_but-each}
use Rattle.clausal.proofs.Literals.{each-all_false_but, AllOfVariables, in_within}
use Rattle.clausal.proofs.Under.{under, false-under, Left, unit_left, left-unit}
use Rattle.clausal.proofs.Rounds.{plain_more, round_is, in-any, under-all-reduced, first-in, none_in, unit-has}
use Rattle.clausal.proofs.Conflicts.{conflict-refutes}
use Rattle.meaning.proofs.Ends.{a_unit}

-- ---- an assignment that propagation does not leave

-- No clause is falsified, and every clause's last literal is true already.
pub record Closed (F : List Clause) (α : List Literal) : Type 0 where
  pub none-false : (c : Clause) → In c F → all_false α c ≡ true → ⊥
  pub unit-there : (c : Clause) (l : Literal) → In c F → has c l ≡ true → all_false_but α l c ≡ true → has α l ≡ true

pub closed-stays : (F : List Clause) (α : List Literal) → Closed F α → {β : List Literal} → Among β α → Refutes F β → ⊥
closed-stays F α C {β} le (falsified c i e) = C.none-false c i (each-all_false α c (λ l h. le (negated l) (all_false-each β c e l h)))
closed-stays F α C {β} le (propagated c l i h e r) =
    let t : has α l ≡ true = C.unit-there c l i h (each-all_false_but α l c (λ k x ne. le (negated k) (all_false_but-each β l c e k x ne)))
    in
    closed-stays F α C {β = l ∷ β} (λ k x. has-cases l β k x (λ q. subst (λ (m : Literal). has α m ≡ true) q t) (le k)) r

-- ---- where rounds end

module _ (n : ℕ) (F : List Clause) (within : AllOfVariables n F) where
  -- the members of an assignment
  abbrev pub members : List Literal → List Diagram
  members α = map (under n α) F

  quiet : (α : List Literal) → Plain α → conflicts n (members α) ≡ false → (c : Clause) → In c F → under n α c ≢ leaf false
  unfolding conflicts
  quiet α plain calm c i e =
      t≢f (sym (in-any (same (leaf false)) (under n α) F c i (eq-same (leaf false) (under n α c) (sym e)))
      ∙ (or-neither (any (same (leaf false)) (members α)) (any (λ f. any (λ g. same f (meaning.negation n g)) (members α)) (members α)) calm
      ).0)

  -- no conflict and no unit
  ends-closed : (α : List Literal) → Plain α → conflicts n (members α) ≡ false → first_with_unit n (members α) ≡ none → Closed F α
  ends-closed α plain calm e = record {
    none-false = λ c i f. quiet α plain calm c i (false-under n α plain c (in_within n F c within i) f);
    unit-there = λ c l i h f. go c l i h f (has α l) refl;
  }
    where
      go : (c : Clause) (l : Literal) → In c F → has c l ≡ true → all_false_but α l c ≡ true → (b : Bool) → has α l ≡ b → has α l ≡ true
      go c l i h f true t = t
      go c l i h f false t =
          let w : OfVariables n c = in_within n F c within i in
          let r : (1 ≤ l.variable) × (l.variable ≤ n) = has_within n c l w h in
          t≢f (sym (unit-has n n (under n α c) l.variable l.positive r.0 r.1 (left-unit n α plain c w l r.0 r.1 t f))
          ∙ none_in n (under n α) F e c i)

  -- the member that a round takes, with the literal that is left of it
  record UnitClause (α : List Literal) (plain : Plain α) (u : Diagram) : Type 0 where
    pub clause : Clause
    pub inside : In clause F
    pub is : under n α clause ≡ u
    pub some : under n α clause ≢ leaf false
    pub unit : Literal
    pub left : Left n α plain clause (in_within n F clause within inside) unit

  taken : (α : List Literal) (plain : Plain α) (u : Diagram) → conflicts n (members α) ≡ false → first_with_unit n (members α) ≡ some u →
      UnitClause α plain u
  taken α plain u calm e =
      let (c, i, q, h) = first-in n (under n α) F u e in
      let (v, s, lo, hi, un) = a_unit n n u h in
      let nz : under n α c ≢ leaf false = quiet α plain calm c i in
      record {
        clause = c;
        inside = i;
        is = q;
        some = nz;
        unit = literal v s;
        left = unit_left n α plain c (in_within n F c within i) (literal v s) lo hi
            (subst (λ (f : Diagram). is_unit n f v s ≡ true) (sym q) un) nz;
      }

  module _ (α : List Literal) (plain : Plain α) (u : Diagram) (T : UnitClause α plain u) where
    next : List Literal
    next = T.unit ∷ α

    next-plain : Plain next
    unfolding next
    next-plain = plain_more n α plain T.clause (in_within n F T.clause within T.inside) T.some T.unit T.left

    next-members : by_units n u (members α) ≡ members next
    unfolding next
    next-members =
        ap (λ (f : Diagram). by_units n f (members α)) (sym T.is)
        ∙ round_is n α plain T.clause (in_within n F T.clause within T.inside) T.some T.unit T.left F

    next-wider : Among α next
    unfolding next
    next-wider l h = has_there T.unit α l h

    next-refutes : Refutes F next → Refutes F α
    unfolding next
    next-refutes r = propagated T.clause T.unit T.inside T.left.in-clause T.left.others r

  -- ---- both ways

  propagate-refutes : (k : ℕ) (α : List Literal) → Plain α → (propagate k n (members α)).conflict ≡ true → Refutes F α
  unfolding propagate
  propagate-refutes zero α plain e = conflict-refutes n α plain F within e
  propagate-refutes (suc k) α plain e = go (conflicts n (members α)) refl (first_with_unit n (members α)) refl e
      (λ β p x. propagate-refutes k β p x)
    where
      go : (b : Bool) → conflicts n (members α) ≡ b → (x : Option Diagram) → first_with_unit n (members α) ≡ x
          → (cond b (still true) (taking x (λ u. round (by_units n u (members α)) (propagate k n (by_units n u (members α)))))).conflict
          ≡ true
          → ((β : List Literal) → Plain β → (propagate k n (members β)).conflict ≡ true → Refutes F β) → Refutes F α
      go true c x f e ih = conflict-refutes n α plain F within c
      go false c none f e ih = t≢f (sym e)
      go false c (some u) f e ih =
          let T : UnitClause α plain u = taken α plain u c f in
          next-refutes α plain u T
          (ih (next α plain u T) (next-plain α plain u T)
          (subst (λ (ms : List Diagram). (propagate k n ms).conflict ≡ true) (next-members α plain u T) e))

  -- an assignment above α that is closed
  abbrev pub Reaches : List Literal → Type 0
  Reaches α = (β : List Literal) × Plain β × Among α β × Closed F β

  propagate-closes : (k : ℕ) (α : List Literal) → Plain α → in_use n (members α) ≤ k → (propagate k n (members α)).conflict ≡ false →
      Reaches α
  unfolding propagate
  propagate-closes zero α plain most e = go (first_with_unit n (members α)) refl
    where
      go : (x : Option Diagram) → first_with_unit n (members α) ≡ x → Reaches α
      go none f = (α, plain, (λ l h. h), ends-closed α plain e f)
      go (some u) f = absurd (omega (arith, fewer n (members α) u e (under-all-reduced n α F) f))
  propagate-closes (suc k) α plain most e =
      go (conflicts n (members α)) refl (first_with_unit n (members α)) refl e (λ β p q x. propagate-closes k β p q x)
    where
      go : (b : Bool) → conflicts n (members α) ≡ b → (x : Option Diagram) → first_with_unit n (members α) ≡ x
          → (cond b (still true) (taking x (λ u. round (by_units n u (members α)) (propagate k n (by_units n u (members α)))))).conflict
          ≡ false
          → ((β : List Literal) → Plain β → in_use n (members β) ≤ k → (propagate k n (members β)).conflict ≡ false → Reaches β) → Reaches α
      go true c x f e ih = t≢f e
      go false c none f e ih = (α, plain, (λ l h. h), ends-closed α plain c f)
      go false c (some u) f e ih =
          let T : UnitClause α plain u = taken α plain u c f in
          let less : in_use n (members (next α plain u T)) < in_use n (members α) =
          subst (λ (ms : List Diagram). in_use n ms < in_use n (members α)) (next-members α plain u T)
          (fewer n (members α) u c (under-all-reduced n α F) f) in
          let (β, pl, le, C) = ih (next α plain u T) (next-plain α plain u T) (omega arith)
          (subst (λ (ms : List Diagram). (propagate k n ms).conflict ≡ false) (next-members α plain u T) e) in
          (β, pl, (λ l h. le l (next-wider α plain u T l h)), C)

  pub unit_prop-refutes : (α : List Literal) → Plain α → (unit_prop n (members α)).conflict ≡ true → Refutes F α
  unfolding unit_prop
  unit_prop-refutes α plain e = propagate-refutes n α plain e

  pub unit_prop-closes : (α : List Literal) → Plain α → (unit_prop n (members α)).conflict ≡ false → Reaches α
  unfolding unit_prop
  unit_prop-closes α plain e =
      propagate-closes (n + in_use n (members α)) α plain (omega arith)
      (ap (λ (p : Propagation). p.conflict) (more-rounds n (in_use n (members α)) (members α) (under-all-reduced n α F)) ∙ e)
