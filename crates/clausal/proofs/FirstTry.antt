-- The first try of a DRAT clause, as a RUP line over the diagrams of clauses, is RUP over the clauses. The idea: the members by not-g are
-- the clauses under g's negated literals, and UnitProp over those is clausal. Assumes nothing.
use mathlib.Core.Path.{◌≡◌, refl, sym, ap₂, subst}
use mathlib.Core.Bool.{Bool, true, false}
use mathlib.Core.List.{List, [], ◌∷◌, map}
use Prim.Native.Nat.{ℕ}
use Rattle.meaning.specs.Diagram.{Diagram}
use Rattle.meaning.specs.Operations.{clause}
use Rattle.meaning.specs.Operations as meaning
use Rattle.meaning.specs.Rules.{unit_prop, by_diagram, rup}
use Rattle.meaning.specs.Literals.{OfVariables}
use Rattle.clausal.specs.Drat.{Plain, negation, Rup}
use Rattle.clausal.specs.Literals.{Clause, negated}
use Rattle.clausal.proofs.Literals.{negations, has-negation, negations-plain, AllOfVariables}
use Rattle.clausal.proofs.Under.{under}
use Rattle.clausal.proofs.Propagation.{unit_prop-refutes, unit_prop-closes}
use Rattle.clausal.proofs.Cube.{cube-cofactor}
use Rattle.clausal.proofs.Refuting.{refutes-rup, closed-not-rup}

module _ (n : ℕ) (c : Clause) (w : OfVariables n c) (plain : Plain c) where
  pub members-by : (G : List Clause) → by_diagram n (meaning.negation n (clause n c)) (map (clause n) G) ≡ map (under n (negations c)) G
  unfolding under
  members-by [] = refl
  members-by (d ∷ G) = ap₂ ◌∷◌ (cube-cofactor n c w plain (clause n d)) (members-by G)

  module _ (F : List Clause) (within : AllOfVariables n F) where
    pub rup-only : (rup n (map (clause n) F) (clause n c)).shown ≡ true → Rup F c
    unfolding rup
    rup-only e =
        refutes-rup F c (unit_prop-refutes n F within (negations c) (negations-plain c plain)
        (subst (λ (ms : List Diagram). (unit_prop n ms).conflict ≡ true) (members-by F) e))

    pub rup-all : Rup F c → (rup n (map (clause n) F) (clause n c)).shown ≡ true
    unfolding rup
    rup-all r = subst (λ (ms : List Diagram). (unit_prop n ms).conflict ≡ true) (sym (members-by F))
        (go (unit_prop n (map (under n (negations c)) F)).conflict refl)
      where
        go : (b : Bool) → (unit_prop n (map (under n (negations c)) F)).conflict ≡ b →
            (unit_prop n (map (under n (negations c)) F)).conflict
            ≡ true
        go true e = e
        go false e =
            let (β, pl, le, C) = unit_prop-closes n F within (negations c) (negations-plain c plain) e in
            absurd (closed-not-rup F c β pl C (λ l h. le (negated l) (has-negation c l h)) r)
