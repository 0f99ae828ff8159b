-- Case G of 01, about the operations as the calls' contracts cite them, at 64 variables: computed at the two variables in use, which
-- `cofactor-width` says is the same. Assumes nothing.
use mathlib.Core.Path.{◌≡◌, refl, ◌∙◌}
use mathlib.Core.Logic.{◌≢◌}
use mathlib.Core.Bool.{true, false}
use Prim.Native.Nat.{ℕ}
use native.Mathlib.Omega.{arith}
use native.Mathlib.Decide.{ℕ_discrete}
use Rattle.meaning.specs.Diagram.{Diagram, leaf, node, same?, value_from, diagram_from}
use Rattle.meaning.specs.Reduced.{Reduced}
use Rattle.meaning.specs.Operations.{cofactor}
use Rattle.meaning.proofs.CofactorSteps.{cofactor-width}
use Rattle.operate.specs.declared.Operation.TheVariants.{Cofactor}
use Rattle.operate.specs.Operate.{result}

abbrev variable : ℕ → Diagram
variable v = node v (leaf false) (leaf true)

abbrev negated : ℕ → Diagram
negated v = node v (leaf true) (leaf false)

abbrev xor12 : Diagram
xor12 = node 1 (variable 2) (negated 2)

literal-reduced : Reduced 1 3 (variable 2)
literal-reduced = (omega arith, omega arith, (λ e. let z : ◌≡◌ {A = ℕ} 0 1 = cc in omega arith), tt, tt)

first_reduced : Reduced 1 3 (variable 1)
first_reduced = (omega arith, omega arith, (λ e. let z : ◌≡◌ {A = ℕ} 0 1 = cc in omega arith), tt, tt)

xor-reduced : Reduced 1 3 xor12
xor-reduced = (
  omega arith,
  omega arith,
  (λ e. let z : ◌≡◌ {A = ℕ} 0 1 = cc in omega arith),
  (omega arith, omega arith, (λ e. let z : ◌≡◌ {A = ℕ} 0 1 = cc in omega arith), tt, tt),
  (omega arith, omega arith, (λ e. let z : ◌≡◌ {A = ℕ} 0 1 = cc in omega arith), tt, tt),
)

xor-some : xor12 ≢ leaf false
xor-some e = let z : ◌≡◌ {A = ℕ} 0 1 = cc in omega arith

-- "x2 cofactored by (x1 xor x2) is not-x1"
pub G-second : result Cofactor (variable 2) xor12 ≡ negated 1
unfolding result cofactor diagram_from value_from same? ℕ_discrete
G-second = cofactor-width 2 64 (variable 2) xor12 (omega arith) literal-reduced xor-reduced xor-some ∙ refl

-- "x1 by it is x1"
pub G-first : result Cofactor (variable 1) xor12 ≡ variable 1
unfolding result cofactor diagram_from value_from same? ℕ_discrete
G-first = cofactor-width 2 64 (variable 1) xor12 (omega arith) first_reduced xor-reduced xor-some ∙ refl
