-- What is asked of the second operand, operation by operation. Assumes nothing.
use mathlib.Core.Path.{◌≡◌, refl, ◌∙◌}
use mathlib.Core.Bool.{true, false}
use Prim.Native.Nat.{ℕ}
use native.Mathlib.Omega.{arith}
use borrow.Author.Tests.{eq-eqb, ne_eqb}
use Rattle.operate.specs.declared.Operation.{Operation}
use Rattle.operate.specs.declared.Operation.TheVariants.{Conjunction, Negation, Cofactor, Literals}
use Rattle.operate.specs.Inner.{Allowed}
use Rattle.single.specs.Single.{shares_variable, operand_refusal}
use Rattle.single.specs.Inner.{OneOperand}

module _ (op : Operation) (g : ℕ) where
  pub conjunction-none : op ≡ Conjunction → 0 ≡ operand_refusal op g
  unfolding operand_refusal
  conjunction-none e = rw e

  pub negation-none : op ≡ Negation → 0 ≡ operand_refusal op g
  unfolding operand_refusal
  negation-none e = rw e

  pub cofactor-27 : op ≡ Cofactor → g ≡ 0 → 27 ≡ operand_refusal op g
  unfolding operand_refusal
  cofactor-27 e z = rw (e, eq-eqb g 0 z)

  pub cofactor-none : op ≡ Cofactor → (g ≡ 0 → ⊥) → 0 ≡ operand_refusal op g
  unfolding operand_refusal
  cofactor-none e z = rw (e, ne_eqb g 0 z)

  pub literals-15 : (p n : ℕ) → op ≡ Literals p n → shares_variable p n ≡ true → 15 ≡ operand_refusal op g
  unfolding operand_refusal
  literals-15 p n e s = rw (e, s)

  pub literals-none : (p n : ℕ) → op ≡ Literals p n → shares_variable p n ≡ false → 0 ≡ operand_refusal op g
  unfolding operand_refusal
  literals-none p n e s = rw (e, s)

-- An operand that is not refused is one that the operation can have.
pub allowed-by : (op : Operation) (g : ℕ) → OneOperand op g → operand_refusal op g ≡ 0 → Allowed op g
unfolding operand_refusal
allowed-by Conjunction g o e = tt
allowed-by Negation g o e = o
allowed-by Cofactor g o e = λ z. let q : ◌≡◌ {A = ℕ} 27 0 = cofactor-27 Cofactor g refl z ∙ e in absurd (omega arith)
allowed-by (Literals p n) g o e = o
