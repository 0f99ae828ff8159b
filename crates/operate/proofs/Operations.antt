-- An operation is its kind and what it is by. The idea: operation by operation. Assumes nothing.
use mathlib.Core.Path.{◌≡◌, refl, sym, ap₂, ◌∙◌, subst}
use Prim.Native.Nat.{ℕ}
use Rattle.words.specs.declared.Literals as words
use Rattle.table.specs.Indexed.{Table}
use Rattle.operate.specs.declared.Operation.{Operation}
use Rattle.operate.specs.declared.Operation.TheVariants.{Conjunction, Negation, Cofactor, Literals}
use Rattle.operate.specs.declared.step.Kind.{Kind}
use Rattle.operate.specs.Inner.{kind_of, by_of, operation_of, Shared}

joined-again : (op : Operation) (shared : ℕ) → operation_of (kind_of op) (by_of op shared) ≡ op
joined-again Conjunction shared = refl
joined-again Negation shared = refl
joined-again Cofactor shared = refl
joined-again (Literals p n) shared = refl

-- the word is handed on where it is asked for
handed-on : (op : Operation) (shared : ℕ) (t : Table) (f g : ℕ) → Shared op shared t f g →
    Shared (operation_of (kind_of op) (by_of op shared)) (by_of op shared).positive t f g
handed-on Conjunction shared t f g s = tt
handed-on Negation shared t f g s = tt
handed-on Cofactor shared t f g s = s
handed-on (Literals p n) shared t f g s = tt

-- with what the code has taken from the operation
module _ (op : Operation) (shared : ℕ) (kind : Kind) (by : words.Literals) (k : kind ≡ kind_of op) (b : by ≡ by_of op shared) where
  pub whole_again : operation_of kind by ≡ op
  whole_again = ap₂ operation_of k b ∙ joined-again op shared

  pub shared-again : (t : Table) (f g : ℕ) → Shared op shared t f g → Shared (operation_of kind by) by.positive t f g
  shared-again t f g s =
      subst (λ (kind : Kind). Shared (operation_of kind by) by.positive t f g) (sym k)
      (subst (λ (by : words.Literals). Shared (operation_of (kind_of op) by) by.positive t f g) (sym b) (handed-on op shared t f g s))
