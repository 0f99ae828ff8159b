-- An operation with its literals cut to a word is its kind and what it is by, cut. The idea: operation by operation. Assumes nothing.
use mathlib.Core.Path.{◌≡◌, refl, sym, ap, ap₂, ◌∙◌, subst}
use mathlib.Core.Bool.{◌&&◌}
use Prim.Native.Nat.{ℕ}
use lib.Bits.{bit_and}
use Rattle.meaning.specs.Diagram.{Diagram}
use Rattle.meaning.proofs.Words.{in_and}
use Rattle.words.specs.declared.Literals as words
use Rattle.table.specs.Indexed.{Table}
use Rattle.operate.specs.declared.Operation.{Operation}
use Rattle.operate.specs.declared.Operation.TheVariants.{Conjunction, Negation, Cofactor, Literals}
use Rattle.operate.specs.declared.step.Kind.{Kind}
use Rattle.operate.specs.Inner.{Allowed, kind_of, by_of, operation_of, Sharing, Shared, Operands}
use Rattle.thin.specs.Thin.{cut_by, cut_to}

joined-cut : (op : Operation) (word : ℕ) → operation_of (kind_of op) (cut_by (by_of op word) word) ≡ cut_to op word
joined-cut Conjunction word = refl
joined-cut Negation word = refl
joined-cut Cofactor word = refl
joined-cut (Literals p n) word = refl

pub operands-cut : (op : Operation) (word : ℕ) (t : Table) (f g : ℕ) → Operands op t f g → Operands (cut_to op word) t f g
operands-cut op word t f g R =
    record { good = R.good; f-inside = R.f-inside; g_inside = R.g_inside; allowed = allowed op R.allowed }
  where
    allowed : (op : Operation) → Allowed op g → Allowed (cut_to op word) g
    allowed Conjunction a = a
    allowed Negation a = a
    allowed Cofactor a = a
    allowed (Literals p n) a = a

-- a word cut to itself
sharing-cut : (word : ℕ) (f g : Diagram) → Sharing word f g → Sharing (bit_and word word) f g
sharing-cut word f g s = record {
  first = s.first;
  second = s.second;
  first-uses = s.first-uses;
  second-forces = s.second-forces;
  common = λ v p q. in_and word word v ∙ ap₂ ◌&&◌ (s.common v p q) (s.common v p q);
}

-- the word is handed on where it is asked for
handed-cut : (op : Operation) (word : ℕ) (t : Table) (f g : ℕ) → Shared op word t f g →
    Shared (operation_of (kind_of op) (cut_by (by_of op word) word)) (cut_by (by_of op word) word).positive t f g
handed-cut Conjunction word t f g s = tt
handed-cut Negation word t f g s = tt
handed-cut Cofactor word t f g s = sharing-cut word _ _ s
handed-cut (Literals p n) word t f g s = tt

-- with what the code has taken from the operation
module _ (op : Operation) (word : ℕ) (kind : Kind) (by cut : words.Literals) (k : kind ≡ kind_of op) (b : by ≡ by_of op word)
    (c : cut ≡ cut_by by word) where
  cut-is : cut ≡ cut_by (by_of op word) word
  cut-is = c ∙ ap (λ (u : words.Literals). cut_by u word) b

  pub cut_again : operation_of kind cut ≡ cut_to op word
  cut_again = ap₂ operation_of k cut-is ∙ joined-cut op word

  pub shared-cut : (t : Table) (f g : ℕ) → Shared op word t f g → Shared (operation_of kind cut) cut.positive t f g
  shared-cut t f g s =
      subst (λ (kind : Kind). Shared (operation_of kind cut) cut.positive t f g) (sym k)
      (subst (λ (u : words.Literals). Shared (operation_of (kind_of op) u) u.positive t f g) (sym cut-is) (handed-cut op word t f g s))
