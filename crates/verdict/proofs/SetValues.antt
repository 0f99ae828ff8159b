-- The diagram of a set's entry: reduced, with the header's variables alone, and with the value that 02 gives it under every assignment,
-- whatever its length. The idea: variables beyond the set, and those that are missing, add no true one. Assumes nothing.
use mathlib.Core.Path.{◌≡◌, refl, sym, ap, ◌∙◌}
use mathlib.Core.Bool.{Bool, false, ◌&&◌, cond, beq, and-false}
use mathlib.Core.List.{[], ◌∷◌, ◌++◌}
use Prim.Native.Nat.{ℕ, zero, suc, ◌^◌, ◌<◌}
use native.Mathlib.Omega.{arith}
use lib.ListN.{replicate}
use lib.Dec.{eqb, leb}
use Rattle.meaning.specs.Diagram.{Assignment, value}
use Rattle.meaning.specs.Reduced.{Reduced}
use Rattle.meaning.specs.Sets.{trues_from, is_odd, parity_value, parity, at_least_value, at_least}
use Rattle.meaning.specs.Words.{in_word}
use Rattle.meaning.proofs.Values.{diagram-reduced}
use Rattle.meaning.proofs.Sets.{trues-take, word-within}
use Rattle.records.specs.declared.SetKind.{SetKind}
use Rattle.records.specs.declared.SetKind.TheVariants.{Parity, AtLeast}
use Rattle.records.specs.declared.SetBody.{SetBody}
use Rattle.verdict.specs.Steps.{set_diagram}
use Rattle.verdict.specs.Taken.{set_meant}
use Rattle.verdict.proofs.Fitted.{fitted, diagram-fitted}

module _ (S : ℕ → Bool) where
  trues-filled : (k i : ℕ) (a : Assignment) → trues_from S i (a ++ replicate k false) ≡ trues_from S i a
  unfolding trues_from
  trues-filled zero i [] = refl
  trues-filled (suc k) i [] = rw (and-false (S i)) (trues-filled k (suc i) [])
  trues-filled k i (b ∷ a) = ap (λ (m : ℕ). cond (S i && b) (suc m) m) (trues-filled k (suc i) a)

  trues-fitted : (n : ℕ) → ((u : ℕ) → n < u → S u ≡ false) → (a : Assignment) → trues_from S 1 (fitted n a) ≡ trues_from S 1 a
  trues-fitted n none a = sym (trues-take S n 1 (a ++ replicate n false) (λ u p q. none u (omega arith))) ∙ trues-filled n 1 a

pub set-reduced : (n : ℕ) (kind : SetKind) (b : SetBody) → Reduced 1 (suc n) (set_diagram n kind b)
unfolding parity at_least
set-reduced n Parity b = diagram-reduced n (parity_value (in_word b.set) (eqb b.byte 1))
set-reduced n AtLeast b = diagram-reduced n (at_least_value (in_word b.set) b.byte)

-- "its value [..] is 1 where the number of the set's true variables is odd or even, as the byte says, or at least k; else 0" (02, 5/14)
pub set-valued : (n : ℕ) (kind : SetKind) (b : SetBody) → b.set < 2 ^ n → (a : Assignment) → value (set_diagram n kind b) a
    ≡ set_meant kind b a
unfolding parity parity_value at_least at_least_value
set-valued n Parity b within a =
    diagram-fitted n (parity_value (in_word b.set) (eqb b.byte 1)) a
    ∙ ap (λ (m : ℕ). beq (is_odd m) (eqb b.byte 1)) (trues-fitted (in_word b.set) n (λ u p. word-within n b.set u within p) a)
set-valued n AtLeast b within a =
    diagram-fitted n (at_least_value (in_word b.set) b.byte) a
    ∙ ap (leb b.byte) (trues-fitted (in_word b.set) n (λ u p. word-within n b.set u within p) a)
