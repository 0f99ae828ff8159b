-- A cofactor of a member by literals is that by those of its own variables. The idea: two sets of literals that agree on a diagram's
-- variables take the same sides. Assumes nothing.
use mathlib.Core.Path.{◌≡◌, refl, sym, ap, ap₂, ◌∙◌}
use mathlib.Core.Bool.{Bool, true, false, ◌&&◌, ◌||◌}
use Prim.Native.Nat.{ℕ, suc}
use native.Mathlib.Omega.{arith}
use lib.Bits.{bit_and, bit_or}
use Rattle.meaning.specs.Diagram.{Diagram, leaf, node, branch}
use Rattle.meaning.specs.Reduced.{Reduced}
use Rattle.meaning.specs.Operations.{cofactor_literals}
use Rattle.meaning.specs.Words.{in_word}
use Rattle.meaning.specs.Uses.{Uses}
use Rattle.meaning.proofs.Canonical.{reduced-from}
use Rattle.meaning.proofs.PointwiseSteps.{literals-leaf, literals-high, literals-low, literals-branch}
use Rattle.meaning.proofs.Words.{in_and, in-or}

module _ (n : ℕ) (P N Q M S : ℕ → Bool) (agree : (v : ℕ) → S v ≡ true → (P v ≡ Q v) × (N v ≡ M v)) where
  pub literals-agree : (f : Diagram) → Reduced 1 (suc n) f → Uses S f → cofactor_literals n P N f ≡ cofactor_literals n Q M f
  literals-agree (leaf b) o u = literals-leaf n P N b ∙ sym (literals-leaf n Q M b)
  literals-agree (node v l h) o u =
      go (P v) refl (N v) refl (literals-agree l (reduced-from 1 (suc v) (suc n) l (omega arith) o.3) u.1)
      (literals-agree h (reduced-from 1 (suc v) (suc n) h (omega arith) o.4) u.2)
    where
      go : (p : Bool) → P v ≡ p → (q : Bool) → N v ≡ q → cofactor_literals n P N l ≡ cofactor_literals n Q M l →
          cofactor_literals n P N h ≡ cofactor_literals n Q M h → cofactor_literals n P N (node v l h)
          ≡ cofactor_literals n Q M (node v l h)
      go true x q y low high =
          literals-high n P N v l h o.0 (omega arith) x ∙ high
          ∙ sym (literals-high n Q M v l h o.0 (omega arith) (sym (agree v u.0).0 ∙ x))
      go false x true y low high =
          literals-low n P N v l h o.0 (omega arith) x y ∙ low
          ∙ sym (literals-low n Q M v l h o.0 (omega arith) (sym (agree v u.0).0 ∙ x) (sym (agree v u.0).1 ∙ y))
      go false x false y low high =
          literals-branch n P N v l h o x y ∙ ap₂ (branch v) low high
          ∙ sym (literals-branch n Q M v l h o (sym (agree v u.0).0 ∙ x) (sym (agree v u.0).1 ∙ y))

-- ---- words

left-kept : (a b : Bool) → (a && (a || b)) ≡ a
left-kept true b = refl
left-kept false b = refl

right_kept : (a b : Bool) → (b && (a || b)) ≡ b
right_kept true true = refl
right_kept true false = refl
right_kept false true = refl
right_kept false false = refl

-- a variable of the word is in the literals cut to what it shares with them exactly where it is in the literals
module _ (p n word v : ℕ) (here : in_word word v ≡ true) where
  shared-is : in_word (bit_and word (bit_or p n)) v ≡ (in_word p v || in_word n v)
  shared-is = in_and word (bit_or p n) v ∙ ap (λ (b : Bool). b && in_word (bit_or p n) v) here ∙ in-or p n v

  pub cut-positive : in_word (bit_and p (bit_and word (bit_or p n))) v ≡ in_word p v
  cut-positive = in_and p (bit_and word (bit_or p n)) v ∙ ap (λ (b : Bool). in_word p v && b) shared-is
      ∙ left-kept (in_word p v) (in_word n v)

  pub cut-negative : in_word (bit_and n (bit_and word (bit_or p n))) v ≡ in_word n v
  cut-negative = in_and n (bit_and word (bit_or p n)) v ∙ ap (λ (b : Bool). in_word n v && b) shared-is
      ∙ right_kept (in_word p v) (in_word n v)
