-- The laws that a recursion over nodes computes negation, conjunction, the cofactor by literals and entries by, all about the literal
-- operations. The idea: both sides are reduced and have the same values. Assumes nothing.
use mathlib.Core.Path.{◌≡◌, refl, sym, ap, ap₂, ◌∙◌}
use mathlib.Core.Logic.{◌≢◌}
use mathlib.Core.Bool.{Bool, true, false, not, ◌&&◌, cond}
use Prim.Native.Nat.{ℕ, suc, ◌-◌, ◌≤◌}
use native.Mathlib.Omega.{arith}
use lib.ListN.{length, take}
use lib.Seq.{get_or-take, length-take-le}
use Rattle.meaning.specs.Diagram.{Assignment, holds, Diagram, leaf, node, value_from, value, branch}
use Rattle.meaning.specs.Reduced.{Reduced}
use Rattle.meaning.specs.Operations.{conjunction, negation, forced, cofactor_literals}
use Rattle.meaning.proofs.Canonical.{reduced-from, branch-reduced, side, side-reduced}
use Rattle.meaning.proofs.Booleans.{not-not, not-cond, and-cond, and_same, and_commutes}
use Rattle.meaning.proofs.Values.{value-agree, value-take, branch-at, side-at, diagram-cong, diagram-is, diagram-width}
use Rattle.meaning.proofs.Pointwise.{forced-at, forced-cong, conjunction-value, conjunction-from, negation-value, negation-from}
use Rattle.meaning.proofs.Pointwise.{literals-value, literals-from}

-- a branch at variable v of the variables 1 to n
reduced-branch : (n v : ℕ) (l h : Diagram) → 1 ≤ v → v ≤ n → Reduced (suc v) (suc n) l → Reduced (suc v) (suc n) h →
    Reduced 1 (suc n) (branch v l h)
reduced-branch n v l h lo hi ol oh = reduced-from 1 v (suc n) (branch v l h) lo (branch-reduced v (suc n) l h (omega arith) ol oh)

-- ---- negation

module _ (n : ℕ) where
  pub negation-leaf : (b : Bool) → negation n (leaf b) ≡ leaf (not b)
  unfolding negation value_from
  negation-leaf b = diagram-is n _ (leaf (not b)) tt (λ a len. refl)

  pub negation-twice : (f : Diagram) → Reduced 1 (suc n) f → negation n (negation n f) ≡ f
  unfolding negation
  negation-twice f o = diagram-is n _ f o (λ a len. ap not (negation-value n a len f) ∙ not-not (value f a))

  pub negation-node : (v : ℕ) (l h : Diagram) → Reduced 1 (suc n) (node v l h) → negation n (node v l h)
      ≡ node v (negation n l) (negation n h)
  unfolding negation value_from
  negation-node v l h o =
      diagram-is n _ (node v (negation n l) (negation n h))
      (o.0, o.1, differ, negation-from n (suc v) l o.3, negation-from n (suc v) h o.4) λ a len.
      not-cond (holds a v) (value h a) (value l a) ∙ sym (ap₂ (cond (holds a v)) (negation-value n a len h) (negation-value n a len l))
    where
      differ : negation n l ≢ negation n h
      differ e = o.2 (sym (negation-twice l (reduced-from 1 (suc v) (suc n) l (omega arith) o.3)) ∙ ap (negation n) e
          ∙ negation-twice h (reduced-from 1 (suc v) (suc n) h (omega arith) o.4))

-- ---- conjunction

module _ (n : ℕ) where
  conjunction-commutes : (f g : Diagram) → conjunction n f g ≡ conjunction n g f
  unfolding conjunction
  conjunction-commutes f g = diagram-cong n _ _ (λ a len. and_commutes (value f a) (value g a))

  pub conjunction-same : (f : Diagram) → Reduced 1 (suc n) f → conjunction n f f ≡ f
  unfolding conjunction
  conjunction-same f o = diagram-is n _ f o (λ a len. and_same (value f a))

  pub zero-conjunction : (g : Diagram) → conjunction n (leaf false) g ≡ leaf false
  unfolding conjunction value_from
  zero-conjunction g = diagram-is n _ (leaf false) tt (λ a len. refl)

  pub one-conjunction : (g : Diagram) → Reduced 1 (suc n) g → conjunction n (leaf true) g ≡ g
  unfolding conjunction value_from
  one-conjunction g o = diagram-is n _ g o (λ a len. refl)

  pub conjunction-zero : (f : Diagram) → conjunction n f (leaf false) ≡ leaf false
  conjunction-zero f = conjunction-commutes f (leaf false) ∙ zero-conjunction f

  pub conjunction-one : (f : Diagram) → Reduced 1 (suc n) f → conjunction n f (leaf true) ≡ f
  conjunction-one f o = conjunction-commutes f (leaf true) ∙ one-conjunction f o

  -- at the lesser of the two top variables, or at any not above both
  pub conjunction-branch : (x : ℕ) (f g : Diagram) → 1 ≤ x → x ≤ n → Reduced x (suc n) f → Reduced x (suc n) g
      → conjunction n f g ≡ branch x (conjunction n (side x false f) (side x false g)) (conjunction n (side x true f) (side x true g))
  unfolding conjunction
  conjunction-branch x f g lo hi of og =
      diagram-is n _ (branch x (both false) (both true))
      (reduced-branch n x (both false) (both true) lo hi (both-from false) (both-from true)) λ a len.
      ap₂ ◌&&◌ (side-at 1 x f a) (side-at 1 x g a)
      ∙ and-cond (holds a x) (value (side x true f) a) (value (side x false f) a) (value (side x true g) a) (value (side x false g) a)
      ∙ sym (branch-at 1 x (both false) (both true) a
      ∙ ap₂ (cond (holds a x)) (conjunction-value n a len (side x true f) (side x true g))
      (conjunction-value n a len (side x false f) (side x false g)))
    where
      both : Bool → Diagram
      both b = conjunction n (side x b f) (side x b g)

      both-from : (b : Bool) → Reduced (suc x) (suc n) (both b)
      both-from b = conjunction-from n (suc x) (side x b f) (side x b g) (side-reduced x (suc n) b f of) (side-reduced x (suc n) b g og)

-- ---- entries

-- ---- the cofactor by literals

module _ (n : ℕ) (P N : ℕ → Bool) where
  pub literals-leaf : (b : Bool) → cofactor_literals n P N (leaf b) ≡ leaf b
  unfolding cofactor_literals value_from
  literals-leaf b = diagram-is n _ (leaf b) tt (λ a len. refl)

  pub literals-high : (v : ℕ) (l h : Diagram) → 1 ≤ v → v ≤ n → P v ≡ true → cofactor_literals n P N (node v l h)
      ≡ cofactor_literals n P N h
  unfolding cofactor_literals value_from
  literals-high v l h lo hi p = diagram-cong n _ _ λ a len. rw (forced-at P N 1 a v lo (omega arith), p)

  pub literals-low : (v : ℕ) (l h : Diagram) → 1 ≤ v → v ≤ n → P v ≡ false → N v ≡ true → cofactor_literals n P N (node v l h)
      ≡ cofactor_literals n P N l
  unfolding cofactor_literals value_from
  literals-low v l h lo hi p q = diagram-cong n _ _ λ a len. rw (forced-at P N 1 a v lo (omega arith), p, q)

  pub literals-branch : (v : ℕ) (l h : Diagram) → Reduced 1 (suc n) (node v l h) → P v ≡ false → N v ≡ false
      → cofactor_literals n P N (node v l h) ≡ branch v (cofactor_literals n P N l) (cofactor_literals n P N h)
  unfolding cofactor_literals value_from
  literals-branch v l h o p q =
      diagram-is n _ (branch v (cofactor_literals n P N l) (cofactor_literals n P N h))
      (reduced-branch n v (cofactor_literals n P N l) (cofactor_literals n P N h) o.0 (omega arith)
      (literals-from n (suc v) (omega arith) P N l o.3) (literals-from n (suc v) (omega arith) P N h o.4)) λ a len.
      rw (forced-at P N 1 a v o.0 (omega arith), p, q)
      (sym (branch-at 1 v (cofactor_literals n P N l) (cofactor_literals n P N h) a
      ∙ ap₂ (cond (holds a v)) (literals-value n a len P N h) (literals-value n a len P N l)))

  -- literals of other variables than 1 to n are not looked at
  pub literals-cong : (P' N' : ℕ → Bool) (f : Diagram) → ((v : ℕ) → 1 ≤ v → v ≤ n → P v ≡ P' v) → ((v : ℕ) → 1 ≤ v → v ≤ n → N v ≡ N' v)
      → cofactor_literals n P N f ≡ cofactor_literals n P' N' f
  unfolding cofactor_literals
  literals-cong P' N' f p q = diagram-cong n _ _ λ a len.
      ap (value f) (forced-cong P N P' N' 1 a (λ v x y. p v x (omega arith)) (λ v x y. q v x (omega arith)))

  -- nor those above the diagram
  pub literals-none : (i : ℕ) (f : Diagram) → 1 ≤ i → Reduced i (suc n) f → ((v : ℕ) → i ≤ v → v ≤ n → (P v ≡ false) × (N v ≡ false)) →
      cofactor_literals n P N f ≡ f
  unfolding cofactor_literals
  literals-none i f lo o none = diagram-is n _ f (reduced-from 1 i (suc n) f lo o) λ a len.
      value-agree 1 i (suc n) f (forced P N 1 a) a o λ v x y.
      rw (forced-at P N 1 a v (omega arith) (omega arith), (none v x (omega arith)).0, (none v x (omega arith)).1)

-- ---- more variables than are in use

module _ (m n : ℕ) (more : m ≤ n) where
  pub negation-width : (f : Diagram) → Reduced 1 (suc m) f → negation n f ≡ negation m f
  unfolding negation
  negation-width f o = diagram-width m n _ _ more (λ a len. ap not (sym (value-take m f a o)))

  pub conjunction-width : (f g : Diagram) → Reduced 1 (suc m) f → Reduced 1 (suc m) g → conjunction n f g ≡ conjunction m f g
  unfolding conjunction
  conjunction-width f g of og = diagram-width m n _ _ more (λ a len. ap₂ ◌&&◌ (sym (value-take m f a of)) (sym (value-take m g a og)))

  pub literals-width : (P N : ℕ → Bool) (f : Diagram) → Reduced 1 (suc m) f → cofactor_literals n P N f ≡ cofactor_literals m P N f
  unfolding cofactor_literals
  literals-width P N f o = diagram-width m n _ _ more λ a len.
      value-agree 1 1 (suc m) f (forced P N 1 a) (forced P N 1 (take m a)) o λ v x y.
      rw (
        forced-at P N 1 a v x (omega arith),
        forced-at P N 1 (take m a) v x (omega (arith, taken a len)),
        get_or-take m a (v - 1) false (omega arith),
      )
    where
      taken : (a : Assignment) → length a ≡ n → length (take m a) ≡ m
      taken a len = length-take-le m a (omega arith)
