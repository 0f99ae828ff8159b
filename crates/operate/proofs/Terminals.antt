-- The terminal cases: where the node numbers tell the result it is right, and where they do not the first operand is a node. The idea:
-- each case is one law of its operation, at the diagrams of the numbers tested. Assumes nothing.
use mathlib.Core.Path.{◌≡◌, refl, sym, ap, ◌∙◌, subst}
use mathlib.Core.Bool.{Bool, true, false}
use Prim.Native.Nat.{ℕ, ◌≤◌, ◌<◌}
use native.Mathlib.Omega.{arith}
use native.Mathlib.Decide.{ℕ_discrete}
use borrow.Author.Tests.{eq-eqb, ne_eqb, lt-ltb, le-ltb}
use Rattle.meaning.specs.Diagram.{Diagram, leaf}
use Rattle.meaning.specs.Reduced.{Reduced}
use Rattle.meaning.specs.Operations.{conjunction, cofactor}
use Rattle.meaning.proofs.PointwiseSteps.{negation-leaf, zero-conjunction, one-conjunction, conjunction-zero, conjunction-one}
use Rattle.meaning.proofs.PointwiseSteps.{conjunction-same, literals-leaf}
use Rattle.meaning.proofs.CofactorSteps.{cofactor-leaf, cofactor-true, cofactor-self}
use Rattle.table.specs.declared.Found.{Found}
use Rattle.table.specs.declared.Found.TheVariants.{At, Nothing}
use Rattle.table.specs.Indexed.{Table, Good}
use Rattle.operate.specs.declared.Operation.{Operation}
use Rattle.operate.specs.declared.Operation.TheVariants.{Conjunction, Negation, Cofactor, Literals}
use Rattle.meaning.specs.Words.{in_word}
use Rattle.operate.specs.Operate.{result}
use Rattle.operate.specs.Inner.{Allowed, found, terminal_of, Right}
use Rattle.operate.proofs.Levels.{diagram_of, is_zero, is_one, zero_is, level-least, level-reduced}

from-two : (k : ℕ) → (k ≡ 0 → ⊥) → (k ≡ 1 → ⊥) → 2 ≤ k
from-two k a b = omega (arith, a, b)

number : Found → ℕ
number (At k) = k.0
number Nothing = 0

found_number : (i j : ℕ) → found i ≡ found j → i ≡ j
unfolding number
found_number i j e = ap number e

-- what the code's test says, where it is asked with an operation that is op
pub told_of : (op asked : Operation) (f g : ℕ) (said : Found) → said ≡ terminal_of asked f g → asked ≡ op → terminal_of op f g ≡ said
told_of op asked f g said e q = sym (e ∙ ap (λ (o : Operation). terminal_of o f g) q)

-- What the numbers tell.
pub data Told (op : Operation) (t : Table) (f g : ℕ) : Type 0 where
  known : (k : ℕ) → terminal_of op f g ≡ found k → Right op t f g k → Told op t f g
  unknown : terminal_of op f g ≡ Nothing → 2 ≤ f → Told op t f g

module _ (t : Table) (G : Good t) (f g : ℕ) (f-inside : f < t.count) (g_inside : g < t.count) where
  right : (op : Operation) (k : ℕ) → k < t.count → diagram_of t G k ≡ result op (diagram_of t G f) (diagram_of t G g) → Right op t f g k
  right op k p e = record { f-inside = f-inside; g_inside = g_inside; inside = p; is = e }

  two-there : 2 ≤ t.count
  two-there = G.least

  abbrev F : Diagram
  F = diagram_of t G f

  abbrev E : Diagram
  E = diagram_of t G g

  F-reduced : Reduced 1 65 F
  F-reduced = level-reduced t G f f-inside 1 (level-least t G f f-inside)

  E-reduced : Reduced 1 65 E
  E-reduced = level-reduced t G g g_inside 1 (level-least t G g g_inside)

  told-conjunction : Told Conjunction t f g
  unfolding terminal_of result
  told-conjunction = go (ℕ_discrete f 0) (ℕ_discrete g 0) (ℕ_discrete f 1) (ℕ_discrete g 1) (ℕ_discrete f g)
    where
      go : Dec (f ≡ 0) → Dec (g ≡ 0) → Dec (f ≡ 1) → Dec (g ≡ 1) → Dec (f ≡ g) → Told Conjunction t f g
      go (yes a) b c d e =
          known 0 (rw (eq-eqb f 0 a)) (right Conjunction 0 (omega (arith, two-there))
          (is_zero t G 0 refl ∙ sym (rw (is_zero t G f a) (zero-conjunction 64 E))))
      go (no a) (yes b) c d e =
          known 0 (rw (ne_eqb f 0 a, eq-eqb g 0 b))
          (right Conjunction 0 (omega (arith, two-there)) (is_zero t G 0 refl ∙ sym (rw (is_zero t G g b) (conjunction-zero 64 F))))
      go (no a) (no b) (yes c) d e =
          known g (rw (ne_eqb f 0 a, ne_eqb g 0 b, eq-eqb f 1 c))
          (right Conjunction g g_inside (sym (rw (is_one t G f c) (one-conjunction 64 E E-reduced))))
      go (no a) (no b) (no c) (yes d) e =
          known f (rw (ne_eqb f 0 a, ne_eqb g 0 b, ne_eqb f 1 c, eq-eqb g 1 d))
          (right Conjunction f f-inside (sym (rw (is_one t G g d) (conjunction-one 64 F F-reduced))))
      go (no a) (no b) (no c) (no d) (yes e) =
          known f (rw (ne_eqb f 0 a, ne_eqb g 0 b, ne_eqb f 1 c, ne_eqb g 1 d, eq-eqb f g e))
          (right Conjunction f f-inside (sym (ap (λ (k : ℕ). conjunction 64 F (diagram_of t G k)) (sym e)
          ∙ conjunction-same 64 F F-reduced)))
      go (no a) (no b) (no c) (no d) (no e) =
          unknown (rw (ne_eqb f 0 a, ne_eqb g 0 b, ne_eqb f 1 c, ne_eqb g 1 d, ne_eqb f g e)) (from-two f a c)

  told-negation : Told Negation t f g
  unfolding terminal_of result
  told-negation = go (ℕ_discrete f 0) (ℕ_discrete f 1)
    where
      go : Dec (f ≡ 0) → Dec (f ≡ 1) → Told Negation t f g
      go (yes a) b =
          known 1 (rw (eq-eqb f 0 a)) (right Negation 1 (omega (arith, two-there))
          (is_one t G 1 refl ∙ sym (rw (is_zero t G f a) (negation-leaf 64 false))))
      go (no a) (yes b) =
          known 0 (rw (ne_eqb f 0 a, eq-eqb f 1 b))
          (right Negation 0 (omega (arith, two-there)) (is_zero t G 0 refl ∙ sym (rw (is_one t G f b) (negation-leaf 64 true))))
      go (no a) (no b) = unknown (rw (ne_eqb f 0 a, ne_eqb f 1 b)) (from-two f a b)

  told-cofactor : (g ≡ 0 → ⊥) → Told Cofactor t f g
  unfolding terminal_of result
  told-cofactor allowed = go (ℕ_discrete f 0) (ℕ_discrete f 1) (ℕ_discrete g 1) (ℕ_discrete f g)
    where
      constant : (b : Bool) → f < 2 → F ≡ leaf b → Told Cofactor t f g
      constant b p e = known f (rw (lt-ltb f 2 p)) (right Cofactor f f-inside (e ∙ sym (rw e (cofactor-leaf 64 b E))))

      go : Dec (f ≡ 0) → Dec (f ≡ 1) → Dec (g ≡ 1) → Dec (f ≡ g) → Told Cofactor t f g
      go (yes a) b c d = constant false (omega arith) (is_zero t G f a)
      go (no a) (yes b) c d = constant true (omega arith) (is_one t G f b)
      go (no a) (no b) (yes c) d =
          known f (rw (le-ltb f 2 (from-two f a b), eq-eqb g 1 c))
          (right Cofactor f f-inside (sym (rw (is_one t G g c) (cofactor-true 64 F F-reduced))))
      go (no a) (no b) (no c) (yes d) =
          known 1 (rw (le-ltb f 2 (from-two f a b), ne_eqb g 1 c, eq-eqb f g d))
          (right Cofactor 1 (omega (arith, two-there))
          (is_one t G 1 refl ∙ sym (ap (λ (k : ℕ). cofactor 64 F (diagram_of t G k)) (sym d)
          ∙ cofactor-self 64 F F-reduced (λ z. a (zero_is t G f f-inside z)))))
      go (no a) (no b) (no c) (no d) = unknown (rw (le-ltb f 2 (from-two f a b), ne_eqb g 1 c, ne_eqb f g d)) (from-two f a b)

  told-literals : (p n : ℕ) → Told (Literals p n) t f g
  unfolding terminal_of result
  told-literals p n = go (ℕ_discrete f 0) (ℕ_discrete f 1)
    where
      constant : (b : Bool) → f < 2 → F ≡ leaf b → Told (Literals p n) t f g
      constant b q e = known f (rw (lt-ltb f 2 q))
          (right (Literals p n) f f-inside (e ∙ sym (rw e (literals-leaf 64 (in_word p) (in_word n) b))))

      go : Dec (f ≡ 0) → Dec (f ≡ 1) → Told (Literals p n) t f g
      go (yes a) b = constant false (omega arith) (is_zero t G f a)
      go (no a) (yes b) = constant true (omega arith) (is_one t G f b)
      go (no a) (no b) = unknown (rw (le-ltb f 2 (from-two f a b))) (from-two f a b)

  pub told : (op : Operation) → Allowed op g → Told op t f g
  told Conjunction allowed = told-conjunction
  told Negation allowed = told-negation
  told Cofactor allowed = told-cofactor allowed
  told (Literals p n) allowed = told-literals p n

  -- ---- as the code meets it

  pub terminal-right : (op : Operation) → Allowed op g → (k : ℕ) → terminal_of op f g ≡ found k → Right op t f g k
  terminal-right op allowed k e = go (told op allowed)
    where
      go : Told op t f g → Right op t f g k
      go (known j p r) = subst (Right op t f g) (found_number j k (sym p ∙ e)) r
      go (unknown p two) = let q : Nothing ≡ found k = sym p ∙ e in let z : ◌≡◌ {A = ℕ} 0 1 = cc in absurd (omega arith)

  pub terminal-two : (op : Operation) → Allowed op g → terminal_of op f g ≡ Nothing → 2 ≤ f
  terminal-two op allowed e = go (told op allowed)
    where
      go : Told op t f g → 2 ≤ f
      go (known j p r) = let q : found j ≡ Nothing = sym p ∙ e in let z : ◌≡◌ {A = ℕ} 0 1 = cc in absurd (omega arith)
      go (unknown p two) = two
