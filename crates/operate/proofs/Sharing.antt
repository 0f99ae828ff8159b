-- What f has of the variables that g forces: a cofactor of f by what forces none of them from f's first on is f, a word of them is one for
-- the sides of f and g, and the word of all variables is one for any two. The idea: Uses and Forces go down to both sides. Assumes nothing.
use mathlib.Core.Path.{◌≡◌, refl, sym, ◌∙◌, subst}
use mathlib.Core.Bool.{Bool, true, false}
use Prim.Native.Nat.{ℕ, ◌≤◌, ◌<◌}
use native.Mathlib.Omega.{arith}
use lib.ListN.{get_or}
use lib.Bits.{bit_or}
use borrow.Author.Tests.{le-ltb}
use Rattle.meaning.specs.Diagram.{Diagram}
use Rattle.meaning.specs.Reduced.{Reduced}
use Rattle.meaning.specs.Words.{in_word}
use Rattle.meaning.specs.Uses.{Uses, Forces}
use Rattle.meaning.proofs.Booleans.{t≢f, not-true, or-neither}
use Rattle.meaning.proofs.Canonical.{side}
use Rattle.meaning.proofs.Words.{in-or}
use Rattle.meaning.proofs.Uses.{uses-side, uses-reduced, uses-forces, forces-side, literals-before, cofactor-before}
use Rattle.words.specs.declared.Literals as words
use Rattle.words.specs.Sets.{all_word, ends_before}
use Rattle.words.proofs.Variables.{in_all, none_from}
use Rattle.table.specs.Nodes.{diagram_at}
use Rattle.table.specs.Indexed.{Table, nodes_of, Good}
use Rattle.operate.specs.declared.Operation.{Operation}
use Rattle.operate.specs.declared.Operation.TheVariants.{Conjunction, Negation, Cofactor, Literals}
use Rattle.operate.specs.declared.step.Kind.{Kind}
use Rattle.operate.specs.declared.step.Kind.TheVariants.{And, Not, ByDiagram, ByLiterals}
use Rattle.operate.specs.Operate.{result}
use Rattle.operate.specs.Inner.{Allowed, operation_of, level, beyond, Sharing, Shared, Right}
use Rattle.operate.proofs.Levels.{diagram_of, zero_is, level-least, level-most, level-reduced}

-- ---- other nodes, or the same in another table

-- what is asked of a cofactor by a diagram alone
for-cofactor : (op : Operation) (shared : ℕ) (t u : Table) (f g a b : ℕ)
    → (Sharing shared (diagram_at (nodes_of t) f) (diagram_at (nodes_of t) g) →
    Sharing shared (diagram_at (nodes_of u) a) (diagram_at (nodes_of u) b))
    → Shared op shared t f g → Shared op shared u a b
for-cofactor Conjunction shared t u f g a b k s = tt
for-cofactor Negation shared t u f g a b k s = tt
for-cofactor Cofactor shared t u f g a b k s = k s
for-cofactor (Literals p n) shared t u f g a b k s = tt

sharing-same : (shared : ℕ) (f g a b : Diagram) → f ≡ a → g ≡ b → Sharing shared f g → Sharing shared a b
sharing-same shared f g a b e q s = record {
  first = s.first;
  second = s.second;
  first-uses = subst (Uses s.first) e s.first-uses;
  second-forces = subst (Forces s.second) q s.second-forces;
  common = s.common;
}

sharing-side : (shared x : ℕ) (which : Bool) (f g : Diagram) → Sharing shared f g → Sharing shared (side x which f) (side x which g)
sharing-side shared x which f g s = record {
  first = s.first;
  second = s.second;
  first-uses = uses-side s.first x which f s.first-uses;
  second-forces = forces-side s.second x which g s.second-forces;
  common = s.common;
}

-- The nodes a and b are f and g on one side.
pub record SideOf (t : Table) (f g a b : ℕ) : Type 0 where
  pub variable : ℕ
  pub which : Bool
  pub first : side variable which (diagram_at (nodes_of t) f) ≡ diagram_at (nodes_of t) a
  pub second : side variable which (diagram_at (nodes_of t) g) ≡ diagram_at (nodes_of t) b

module _ (op : Operation) (shared : ℕ) (t : Table) (f g : ℕ) where
  pub shared-side : (a b : ℕ) → SideOf t f g a b → Shared op shared t f g → Shared op shared t a b
  shared-side a b o =
      for-cofactor op shared t t f g a b
      (λ s. sharing-same shared (side o.variable o.which (diagram_at (nodes_of t) f))
      (side o.variable o.which (diagram_at (nodes_of t) g)) _ _ o.first o.second
      (sharing-side shared o.variable o.which (diagram_at (nodes_of t) f) (diagram_at (nodes_of t) g) s))

  -- in a table that has grown
  pub shared_kept : (u : Table) → diagram_at (nodes_of u) f ≡ diagram_at (nodes_of t) f → diagram_at (nodes_of u) g
      ≡ diagram_at (nodes_of t) g →
      Shared op shared t f g → Shared op shared u f g
  shared_kept u e q =
      for-cofactor op shared t u f g f g (sharing-same shared (diagram_at (nodes_of t) f) (diagram_at (nodes_of t) g)
      (diagram_at (nodes_of u) f)
      (diagram_at (nodes_of u) g) (sym e) (sym q))

module _ (t : Table) (G : Good t) (f g : ℕ) (f-inside : f < t.count) (g_inside : g < t.count) where
  abbrev F : Diagram
  F = diagram_of t G f

  abbrev E : Diagram
  E = diagram_of t G g

  E-reduced : Reduced 1 65 E
  E-reduced = level-reduced t G g g_inside 1 (level-least t G g g_inside)

  -- ---- the word of all variables

  pub all-shared : (op : Operation) → Shared op (all_word 64) t f g
  all-shared Conjunction = tt
  all-shared Negation = tt
  all-shared Cofactor = record {
    first = in_word (all_word 64);
    second = λ v. true;
    first-uses = uses-reduced (in_word (all_word 64)) 65 1 F (level-reduced t G f f-inside 1 (level-least t G f f-inside))
        (λ v p q. in_all 64 v p (omega arith));
    second-forces = uses-forces (λ v. true) E (uses-reduced (λ v. true) 65 1 E E-reduced (λ v p q. refl));
    common = λ v p q. p;
  }
  all-shared (Literals p n) = tt

  -- ---- a first operand beyond what is shared

  module _ (two : 2 ≤ f) where
    abbrev x : ℕ
    x = get_or t.vars f 0

    level-is : level t.vars f ≡ x
    level-is = rw (le-ltb f 2 two)

    pub variable-fits : (1 ≤ x) × (x ≤ 64)
    variable-fits = (omega (arith, level-is, level-least t G f f-inside), omega (arith, level-is, level-most t G f f-inside two))

    F-reduced : Reduced x 65 F
    F-reduced = level-reduced t G f f-inside x (omega (arith, level-is))

    right : (op : Operation) → result op F E ≡ F → Right op t f g f
    right op e = record { f-inside = f-inside; g_inside = g_inside; inside = f-inside; is = sym e }

    module _ (by : words.Literals) (ends : ends_before (bit_or by.positive by.negative) x ≡ true) where
      none : (v : ℕ) → x ≤ v → (in_word by.positive v ≡ false) × (in_word by.negative v ≡ false)
      none v p =
          or-neither (in_word by.positive v) (in_word by.negative v)
          (sym (in-or by.positive by.negative v) ∙ none_from (bit_or by.positive by.negative) x variable-fits.0 ends v p)

      by-diagram : (g ≡ 0 → ⊥) → Sharing by.positive F E → Right Cofactor t f g f
      unfolding result
      by-diagram allowed s =
          right Cofactor
          (cofactor-before 64 x s.first s.second (λ v p q. not-true (s.second v) (λ r. t≢f (sym (s.common v q r) ∙ (none v p).0)))
          F E variable-fits.0 F-reduced E-reduced (λ z. allowed (zero_is t G g g_inside z)) s.first-uses s.second-forces)

      by-literals : Right (Literals by.positive by.negative) t f g f
      unfolding result
      by-literals =
          right (Literals by.positive by.negative)
          (literals-before 64 x (in_word by.positive) (in_word by.negative) none F variable-fits.0 F-reduced)

    pub beyond-right : (kind : Kind) (by : words.Literals) → Allowed (operation_of kind by) g →
        Shared (operation_of kind by) by.positive t f g → beyond kind by x ≡ true
        → Right (operation_of kind by) t f g f
    beyond-right And by allowed s e = t≢f (sym e)
    beyond-right Not by allowed s e = t≢f (sym e)
    beyond-right ByDiagram by allowed s e = by-diagram by e allowed s
    beyond-right ByLiterals by allowed s e = by-literals by e
