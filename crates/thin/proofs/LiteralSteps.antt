-- A step of a cofactor by literals, whose second node is 1: the sides are the first node's children, and one of them is told where it is a
-- constant or has no variable of the literals left. The idea: node 1 has no variable, so the step is that of two nodes. Assumes nothing.
use mathlib.Core.Path.{◌≡◌, refl, sym, ap, ◌∙◌, subst}
use mathlib.Core.Bool.{Bool, true, false, cond}
use mathlib.Core.List.{List}
use Prim.Native.Nat.{ℕ, ◌≤◌, ◌<◌}
use native.Mathlib.Omega.{arith}
use lib.ListN.{get_or}
use lib.Bits.{bit_or}
use borrow.Author.Tests.{eq-eqb, ne_eqb, lt-ltb, le-ltb}
use Rattle.meaning.specs.Diagram.{Diagram}
use Rattle.meaning.proofs.Booleans.{t≢f}
use Rattle.meaning.specs.Words.{in_word}
use Rattle.table.specs.declared.NodeNo.{NodeNo}
use Rattle.table.specs.declared.Found.{Found}
use Rattle.table.specs.declared.Found.TheVariants.{Nothing}
use Rattle.table.specs.Nodes.{Node}
use Rattle.table.specs.Indexed.{Table}
use Rattle.table.proofs.Written.{good-ordered, var-at}
use Rattle.words.specs.declared.Literals as words
use Rattle.words.specs.Sets.{ends_before}
use Rattle.operate.specs.declared.Operation.{Operation}
use Rattle.operate.specs.declared.step.Kind.TheVariants.{ByLiterals}
use Rattle.operate.specs.declared.step.Sides.{Sides}
use Rattle.operate.specs.declared.step.Descent.TheVariants as descent
use Rattle.operate.specs.Inner.{terminal_of, found, level, top, child_or, sides_of, descent_of}
use Rattle.operate.proofs.Levels.{top-is-first, level-constant, level-most}
use Rattle.operate.proofs.Sharing.{variable-fits}
use Rattle.operate.proofs.Steps.{sides}
use Rattle.thin.specs.declared.StepDown.{StepDown}
use Rattle.thin.specs.declared.StepDown.TheVariants.{One, Over}
use Rattle.thin.specs.Thin.{Leveled, by_literals, settled_by, Given, SidesGiven, result_at, StepSays}
use Rattle.thin.proofs.Stepping.{numbers-tell, is-beyond, not_beyond, given-leveled, settled-two, low-given, high-given}
use Rattle.thin.proofs.Stepping.{low_told, high-told, pair_left, sides-left, sides-say}

-- ---- what is told without a step

module _ (vars : List ℕ) (by : words.Literals) (f : ℕ) where
  pub constant-settled : f < 2 → found f ≡ settled_by vars by f
  unfolding terminal_of
  constant-settled p = numbers-tell vars ByLiterals by f 1 (record { 0 = f }) (rw (lt-ltb f 2 p))

  -- the number of a node tells nothing
  pub node-open : 2 ≤ f → terminal_of (by_literals by) f 1 ≡ Nothing
  unfolding terminal_of
  node-open p = rw (le-ltb f 2 p)

  pub ends-settled : 2 ≤ f → (b : Bool) → b ≡ ends_before (bit_or by.positive by.negative) (get_or vars f 0)
      → cond b (found f) Nothing ≡ settled_by vars by f
  ends-settled p true e = is-beyond vars ByLiterals by f 1 (node-open p) (sym e)
  ends-settled p false e = not_beyond vars ByLiterals by f 1 (node-open p) (sym e)

-- what the test says
pub test-true : (b : Bool) (k : ℕ) (r : Found) → cond b (found k) Nothing ≡ r → b ≡ true → r ≡ found k
test-true true k r e q = sym e
test-true false k r e q = t≢f (sym q)

pub test-false : (b : Bool) (k : ℕ) (r : Found) → cond b (found k) Nothing ≡ r → b ≡ false → r ≡ Nothing
test-false true k r e q = t≢f q
test-false false k r e q = sym e

-- ---- a step

module _ (by : words.Literals) (t : Table) (f : ℕ) (H : Given (by_literals by) by.positive t f 1)
    (nothing : settled_by t.vars by f ≡ Nothing) where
  abbrev op : Operation
  op = by_literals by

  abbrev p : ℕ
  p = by.positive

  abbrev x : ℕ
  x = get_or t.vars f 0

  abbrev low : ℕ
  low = get_or t.lows f 0

  abbrev high : ℕ
  high = get_or t.highs f 0

  -- what a step from f says
  abbrev Says : StepDown → Type 0
  Says = StepSays op p t (top t.vars f 1) (result_at op t f 1)

  two : 2 ≤ f
  two = settled-two ByLiterals by t f 1 H nothing

  pub variable-of : (1 ≤ x) × (x ≤ 64)
  variable-of = variable-fits t H.operands.good f 1 H.operands.f-inside H.operands.g_inside two

  -- the children of f, each with node 1
  abbrev children : Sides
  children = record { x = x; f0 = record { 0 = low }; g0 = record { 0 = 1 }; f1 = record { 0 = high }; g1 = record { 0 = 1 } }

  level-is : level t.vars f ≡ x
  level-is = rw (le-ltb f 2 two)

  top-is : top t.vars f 1 ≡ x
  top-is =
      top-is-first t.vars f 1
      (omega (arith, level-most t H.operands.good f H.operands.f-inside two, level-constant t H.operands.good 1 (omega arith)))
      ∙ level-is

  one-blank : ◌≡◌ {A = ℕ} (get_or t.vars 1 0) 0
  one-blank = var-at t H.operands.good 1 ∙ ap (λ (n : Node). n.var) (good-ordered t H.operands.good).second

  -- the sides by a variable
  abbrev sides_by : ℕ → Sides
  sides_by v = record {
    x = v;
    f0 = record { 0 = child_or t.vars t.lows f v };
    g0 = record { 0 = child_or t.vars t.lows 1 v };
    f1 = record { 0 = child_or t.vars t.highs f v };
    g1 = record { 0 = child_or t.vars t.highs 1 v };
  }

  sides-are : sides t f 1 ≡ children
  unfolding sides_of
  sides-are =
      ap sides_by top-is
      ∙ rw (eq-eqb x x refl, ne_eqb (get_or t.vars 1 0) x (λ e. absurd (omega (arith, e, one-blank, variable-of.0))))

  pub high-left : in_word p x ≡ true → Says (One (record { 0 = high }) (record { 0 = 1 }))
  unfolding descent_of
  high-left e =
      pair_left ByLiterals by t f 1 H nothing (record { 0 = high }) (record { 0 = 1 }) (ap (descent_of op) sides-are ∙ rw e)

  pub low-left : in_word p x ≡ false → in_word by.negative x ≡ true → Says (One (record { 0 = low }) (record { 0 = 1 }))
  unfolding descent_of
  low-left e q =
      pair_left ByLiterals by t f 1 H nothing (record { 0 = low }) (record { 0 = 1 }) (ap (descent_of op) sides-are ∙ rw (e, q))

  -- x is in no literal
  module _ (not-true : in_word p x ≡ false) (not-false : in_word by.negative x ≡ false) where
    both : descent_of op (sides t f 1) ≡ descent.Both children
    unfolding descent_of
    both = ap (descent_of op) sides-are ∙ rw (not-true, not-false)

    given : SidesGiven op p t children
    given = sides-left ByLiterals by t f 1 H nothing children both

    pub low-leveled : Leveled op t.vars low 1
    low-leveled = given-leveled op p t low 1 (low-given op p t children given)

    pub high-leveled : Leveled op t.vars high 1
    high-leveled = given-leveled op p t high 1 (high-given op p t children given)

    pub low-over : settled_by t.vars by low ≡ found low → Says (Over x (record { 0 = low }) 1 (record { 0 = high }) (record { 0 = 1 }))
    low-over e =
        sides-say ByLiterals by t f 1 H nothing children both (Over x (record { 0 = low }) 1 (record { 0 = high }) (record { 0 = 1 }))
        (low_told ByLiterals by t children given (record { 0 = low }) e)

    pub high-over : settled_by t.vars by high ≡ found high → Says (Over x (record { 0 = high }) 0 (record { 0 = low }) (record { 0 = 1 }))
    high-over e =
        sides-say ByLiterals by t f 1 H nothing children both (Over x (record { 0 = high }) 0 (record { 0 = low }) (record { 0 = 1 }))
        (high-told ByLiterals by t children given (record { 0 = high }) e)

-- ---- the second node of a pair that is left is 1

module _ (by : words.Literals) (t : Table) (x : ℕ) (D : Diagram) (a b : NodeNo) where
  -- what a step says
  abbrev SaysOf : StepDown → Type 0
  SaysOf = StepSays (by_literals by) by.positive t x D

  pub one-by : SaysOf (One a b) → SaysOf (One a (record { 0 = 1 }))
  one-by h = subst (λ (g : ℕ). SaysOf (One a (record { 0 = g }))) h.0.operands.allowed h

  pub over_by : (v : ℕ) (k : NodeNo) (side : ℕ) → SaysOf (Over v k side a b) → SaysOf (Over v k side a (record { 0 = 1 }))
  over_by v k side h = subst (λ (g : ℕ). SaysOf (Over v k side a (record { 0 = g }))) h.0.operands.allowed h
