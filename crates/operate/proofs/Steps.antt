-- One step of the recursion: what the operation is of the sides that the code goes on with. The idea: a child of a number is that side of
-- its diagram, and each operation has a law by sides. Assumes nothing.
use mathlib.Core.Path.{◌≡◌, refl, sym, ap, ap₂, ◌∙◌, subst}
use mathlib.Core.Logic.{◌≢◌}
use mathlib.Core.Bool.{Bool, true, false}
use Prim.Native.Nat.{ℕ, suc, ◌≤◌, ◌<◌}
use native.Mathlib.Omega.{arith}
use native.Mathlib.Decide.{ℕ_discrete}
use lib.ListN.{get_or}
use borrow.Author.Tests.{eq-eqb, ne_eqb, le-ltb}
use Rattle.meaning.specs.Diagram.{Diagram, leaf, node, branch}
use Rattle.meaning.specs.Reduced.{Reduced}
use Rattle.meaning.specs.Operations.{conjunction, negation, cofactor, cofactor_literals}
use Rattle.meaning.proofs.Canonical.{branch_differ, side, side-zero}
use Rattle.meaning.proofs.Pointwise.{negation-reduced}
use Rattle.meaning.proofs.PointwiseSteps.{negation-node, conjunction-branch, literals-high, literals-low, literals-branch}
use Rattle.meaning.proofs.CofactorSteps.{cofactor-one, cofactor-both}
use Rattle.table.specs.declared.NodeNo.{NodeNo}
use Rattle.table.specs.Nodes.{diagram_at}
use Rattle.table.specs.Indexed.{Table, nodes_of, Good}
use Rattle.table.proofs.Outcomes.{place_in}
use Rattle.operate.specs.declared.Operation.{Operation}
use Rattle.operate.specs.declared.Operation.TheVariants.{Conjunction, Negation, Cofactor, Literals}
use Rattle.operate.specs.declared.step.Sides.{Sides}
use Rattle.operate.specs.declared.step.Descent.{Descent}
use Rattle.operate.specs.declared.step.Descent.TheVariants.{One, Both}
use Rattle.meaning.specs.Words.{in_word}
use Rattle.operate.specs.Operate.{result}
use Rattle.operate.specs.Inner.{applied, joined_of, Allowed, level, top, sides_of, descent_of, Operands, SideOperands}
use Rattle.operate.proofs.Levels.{top-first, top-second, top-both, top-is-first, diagram_of, is_zero, is_one, zero_is, one-is}
use Rattle.operate.proofs.Levels.{level-constant, level-least, level-most, level-reduced, child, Child, child-of, own, node-is}
use Rattle.operate.proofs.Sharing.{SideOf}

negation-branch : (x : ℕ) (l h : Diagram) → Reduced 1 65 (node x l h) → negation 64 (node x l h) ≡ branch x (negation 64 l) (negation 64 h)
negation-branch x l h o =
    let e : negation 64 (node x l h) ≡ node x (negation 64 l) (negation 64 h) = negation-node 64 x l h o in
    e ∙ sym (branch_differ x (negation 64 l) (negation 64 h) (differ (subst (Reduced 1 65) e (negation-reduced 64 (node x l h)))))
  where
    differ : {v : ℕ} {l h : Diagram} → Reduced 1 65 (node v l h) → l ≢ h
    differ r = r.2

abbrev pub sides : Table → ℕ → ℕ → Sides
sides t f g = sides_of t.vars t.lows t.highs f g

module _ (t : Table) (G : Good t) (f g : ℕ) (f-inside : f < t.count) (g_inside : g < t.count) (two : 2 ≤ f) where
  abbrev x : ℕ
  x = top t.vars f g

  abbrev D : ℕ → Diagram
  D = diagram_of t G

  -- the numbers of the operands' sides
  abbrev f-side : Bool → ℕ
  f-side b = child t G b f x

  abbrev g-side : Bool → ℕ
  g-side b = child t G b g x

  top_least : 1 ≤ top t.vars f g
  top_least = top-both t.vars f g 1 (level-least t G f f-inside) (level-least t G g g_inside)

  top-most : top t.vars f g ≤ 64
  top-most = omega (arith, top-first t.vars f g, level-most t G f f-inside two)

  f-child : (b : Bool) → Child t G b f x
  f-child b = child-of t G b f x f-inside top_least top-most (top-first t.vars f g)

  g-child : (b : Bool) → Child t G b g x
  g-child b = child-of t G b g x g_inside top_least top-most (top-second t.vars f g)

  f-reduced : Reduced x 65 (D f)
  f-reduced = level-reduced t G f f-inside x (top-first t.vars f g)

  g-reduced : Reduced x 65 (D g)
  g-reduced = level-reduced t G g g_inside x (top-second t.vars f g)

  -- an operation of one diagram: its variable is the first operand's
  root-variable : g ≡ 1 → get_or t.vars f 0 ≡ x
  root-variable e =
      let l : level t.vars f ≡ get_or t.vars f 0 = rw (le-ltb f 2 two) in
      sym (top-is-first t.vars f g (omega (arith, level-most t G f f-inside two, level-constant t G g (omega arith))) ∙ l)

  root : g ≡ 1 → D f ≡ node x (D (f-side false)) (D (f-side true))
  root e =
      let v : get_or t.vars f 0 ≡ x = root-variable e in
      let c : (b : Bool) → f-side b ≡ own t G f f-inside two b = λ b. rw (eq-eqb _ _ v) in
      node-is t G f f-inside two ∙ ap (λ (y : ℕ). node y (D (own t G f f-inside two false)) (D (own t G f f-inside two true))) v
      ∙ ap₂ (node x) (ap D (sym (c false))) (ap D (sym (c true)))

  root-reduced : g ≡ 1 → Reduced 1 65 (node x (D (f-side false)) (D (f-side true)))
  root-reduced e = subst (Reduced 1 65) (root e) (level-reduced t G f f-inside 1 (level-least t G f f-inside))

  still_one : g ≡ 1 → (b : Bool) → g-side b ≡ 1
  unfolding side
  still_one e b = one-is t G (g-side b) (g-child b).inside (sym (g-child b).is ∙ ap (side x b) (is_one t G g e))

  -- What the code goes on with.
  pub data Stepped (op : Operation) : Type 0 where
    one : (b : Bool) → descent_of op (sides t f g) ≡ One (record { 0 = f-side b }) (record { 0 = g-side b }) → Allowed op (g-side b)
        → result op (D f) (D g) ≡ result op (D (f-side b)) (D (g-side b)) → Stepped op
    both : descent_of op (sides t f g) ≡ Both (sides t f g) → ((b : Bool) → Allowed op (g-side b))
        → result op (D f) (D g) ≡ branch x (result op (D (f-side false)) (D (g-side false))) (result op (D (f-side true)) (D (g-side true)))
        → Stepped op

  stepped-cofactor : (g ≡ 0 → ⊥) → Stepped Cofactor
  unfolding descent_of sides_of result
  stepped-cofactor nz = go (ℕ_discrete (g-side false) 0) (ℕ_discrete (g-side true) 0)
    where
      g-nonzero : D g ≢ leaf false
      g-nonzero e = nz (zero_is t G g g_inside e)

      side-is-zero : (b : Bool) → g-side b ≡ 0 → side x b (D g) ≡ leaf false
      side-is-zero b z = (g-child b).is ∙ is_zero t G (g-side b) z

      side-nonzero : (b : Bool) → (g-side b ≡ 0 → ⊥) → side x b (D g) ≢ leaf false
      side-nonzero b n e = n (zero_is t G (g-side b) (g-child b).inside (sym (g-child b).is ∙ e))

      not-both : g-side false ≡ 0 → g-side true ≡ 0 → ⊥
      not-both z w = g-nonzero (side-zero x 65 (D g) g-reduced (side-is-zero false z) (side-is-zero true w))

      by_side : (b : Bool) → cofactor 64 (side x b (D f)) (side x b (D g)) ≡ cofactor 64 (D (f-side b)) (D (g-side b))
      by_side b = ap₂ (cofactor 64) (f-child b).is (g-child b).is

      go : Dec (g-side false ≡ 0) → Dec (g-side true ≡ 0) → Stepped Cofactor
      go (yes z) w =
          one true (rw (eq-eqb _ _ z)) (not-both z)
          (cofactor-one 64 x (D f) (D g) top_least top-most f-reduced g-reduced false g-nonzero (side-is-zero false z) ∙ by_side true)
      go (no n) (yes w) =
          one false (rw (ne_eqb _ _ n, eq-eqb _ _ w)) n
          (cofactor-one 64 x (D f) (D g) top_least top-most f-reduced g-reduced true g-nonzero (side-is-zero true w) ∙ by_side false)
      go (no n) (no m) =
          both (rw (ne_eqb _ _ n, ne_eqb _ _ m)) (allowed n m)
          (cofactor-both 64 x (D f) (D g) top_least top-most f-reduced g-reduced (side-nonzero false n) (side-nonzero true m)
          ∙ ap₂ (branch x) (by_side false) (by_side true))
        where
          allowed : (g-side false ≡ 0 → ⊥) → (g-side true ≡ 0 → ⊥) → (b : Bool) → g-side b ≡ 0 → ⊥
          allowed n m true = m
          allowed n m false = n

  stepped-literals : (p n : ℕ) → g ≡ 1 → Stepped (Literals p n)
  unfolding descent_of sides_of result
  stepped-literals p n e = go (in_word p x) (in_word n x) refl refl
    where
      go : (a b : Bool) → in_word p x ≡ a → in_word n x ≡ b → Stepped (Literals p n)
      go true b q r =
          one true (rw q) (still_one e true)
          (ap (cofactor_literals 64 (in_word p) (in_word n)) (root e) ∙ literals-high 64 (in_word p) (in_word n) x (D (f-side false))
          (D (f-side true)) top_least top-most q)
      go false true q r =
          one false (rw (q, r)) (still_one e false)
          (ap (cofactor_literals 64 (in_word p) (in_word n)) (root e) ∙ literals-low 64 (in_word p) (in_word n) x (D (f-side false))
          (D (f-side true)) top_least top-most q r)
      go false false q r =
          both (rw (q, r)) (still_one e)
          (ap (cofactor_literals 64 (in_word p) (in_word n)) (root e) ∙ literals-branch 64 (in_word p) (in_word n) x (D (f-side false))
          (D (f-side true)) (root-reduced e) q r)

  stepped : (op : Operation) → Allowed op g → Stepped op
  unfolding descent_of sides_of result
  stepped Conjunction allowed =
      both refl (λ b. tt) (conjunction-branch 64 x (D f) (D g) top_least top-most f-reduced g-reduced
      ∙ ap₂ (branch x) (ap₂ (conjunction 64) (f-child false).is (g-child false).is)
      (ap₂ (conjunction 64) (f-child true).is (g-child true).is))
  stepped Negation allowed =
      both refl (still_one allowed) (ap (negation 64) (root allowed) ∙ negation-branch x (D (f-side false)) (D (f-side true))
      (root-reduced allowed))
  stepped Cofactor allowed = stepped-cofactor allowed
  stepped (Literals p n) allowed = stepped-literals p n allowed

  after : (b : Bool) → x < top t.vars (f-side b) (g-side b)
  after b = top-both t.vars (f-side b) (g-side b) (suc x) (f-child b).after (g-child b).after

-- ---- as the code meets it

-- One pair of nodes is left to do.
pub record OneLeft (op : Operation) (t : Table) (f g a b : ℕ) : Type 0 where
  pub operands : Operands op t a b
  pub side-of : SideOf t f g a b
  pub most : top t.vars f g ≤ 64
  pub after : top t.vars f g < top t.vars a b
  pub same : result op (diagram_at (nodes_of t) f) (diagram_at (nodes_of t) g)
      ≡ result op (diagram_at (nodes_of t) a) (diagram_at (nodes_of t) b)
  pub is : applied t op a b ≡ applied t op f g

-- Both sides are.
pub record BothLeft (op : Operation) (t : Table) (f g : ℕ) (s : Sides) : Type 0 where
  pub operands : SideOperands op t s
  pub low_of : SideOf t f g s.f0.0 s.g0.0
  pub high-of : SideOf t f g s.f1.0 s.g1.0
  pub variable : s.x ≡ top t.vars f g
  pub over : result op (diagram_at (nodes_of t) f) (diagram_at (nodes_of t) g)
      ≡ branch s.x
      (result op (diagram_at (nodes_of t) s.f0.0) (diagram_at (nodes_of t) s.g0.0))
      (result op (diagram_at (nodes_of t) s.f1.0) (diagram_at (nodes_of t) s.g1.0))
  pub is : joined_of t op s ≡ applied t op f g

module _ (op : Operation) (t : Table) (f g : ℕ) (R : Operands op t f g) (two : 2 ≤ f) where
  pub sides-ask : (s : Sides) → s ≡ sides t f g → (1 ≤ s.x) × (s.x ≤ 64)
  unfolding sides_of
  sides-ask s e =
      subst (λ (s : Sides). (1 ≤ s.x) × (s.x ≤ 64)) (sym e)
      (top_least t R.good f g R.f-inside R.g_inside two, top-most t R.good f g R.f-inside R.g_inside two)

  abbrev P : Bool → ℕ
  P = f-side t R.good f g R.f-inside R.g_inside two

  abbrev Q : Bool → ℕ
  Q = g-side t R.good f g R.f-inside R.g_inside two

  side-operands : (b : Bool) → Allowed op (Q b) → Operands op t (P b) (Q b)
  side-operands b allowed = record {
    good = R.good;
    f-inside = (f-child t R.good f g R.f-inside R.g_inside two b).inside;
    g_inside = (g-child t R.good f g R.f-inside R.g_inside two b).inside;
    allowed = allowed;
  }

  own-side : (b : Bool) → SideOf t f g (P b) (Q b)
  own-side b = record {
    variable = top t.vars f g;
    which = b;
    first = (f-child t R.good f g R.f-inside R.g_inside two b).is;
    second = (g-child t R.good f g R.f-inside R.g_inside two b).is;
  }

  step : Stepped t R.good f g R.f-inside R.g_inside two op
  step = stepped t R.good f g R.f-inside R.g_inside two op R.allowed

  pub step-one : (a b : NodeNo) → descent_of op (sides t f g) ≡ One a b → OneLeft op t f g a.0 b.0
  step-one a b e = go step
    where
      first : Descent → ℕ
      first (One a b) = a.0
      first (Both s) = 0

      second : Descent → ℕ
      second (One a b) = b.0
      second (Both s) = 0

      go : Stepped t R.good f g R.f-inside R.g_inside two op → OneLeft op t f g a.0 b.0
      go (one c p q r) =
          let w : One (record { 0 = P c }) (record { 0 = Q c }) ≡ One a b = sym p ∙ e in
          subst (λ (k : ℕ). OneLeft op t f g k b.0) (ap first w) (subst (λ (k : ℕ). OneLeft op t f g (P c) k) (ap second w)
          (record {
            operands = side-operands c q;
            side-of = own-side c;
            most = top-most t R.good f g R.f-inside R.g_inside two;
            after = after t R.good f g R.f-inside R.g_inside two c;
            same = r;
            is = ap (place_in t) (sym r);
          }))
      go (both p q r) = let w : Both (sides t f g) ≡ One a b = sym p ∙ e in let z : ◌≡◌ {A = ℕ} 0 1 = cc in absurd (omega arith)

  pub step_both : (s : Sides) → descent_of op (sides t f g) ≡ Both s → BothLeft op t f g s
  unfolding sides_of
  step_both s e = go step
    where
      whole : Descent → Sides
      whole (One a b) = s
      whole (Both r) = r

      go : Stepped t R.good f g R.f-inside R.g_inside two op → BothLeft op t f g s
      go (one c p q r) =
          let w : One (record { 0 = P c }) (record { 0 = Q c }) ≡ Both s = sym p ∙ e in let z : ◌≡◌ {A = ℕ} 0 1 = cc in absurd (omega arith)
      go (both p q r) =
          let w : Both (sides t f g) ≡ Both s = sym p ∙ e in
          subst (BothLeft op t f g) (ap whole w)
          (record {
            operands = record {
              low = side-operands false (q false);
              high = side-operands true (q true);
              least = top_least t R.good f g R.f-inside R.g_inside two;
              most = top-most t R.good f g R.f-inside R.g_inside two;
              low-after = after t R.good f g R.f-inside R.g_inside two false;
              high_after = after t R.good f g R.f-inside R.g_inside two true;
            };
            low_of = own-side false;
            high-of = own-side true;
            variable = refl;
            over = r;
            is = ap (place_in t) (sym r);
          })
