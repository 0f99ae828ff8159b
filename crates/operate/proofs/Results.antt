-- What the recursion's calls leave and give: results are reduced diagrams, a result that is known places nothing, one that is made is
-- stored, and two sides are joined. The idea: an outcome is a placing, and the laws of outcomes hold for any diagram. Assumes nothing.
use mathlib.Core.Path.{◌≡◌, sym, ap, ap₂, ◌∙◌, subst}
use mathlib.Core.Bool.{true, false}
use mathlib.Core.List.{List}
use Prim.Native.Nat.{ℕ, suc, ◌-◌, ◌≤◌, ◌<◌}
use native.Mathlib.Omega.{arith}
use lib.ListN.{length, get_or}
use lib.Seq.{get_or-take}
use Rattle.meaning.specs.Diagram.{Diagram, node}
use Rattle.meaning.specs.Reduced.{Reduced}
use Rattle.meaning.proofs.Canonical.{diagram_from-reduced}
use Rattle.meaning.proofs.Pointwise.{conjunction-reduced, negation-reduced, literals-reduced, conjunction-from, negation-from}
use Rattle.meaning.proofs.Pointwise.{literals-from}
use Rattle.meaning.proofs.Cofactor.{cofactor-reduced, cofactor_from, cofactor-from}
use Rattle.table.specs.Nodes.{Node, blank, at, diagram_at}
use Rattle.table.specs.Indexed.{Table, nodes_of, Good, Outcome}
use Rattle.table.proofs.Written.{length-nodes, good-ordered, var-at}
use Rattle.table.proofs.Numbers.{root-variable}
use Rattle.table.proofs.Outcomes.{place_in, put_in, Longer, Grown, longer, grown, there, put-grown, low-full, high-full, joined}
use Rattle.operate.specs.declared.Operation.{Operation}
use Rattle.operate.specs.declared.Operation.TheVariants.{Conjunction, Negation, Cofactor, Literals}
use Rattle.operate.specs.declared.step.Sides.{Sides}
use Rattle.meaning.specs.Words.{in_word}
use Rattle.operate.specs.Operate.{result}
use Rattle.operate.specs.Inner.{applied, joined_of, Allowed, level, top, Shared, Right, Operands, SideOperands, MemoRight, Ready}
use Rattle.operate.proofs.RightMemo.{memo-kept}
use Rattle.operate.proofs.Levels.{top-first, top-second, diagram_of, zero_is, level-reduced}
use Rattle.operate.proofs.Sharing.{shared_kept}

-- ---- results are reduced

pub result-reduced : (op : Operation) (f g : Diagram) → Reduced 1 65 (result op f g)
unfolding result
result-reduced Conjunction f g = conjunction-reduced 64 f g
result-reduced Negation f g = negation-reduced 64 f
result-reduced Cofactor f g = cofactor-reduced 64 f g
result-reduced (Literals p n) f g = literals-reduced 64 (in_word p) (in_word n) f

-- from variable i on, where both operands are
result-from : (t : Table) (G : Good t) (op : Operation) (f g : ℕ) → f < t.count → g < t.count → Allowed op g
    → (i : ℕ) → 1 ≤ i → i ≤ 65 → Reduced i 65 (diagram_of t G f) → Reduced i 65 (diagram_of t G g) →
    Reduced i 65 (result op (diagram_of t G f) (diagram_of t G g))
unfolding result cofactor_from
result-from t G Conjunction f g p q allowed i lo hi rf rg = conjunction-from 64 i (diagram_of t G f) (diagram_of t G g) rf rg
result-from t G Negation f g p q allowed i lo hi rf rg = negation-from 64 i (diagram_of t G f) rf
result-from t G Cofactor f g p q allowed i lo hi rf rg =
    subst (Reduced i 65) (sym (cofactor-from 64 i (diagram_of t G f) (diagram_of t G g) lo hi rf rg (λ z. allowed (zero_is t G g q z))))
    (diagram_from-reduced (65 - i) i 65 _ (omega arith))
result-from t G (Literals m n) f g p q allowed i lo hi rf rg = literals-from 64 i lo (in_word m) (in_word n) (diagram_of t G f) rf

-- ---- a table that has grown

-- an old node keeps its level
level-kept : (t t' : Table) → Good t → Longer t t' → (f : ℕ) → f < t.count → level t'.vars f ≡ level t.vars f
level-kept t t' G L f inside =
    let e : get_or t'.vars f 0 ≡ get_or t.vars f 0 =
    var-at t' L.good f ∙ ap (λ (x : Node). x.var)
    (sym (get_or-take t.count (nodes_of t') f blank inside) ∙ ap (λ (u : List Node). at u f) L.first) ∙ sym (var-at t G f) in
    rw e

top_kept : (t t' : Table) → Good t → Longer t t' → (f g : ℕ) → f < t.count → g < t.count → top t'.vars f g ≡ top t.vars f g
top_kept t t' G L f g p q = rw (level-kept t t' G L f p, level-kept t t' G L g q)

-- ---- one operation

module _ (op : Operation) (t : Table) (f g : ℕ) (R : Operands op t f g) where
  abbrev F : Diagram
  F = diagram_at (nodes_of t) f

  abbrev E : Diagram
  E = diagram_at (nodes_of t) g

  -- the columns hold both numbers
  pub columns-hold : (f < length t.vars) × (g < length t.vars) × (length t.lows ≡ length t.vars)
      × (length t.highs ≡ length t.vars)
  columns-hold = (omega (arith, R.f-inside, R.good.within), omega (arith, R.g_inside, R.good.within), R.good.lows, R.good.highs)

  -- a result that is there places nothing
  pub known-outcome : (k : ℕ) → Right op t f g k → record { table = t; full = false; node = k } ≡ applied t op f g
  known-outcome k r = sym (there t R.good k r.inside) ∙ ap (place_in t) r.is

  module _ (o : Outcome) (e : o ≡ applied t op f g) where
    pub applied-grown : Grown t (result op F E) o
    applied-grown = grown t R.good (result op F E) (result-reduced op F E) o e

    pub applied-longer : Longer t o.table
    applied-longer = longer t (result op F E) o applied-grown

    -- one that is made is right
    pub made-right : o.full ≡ false → Right op o.table f g o.node
    made-right made =
        let W : Grown t (result op F E) o = applied-grown in
        record {
          f-inside = omega (arith, R.f-inside, W.more);
          g_inside = omega (arith, R.g_inside, W.more);
          inside = W.inside;
          is = W.is made ∙ sym (ap₂ (result op) (W.kept f R.f-inside) (W.kept g R.g_inside));
        }

-- ---- two sides

module _ (op : Operation) (t : Table) (s : Sides) (R : SideOperands op t s) (o₁ : Outcome)
    (e₁ : o₁ ≡ applied t op s.f0.0 s.g0.0) where
  abbrev D : ℕ → Diagram
  D k = diagram_at (nodes_of t) k

  abbrev low : Diagram
  low = result op (D s.f0.0) (D s.g0.0)

  abbrev high : Diagram
  high = result op (D s.f1.0) (D s.g1.0)

  good : Good t
  good = R.low.good

  low-grown : Grown t low o₁
  low-grown = applied-grown op t s.f0.0 s.g0.0 R.low o₁ e₁

  low-longer : Longer t o₁.table
  low-longer = longer t low o₁ low-grown

  pub low-done : o₁.full ≡ true → o₁ ≡ joined_of t op s
  low-done = low-full t good s.x low high (result-reduced op _ _) (result-reduced op _ _) o₁ e₁

  -- the high side can be done next
  pub high-ready : (memo₁ : List ℕ) → MemoRight op memo₁ o₁.table → Ready op memo₁ o₁.table s.f1.0 s.g1.0
  high-ready memo₁ right = record {
    operands = record {
      good = low-grown.good;
      f-inside = omega (arith, R.high.f-inside, low-grown.more);
      g_inside = omega (arith, R.high.g_inside, low-grown.more);
      allowed = R.high.allowed;
    };
    right = right;
  }

  pub high-shared : (shared : ℕ) → Shared op shared t s.f1.0 s.g1.0 → Shared op shared o₁.table s.f1.0 s.g1.0
  high-shared shared =
      shared_kept op shared t s.f1.0 s.g1.0 o₁.table (low-grown.kept s.f1.0 R.high.f-inside)
      (low-grown.kept s.g1.0 R.high.g_inside)

  pub high-top : s.x < top o₁.table.vars s.f1.0 s.g1.0
  high-top = rw (top_kept t o₁.table good low-longer s.f1.0 s.g1.0 R.high.f-inside R.high.g_inside) R.high_after

  module _ (made₁ : o₁.full ≡ false) (o₂ : Outcome) (e₂ : o₂ ≡ applied o₁.table op s.f1.0 s.g1.0) where
    high_is : o₂ ≡ place_in o₁.table high
    high_is = e₂ ∙ ap (place_in o₁.table) (ap₂ (result op) (low-grown.kept s.f1.0 R.high.f-inside)
        (low-grown.kept s.g1.0 R.high.g_inside))

    high-grown : Grown o₁.table high o₂
    high-grown = grown o₁.table low-grown.good high (result-reduced op _ _) o₂ high_is

    pub high-good : Good o₂.table
    high-good = high-grown.good

    pub high-done : o₂.full ≡ true → o₂ ≡ joined_of t op s
    high-done = high-full t good s.x low high (result-reduced op _ _) (result-reduced op _ _) o₁ e₁ made₁ o₂ high_is

    module _ (made₂ : o₂.full ≡ false) (o₃ : Outcome) (e₃ : o₃ ≡ put_in o₂.table s.x o₁.node o₂.node) where
      pub both-done : o₃ ≡ joined_of t op s
      both-done = joined t good s.x low high (result-reduced op _ _) (result-reduced op _ _) o₁ e₁ made₁ o₂ high_is made₂ o₃ e₃

      -- the sides' results come after x
      low-after : Reduced (suc s.x) 65 low
      low-after =
          result-from t good op s.f0.0 s.g0.0 R.low.f-inside R.low.g_inside R.low.allowed (suc s.x) (omega arith)
          (omega (arith, R.most))
          (level-reduced t good s.f0.0 R.low.f-inside (suc s.x)
          (omega (arith, R.low-after, top-first t.vars s.f0.0 s.g0.0)))
          (level-reduced t good s.g0.0 R.low.g_inside (suc s.x)
          (omega (arith, R.low-after, top-second t.vars s.f0.0 s.g0.0)))

      high_after : Reduced (suc s.x) 65 high
      high_after =
          result-from t good op s.f1.0 s.g1.0 R.high.f-inside R.high.g_inside R.high.allowed (suc s.x) (omega arith)
          (omega (arith, R.most))
          (level-reduced t good s.f1.0 R.high.f-inside (suc s.x)
          (omega (arith, R.high_after, top-first t.vars s.f1.0 s.g1.0)))
          (level-reduced t good s.g1.0 R.high.g_inside (suc s.x)
          (omega (arith, R.high_after, top-second t.vars s.f1.0 s.g1.0)))

      put-longer : Longer o₂.table o₃.table
      put-longer =
          longer o₂.table _ o₃
          (put-grown o₂.table high-good s.x o₁.node o₂.node R.least R.most
          (omega (arith, low-grown.inside, high-grown.more)) high-grown.inside
          (root-variable (nodes_of o₂.table) (good-ordered o₂.table high-good) (suc s.x) 65 o₁.node
          (omega (arith, low-grown.inside, high-grown.more, length-nodes o₂.table high-good))
          (subst (Reduced (suc s.x) 65) (sym (high-grown.kept o₁.node low-grown.inside ∙ low-grown.is made₁)) low-after))
          (root-variable (nodes_of o₂.table) (good-ordered o₂.table high-good) (suc s.x) 65 o₂.node
          (omega (arith, high-grown.inside, length-nodes o₂.table high-good))
          (subst (Reduced (suc s.x) 65) (sym (high-grown.is made₂)) high_after))
          o₃ e₃)

      pub memo-joined : (memo₂ : List ℕ) → MemoRight op memo₂ o₂.table → MemoRight op memo₂ o₃.table
      memo-joined memo₂ right = memo-kept op memo₂ o₂.table right o₃.table put-longer
