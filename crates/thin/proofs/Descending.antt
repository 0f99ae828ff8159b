-- The way down, step by step: under the steps written, the result at the nodes come to is the one asked. The idea: a step is written
-- behind those before it, which stay as they are, and each diagram on the way is a result, so it is reduced. Assumes nothing.
use mathlib.Core.Path.{◌≡◌, refl, ap, sym, ◌∙◌, subst}
use mathlib.Core.List.{List}
use Prim.Native.Nat.{ℕ, zero, suc, ◌+◌, ◌≤◌, ◌<◌}
use native.Mathlib.Omega.{arith}
use native.Mathlib.Numerals.{add-one}
use native.Mathlib.Decide.{dec_lt}
use lib.ListN.{length, get_or, set}
use lib.Seq.{get_or-set_same, get_or-set_other}
use Rattle.meaning.specs.Diagram.{Diagram}
use Rattle.meaning.specs.Reduced.{Reduced}
use Rattle.table.specs.declared.NodeNo.{NodeNo}
use Rattle.table.specs.Nodes.{diagram_at}
use Rattle.table.specs.Indexed.{Table, nodes_of}
use Rattle.operate.specs.declared.Operation.{Operation}
use Rattle.operate.specs.Inner.{top}
use Rattle.operate.proofs.Levels.{top-first, top-both, level-constant, level-least, level-most}
use Rattle.operate.proofs.Results.{result-reduced}
use Rattle.thin.specs.declared.StepDown.TheVariants.{Told, One, Over}
use Rattle.thin.specs.Thin.{Given, result_at, over, StepSays, layer, wrapped, Fitting, CameTo}

-- ---- a step is written at place p

module _ (t : Table) (xs told sides : List ℕ) (p x k side : ℕ) where
  abbrev xs' : List ℕ
  xs' = set xs p x

  abbrev told' : List ℕ
  told' = set told p k

  abbrev sides' : List ℕ
  sides' = set sides p side

  told-kept : (d : ℕ) → d < p → get_or told' d 0 ≡ get_or told d 0
  told-kept d less = get_or-set_other told p d k 0 (λ e. absurd (omega arith))

  layer-kept : (d : ℕ) → d < p → (D : Diagram) → layer t xs' told' sides' d D ≡ layer t xs told sides d D
  layer-kept d less D =
      rw (
        get_or-set_other xs p d x 0 (λ e. absurd (omega arith)),
        get_or-set_other sides p d side 0 (λ e. absurd (omega arith)),
        told-kept d less,
      )

  wrapped-kept : (d : ℕ) → d ≤ p → (D : Diagram) → wrapped t xs' told' sides' d D ≡ wrapped t xs told sides d D
  wrapped-kept zero less D = refl
  wrapped-kept (suc d) less D =
      ap (wrapped t xs' told' sides' d) (layer-kept d (omega arith) D) ∙ wrapped-kept d (omega arith) (layer t xs told sides d D)

  fitting-kept : (d : ℕ) → d ≤ p → (D : Diagram) → Fitting t xs told sides d D → Fitting t xs' told' sides' d D
  fitting-kept zero less D F = F
  fitting-kept (suc d) less D F = (
    F.0,
    omega (arith, told-kept d (omega arith), F.1),
    subst (Fitting t xs' told' sides' d) (sym (layer-kept d (omega arith) D))
        (fitting-kept d (omega arith) (layer t xs told sides d D) F.2),
  )

  module _ (xs-room : p < length xs) (told-room : p < length told) (sides-room : p < length sides) where
    layer-written : (D : Diagram) → layer t xs' told' sides' p D ≡ over x side (diagram_at (nodes_of t) k) D
    layer-written D = rw (get_or-set_same xs p x 0 xs-room, get_or-set_same sides p side 0 sides-room, get_or-set_same told p k 0 told-room)

    wrapped-more : (D : Diagram) → wrapped t xs' told' sides' (suc p) D
        ≡ wrapped t xs told sides p (over x side (diagram_at (nodes_of t) k) D)
    wrapped-more D =
        ap (wrapped t xs' told' sides' p) (layer-written D) ∙ wrapped-kept p (omega arith) (over x side (diagram_at (nodes_of t) k) D)

    fitting-more : (D : Diagram) → Reduced 1 65 D → k < t.count → Fitting t xs told sides p (over x side (diagram_at (nodes_of t) k) D)
        → Fitting t xs' told' sides' (suc p) D
    fitting-more D reduced inside F = (
      reduced,
      omega (arith, get_or-set_same told p k 0 told-room, inside),
      subst (Fitting t xs' told' sides' p) (sym (layer-written D))
          (fitting-kept p (omega arith) (over x side (diagram_at (nodes_of t) k) D) F),
    )

-- ---- the way

module _ (op : Operation) (shared : ℕ) (t : Table) (f g : ℕ) (H : Given op shared t f g) where
  top_least : 1 ≤ top t.vars f g
  top_least =
      top-both t.vars f g 1 (level-least t H.operands.good f H.operands.f-inside)
      (level-least t H.operands.good g H.operands.g_inside)

  pub top_within : top t.vars f g ≤ 65
  top_within = go (dec_lt f 2)
    where
      go : Dec (f < 2) → top t.vars f g ≤ 65
      go (yes p) = omega (arith, top-first t.vars f g, level-constant t H.operands.good f p)
      go (no n) = omega (arith, top-first t.vars f g, level-most t H.operands.good f H.operands.f-inside (omega (arith, n)))

-- From `first` and `second` the way has come to f and g, with `depth` steps written.
pub record GoingDown (op : Operation) (shared : ℕ) (t : Table) (first second : ℕ) (xs told sides : List ℕ) (f g depth : ℕ) : Type 0 where
  pub given : Given op shared t f g
  pub before : depth < top t.vars f g
  pub fitting : Fitting t xs told sides depth (result_at op t f g)
  pub is : wrapped t xs told sides depth (result_at op t f g) ≡ result_at op t first second

pub going-first : (op : Operation) (shared : ℕ) (t : Table) (xs told sides : List ℕ) (f g : ℕ) → Given op shared t f g →
    GoingDown op shared t f g xs told sides f g 0
going-first op shared t xs told sides f g H =
    record { given = H; before = top_least op shared t f g H; fitting = result-reduced op _ _; is = refl }

module _ (op : Operation) (shared : ℕ) (t : Table) (first second : ℕ) (xs told sides : List ℕ) (f g depth : ℕ)
    (W : GoingDown op shared t first second xs told sides f g depth) where
  pub going-told : (k : NodeNo) → StepSays op shared t (top t.vars f g) (result_at op t f g) (Told k) →
      CameTo op t first second xs told sides k.0 depth
  going-told k h = record {
    most = omega (arith, W.before, top_within op shared t f g W.given);
    inside = h.0;
    fitting = subst (Fitting t xs told sides depth) (sym h.1) W.fitting;
    is = ap (wrapped t xs told sides depth) h.1 ∙ W.is;
  }

  pub going-one : (a b : NodeNo) → StepSays op shared t (top t.vars f g) (result_at op t f g) (One a b)
      → GoingDown op shared t first second xs told sides a.0 b.0 depth
  going-one a b h = record {
    given = h.0;
    before = omega (arith, W.before, h.1);
    fitting = subst (Fitting t xs told sides depth) (sym h.2) W.fitting;
    is = ap (wrapped t xs told sides depth) h.2 ∙ W.is;
  }

  module _ (x : ℕ) (k : NodeNo) (side : ℕ) (a b : NodeNo)
      (h : StepSays op shared t (top t.vars f g) (result_at op t f g) (Over x k side a b)) where
    pub step_room : depth < 64
    step_room = omega (arith, W.before, h.1, h.2)

    abbrev Further : ℕ → Type 0
    Further = GoingDown op shared t first second (set xs depth x) (set told depth k.0) (set sides depth side) a.0 b.0

    pub going-over : depth < length xs → depth < length told → depth < length sides → Further (depth + 1)
    going-over xs-room told-room sides-room =
        subst Further (sym (add-one depth))
        (record {
          given = h.0;
          before = omega (arith, W.before, h.1, h.3);
          fitting =
              fitting-more t xs told sides depth x k.0 side xs-room told-room sides-room (result_at op t a.0 b.0)
              (result-reduced op _ _) h.4
              (subst (Fitting t xs told sides depth) (sym h.5) W.fitting);
          is =
              wrapped-more t xs told sides depth x k.0 side xs-room told-room sides-room (result_at op t a.0 b.0)
              ∙ ap (wrapped t xs told sides depth) h.5 ∙ W.is;
        })
