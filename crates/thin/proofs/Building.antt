-- The way up: putting the steps written over a node, one by one, leaves what placing the whole diagram does. The idea: a diagram that has
-- been placed is there, so placing what stands over it goes on from the table that it left; where it found no room, neither does what
-- stands over it. Assumes nothing.
use mathlib.Core.Path.{◌≡◌, refl, sym, ap, ap₂, ◌∙◌, subst}
use mathlib.Core.Bool.{Bool, true, false, cond}
use mathlib.Core.List.{List}
use Prim.Native.Nat.{ℕ, zero, suc, ◌<◌}
use native.Mathlib.Omega.{arith}
use lib.ListN.{get_or}
use lib.Dec.{eqb}
use Rattle.meaning.specs.Diagram.{Diagram, branch}
use Rattle.meaning.specs.Reduced.{Reduced}
use Rattle.table.specs.Nodes.{diagram_at}
use Rattle.table.specs.Indexed.{Table, nodes_of, Good, Outcome}
use Rattle.table.proofs.Written.{length-nodes, good-ordered}
use Rattle.table.proofs.Numbers.{diagram_at-reduced}
use Rattle.table.proofs.Outcomes.{place_in, put_in, Longer, Grown, longer, grown, there, put-in, high-full, low-full, joined}
use Rattle.thin.specs.Thin.{over, layer, wrapped, Fitting}

-- The outcome of a node that is there.
abbrev standing : Table → ℕ → Outcome
standing t k = record { table = t; full = false; node = k }

-- ---- one step

-- A variable over two diagrams, of which the first is the low side where it is told so.
abbrev over_by : Bool → ℕ → Diagram → Diagram → Diagram
over_by b x told rest = cond b (branch x told rest) (branch x rest told)

-- The same of two nodes.
abbrev pub put_by : Bool → Table → ℕ → ℕ → ℕ → Outcome
put_by b t x told rest = cond b (put_in t x told rest) (put_in t x rest told)

put-by : (b : Bool) (t : Table) (G : Good t) (x k r : ℕ) → k < t.count → r < t.count
    → put_by b t x k r ≡ place_in t (over_by b x (diagram_at (nodes_of t) k) (diagram_at (nodes_of t) r))
put-by true t G x k r p q = put-in t G x k r p q
put-by false t G x k r p q = put-in t G x r k q p

module _ (t : Table) (G : Good t) (x k : ℕ) (p : k < t.count) (D : Diagram) (rD : Reduced 1 65 D) (o : Outcome) (e : o ≡ place_in t D) where
  abbrev K : Diagram
  K = diagram_at (nodes_of t) k

  rK : Reduced 1 65 K
  rK = diagram_at-reduced (nodes_of t) (good-ordered t G) k (omega (arith, length-nodes t G))

  W : Grown t D o
  W = grown t G D rD o e

  -- the node told, in the table that D left
  still : standing o.table k ≡ place_in o.table K
  still = sym (there o.table W.good k (omega (arith, W.more))) ∙ ap (place_in o.table) (W.kept k p)

  -- no room for D is none for what stands over it
  over-full : (b : Bool) → o.full ≡ true → o ≡ place_in t (over_by b x K D)
  over-full true f = high-full t G x K D rK rD (standing t k) (sym (there t G k p)) refl o e f
  over-full false f = low-full t G x D K rD rK o e f

  -- both nodes are in the table that D left
  over-put : (b : Bool) → o.full ≡ false → put_by b o.table x k o.node ≡ place_in t (over_by b x K D)
  over-put true f = joined t G x K D rK rD (standing t k) (sym (there t G k p)) refl o e f (put_in o.table x k o.node) refl
  over-put false f = joined t G x D K rD rK o e f (standing o.table k) still refl (put_in o.table x o.node k) refl

  -- what stands over D is placed from there on
  over-made : (b : Bool) → o.full ≡ false → place_in t (over_by b x K D) ≡ place_in o.table (over_by b x K D)
  over-made b f =
      sym (over-put b f)
      ∙ put-by b o.table W.good x k o.node (omega (arith, W.more)) W.inside
      ∙ ap₂ (λ (A B : Diagram). place_in o.table (over_by b x A B)) (W.kept k p) (W.is f)

-- a diagram placed again
again : (t : Table) (G : Good t) (D : Diagram) (rD : Reduced 1 65 D) (o : Outcome) → o ≡ place_in t D → o.full ≡ false → place_in t D
    ≡ place_in o.table D
again t G D rD o e f =
    let W : Grown t D o = grown t G D rD o e in
    sym e ∙ ap (λ (b : Bool). record { table = o.table; full = b; node = o.node }) f
    ∙ sym (there o.table W.good o.node W.inside) ∙ ap (place_in o.table) (W.is f)

-- ---- all steps

module _ (xs told sides : List ℕ) where
  abbrev next : Table → ℕ → Diagram → Diagram
  next t d D = layer t xs told sides d D

  reduced : (t : Table) (d : ℕ) (D : Diagram) → Fitting t xs told sides d D → Reduced 1 65 D
  reduced t zero D F = F
  reduced t (suc d) D F = F.0

  -- in a longer table the nodes told have the diagrams that they had
  module _ (t t' : Table) (L : Longer t t') where
    next-longer : (d : ℕ) → get_or told d 0 < t.count → (D : Diagram) → next t' d D ≡ next t d D
    next-longer d p D = ap (λ (K : Diagram). over (get_or xs d 0) (get_or sides d 0) K D) (L.kept (get_or told d 0) p)

    wrapped-longer : (d : ℕ) (D : Diagram) → Fitting t xs told sides d D → wrapped t' xs told sides d D ≡ wrapped t xs told sides d D
    wrapped-longer zero D F = refl
    wrapped-longer (suc d) D F = ap (wrapped t' xs told sides d) (next-longer d F.1 D) ∙ wrapped-longer d (next t d D) F.2

    fitting-longer : (d : ℕ) (D : Diagram) → Fitting t xs told sides d D → Fitting t' xs told sides d D
    fitting-longer zero D F = F
    fitting-longer (suc d) D F = (
      F.0,
      omega (arith, F.1, L.more),
      subst (Fitting t' xs told sides d) (sym (next-longer d F.1 D))
          (fitting-longer d (next t d D) F.2),
    )

  -- no room for D is none for what stands over it
  through-full : (d : ℕ) (t : Table) → Good t → (D : Diagram) → Fitting t xs told sides d D → (o : Outcome) → o ≡ place_in t D → o.full
      ≡ true
      → o ≡ place_in t (wrapped t xs told sides d D)
  through-full zero t G D F o e f = e
  through-full (suc d) t G D F o e f =
      through-full d t G (next t d D) F.2 o (over-full t G (get_or xs d 0) (get_or told d 0) F.1 D F.0 o e (eqb (get_or sides d 0) 1) f)
      f

  -- What stands over D is placed from the table on that D left.
  abbrev PlacedOn : ℕ → Type 0
  PlacedOn d =
      (t : Table) → Good t → (D : Diagram) → Fitting t xs told sides d D → (o : Outcome) → o ≡ place_in t D → o.full ≡ false
      → place_in t (wrapped t xs told sides d D) ≡ place_in o.table (wrapped t xs told sides d D)

  -- with one step more: the next diagram is placed alike in both tables, and what stands over it goes on from there
  module _ (d : ℕ) (Placed-on : PlacedOn d) (t : Table) (G : Good t) (D : Diagram) (F : Fitting t xs told sides (suc d) D) (o : Outcome)
      (e : o ≡ place_in t D) (f : o.full ≡ false) where
    abbrev D' : Diagram
    D' = next t d D

    abbrev t' : Table
    t' = o.table

    grown-once : Grown t D o
    grown-once = grown t G D F.0 o e

    longer-once : Longer t t'
    longer-once = longer t D o grown-once

    next-same : place_in t D' ≡ place_in t' D'
    next-same = over-made t G (get_or xs d 0) (get_or told d 0) F.1 D F.0 o e (eqb (get_or sides d 0) 1) f

    fitting-once : Fitting t' xs told sides d D'
    fitting-once = fitting-longer t t' longer-once d D' F.2

    whole_same : place_in t' (wrapped t' xs told sides d D') ≡ place_in t' (wrapped t xs told sides d D')
    whole_same = ap (place_in t') (wrapped-longer t t' longer-once d D' F.2)

    one_more : (b : Bool) → (place_in t D').full ≡ b → place_in t (wrapped t xs told sides d D')
        ≡ place_in t' (wrapped t xs told sides d D')
    one_more true f' =
        sym (through-full d t G D' F.2 (place_in t D') refl f') ∙ through-full d t' grown-once.good D' fitting-once (place_in t D')
        next-same f' ∙ whole_same
    one_more false f' =
        Placed-on t G D' F.2 (place_in t D') refl f'
        ∙ ap (place_in (place_in t D').table) (sym (wrapped-longer t t' longer-once d D' F.2))
        ∙ sym (Placed-on t' grown-once.good D' fitting-once (place_in t D') next-same f')
        ∙ whole_same

  through-made : (d : ℕ) → PlacedOn d
  through-made zero t G D F o e f = again t G D F o e f
  through-made (suc d) t G D F o e f = one_more d (through-made d) t G D F o e f (place_in t (next t d D)).full refl

  -- ---- the walk up

  -- Node r of table t under the first d steps is the diagram W, and placing W there is placing it in the table that the walk began with.
  pub record Rising (before : Table) (W : Diagram) (t : Table) (d r : ℕ) : Type 0 where
    pub good : Good t
    pub inside : r < t.count
    pub fitting : Fitting t xs told sides d (diagram_at (nodes_of t) r)
    pub is : wrapped t xs told sides d (diagram_at (nodes_of t) r) ≡ W
    pub placed : place_in t W ≡ place_in before W

  pub rising-first : (t : Table) → Good t → (d r : ℕ) → r < t.count → Fitting t xs told sides d (diagram_at (nodes_of t) r)
      → Rising t (wrapped t xs told sides d (diagram_at (nodes_of t) r)) t d r
  rising-first t G d r p F = record { good = G; inside = p; fitting = F; is = refl; placed = refl }

  module _ (before : Table) (W : Diagram) (t : Table) where
    -- with no step left the node is all
    pub rising-last : (r : ℕ) → Rising before W t 0 r → standing t r ≡ place_in before W
    rising-last r R = sym (there t R.good r R.inside) ∙ ap (place_in t) R.is ∙ R.placed

    -- a step that is put
    module _ (d r : ℕ) (R : Rising before W t (suc d) r) (o : Outcome)
        (e : o ≡ put_by (eqb (get_or sides d 0) 1) t (get_or xs d 0) (get_or told d 0) r) where
      abbrev now : Diagram
      now = next t d (diagram_at (nodes_of t) r)

      put_is : o ≡ place_in t now
      put_is = e ∙ put-by (eqb (get_or sides d 0) 1) t R.good (get_or xs d 0) (get_or told d 0) r R.fitting.1 R.inside

      pub rising-full : o.full ≡ true → o ≡ place_in before W
      rising-full f = through-full d t R.good now R.fitting.2 o put_is f ∙ ap (place_in t) R.is ∙ R.placed

      put-grown : Grown t now o
      put-grown = grown t R.good now (reduced t d now R.fitting.2) o put_is

      put-longer : Longer t o.table
      put-longer = longer t now o put-grown

      pub rising-next : o.full ≡ false → Rising before W o.table d o.node
      rising-next f = record {
        good = put-grown.good;
        inside = put-grown.inside;
        fitting = subst (Fitting o.table xs told sides d) (sym (put-grown.is f))
            (fitting-longer t o.table put-longer d now R.fitting.2);
        is =
            ap (wrapped o.table xs told sides d) (put-grown.is f) ∙ wrapped-longer t o.table put-longer d now R.fitting.2
            ∙ R.is;
        placed =
            sym (subst (λ (D : Diagram). place_in t D ≡ place_in o.table D) R.is
            (through-made d t R.good now R.fitting.2 o put_is f)) ∙ R.placed;
      }
