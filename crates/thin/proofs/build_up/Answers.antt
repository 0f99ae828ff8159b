-- The steps are put one by one: at each turn the node, under the steps that are left, is the diagram asked for, and placing it in the table
-- as it is now is placing it in the first. Assumes nothing.
use mathlib.Core.Path.{◌≡◌, refl, sym, ap₂, ◌∙◌, subst}
use mathlib.Core.Bool.{Bool}
use Prim.Native.Nat.{ℕ, suc, ◌-◌}
use native.Mathlib.Omega.{arith}
use lib.ListN.{get_or}
use lib.Dec.{eqb}
use borrow.Author.Tests.{eq-eqb, ne_eqb}
use Rattle.meaning.specs.Diagram.{Diagram}
use Rattle.table.specs.declared.NodeNo.{NodeNo}
use Rattle.table.specs.Nodes.{diagram_at}
use Rattle.table.specs.Indexed.{Table, Outcome, table_of, nodes_of, outcome_of}
use Rattle.table.proofs.Outcomes.{put_in}
use Rattle.thin.specs.Thin.{wrapped}
use Rattle.thin.proofs.Building.{put_by, Rising, rising-first, rising-last, rising-full, rising-next}
use mathlib.Core.Logic.{◌⊎◌, inl, inr}
use Rattle.thin.proofs.build_up.Goals.{then-sides-d-eq1, else-sides-d-eq1}
use Rattle.thin.proofs.build_up.Goals as goal

-- the node told is put on its side
sided : (t : Table) (x : ℕ) (r : NodeNo) (k side : ℕ) (low high : NodeNo)
    → ((side ≡ 1) × (low ≡ record { 0 = k }) × (high ≡ r)) ⊎ ((side ≡ 1 → ⊥) × (low ≡ r) × (high ≡ record { 0 = k }))
    → put_in t x low.0 high.0 ≡ put_by (eqb side 1) t x k r.0
sided t x r k side low high (inl h) =
    subst (λ (b : Bool). put_in t x low.0 high.0 ≡ put_by b t x k r.0) (sym (eq-eqb side 1 h.0))
    (ap₂ (λ (low high : NodeNo). put_in t x low.0 high.0) h.1 h.2)
sided t x r k side low high (inr h) =
    subst (λ (b : Bool). put_in t x low.0 high.0 ≡ put_by b t x k r.0) (sym (ne_eqb side 1 h.0))
    (ap₂ (λ (low high : NodeNo). put_in t x low.0 high.0) h.1 h.2)

pub loop-d-init : goal.loop-d-init
loop-d-init c =
    let a = c.args in
    let T : Table = table_of a.vars.now a.lows.now a.highs.now a.heads.now a.links.now a.count in (
      rising-first a.xs.now a.told.now a.sides.now T c.requires.fact.0 a.depth a.node.0 c.requires.fact.1 c.requires.fact.2,
      omega arith,
      refl,
      refl,
      refl,
      refl,
      refl,
    )

pub put-p-requires : goal.put-p-requires
put-p-requires c = c.loop-d.invariant.0.good

pub returns-then-p : goal.returns-then-p
returns-then-p c =
    let a = c.args in
    let l = c.loop-d in
    let T : Table = table_of a.vars.now a.lows.now a.highs.now a.heads.now a.links.now a.count in
    let t : Table = table_of l.vars l.lows l.highs l.heads l.links l.n in
    let D : Diagram = wrapped T a.xs.now a.told.now a.sides.now a.depth (diagram_at (nodes_of T) a.node.0) in
    let o : Outcome = outcome_of c.put-p.new.vars c.put-p.new.lows c.put-p.new.highs c.put-p.new.heads c.put-p.new.links c.put-p.result in
    let k : ℕ = l.d - 1 in
    let e : l.d ≡ suc k = omega (arith, c.loop-d-test.true) in
    let R = subst (λ (d : ℕ). Rising a.xs.now a.told.now a.sides.now T D t d l.r.0) e l.invariant.0 in
    let m : o ≡ put_by (eqb (get_or a.sides.now k 0) 1) t (get_or a.xs.now k 0) (get_or a.told.now k 0) l.r.0 = c.put-p.ensures
    ∙ sided t (get_or a.xs.now k 0) l.r (get_or a.told.now k 0) (get_or a.sides.now k 0) c.if-sides-d-eq1.low c.if-sides-d-eq1.high
    (elim c.if-sides-d-eq1.branch [
      | then-sides-d-eq1 w ↦ inl (w.if-sides-d-eq1.true, w.low-is, w.high-is)
      | else-sides-d-eq1 w ↦ inr (w.if-sides-d-eq1.false, w.low-is, w.high-is)
    ]) in
    rising-full a.xs.now a.told.now a.sides.now T D t k l.r.0 R o m c.if-p.true

pub loop-d-preserved : goal.loop-d-preserved
loop-d-preserved c =
    let a = c.args in
    let l = c.loop-d in
    let T : Table = table_of a.vars.now a.lows.now a.highs.now a.heads.now a.links.now a.count in
    let t : Table = table_of l.vars l.lows l.highs l.heads l.links l.n in
    let D : Diagram = wrapped T a.xs.now a.told.now a.sides.now a.depth (diagram_at (nodes_of T) a.node.0) in
    let o : Outcome = outcome_of c.put-p.new.vars c.put-p.new.lows c.put-p.new.highs c.put-p.new.heads c.put-p.new.links c.put-p.result in
    let k : ℕ = l.d - 1 in
    let e : l.d ≡ suc k = omega (arith, c.loop-d-test.true) in
    let R = subst (λ (d : ℕ). Rising a.xs.now a.told.now a.sides.now T D t d l.r.0) e l.invariant.0 in
    let m : o ≡ put_by (eqb (get_or a.sides.now k 0) 1) t (get_or a.xs.now k 0) (get_or a.told.now k 0) l.r.0 = c.put-p.ensures
    ∙ sided t (get_or a.xs.now k 0) l.r (get_or a.told.now k 0) (get_or a.sides.now k 0) c.if-sides-d-eq1.low c.if-sides-d-eq1.high
    (elim c.if-sides-d-eq1.branch [
      | then-sides-d-eq1 w ↦ inl (w.if-sides-d-eq1.true, w.low-is, w.high-is)
      | else-sides-d-eq1 w ↦ inr (w.if-sides-d-eq1.false, w.low-is, w.high-is)
    ]) in
    let i = l.invariant in (
      rising-next a.xs.now a.told.now a.sides.now T D t k l.r.0 R o m c.if-p.false,
      omega (arith, i.1),
      c.put-p.auto.vars ∙ i.2,
      c.put-p.auto.lows ∙ i.3,
      c.put-p.auto.highs ∙ i.4,
      c.put-p.auto.heads ∙ i.5,
      c.put-p.auto.links ∙ i.6,
    )

pub returns : goal.returns
returns c =
    let a = c.args in
    let l = c.loop-d in
    let T : Table = table_of a.vars.now a.lows.now a.highs.now a.heads.now a.links.now a.count in
    let t : Table = table_of l.vars l.lows l.highs l.heads l.links l.n in
    let D : Diagram = wrapped T a.xs.now a.told.now a.sides.now a.depth (diagram_at (nodes_of T) a.node.0) in
    let none : l.d ≡ 0 = omega (arith, c.loop-d-test.false) in
    rising-last a.xs.now a.told.now a.sides.now T D t l.r.0
    (subst (λ (d : ℕ). Rising a.xs.now a.told.now a.sides.now T D t d l.r.0) none l.invariant.0)
