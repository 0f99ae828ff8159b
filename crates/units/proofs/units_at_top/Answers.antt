-- What `units_at_top` knows are the node's units. Assumes nothing.
use mathlib.Core.Path.{sym, ap₂, subst}
use mathlib.Core.Logic.{inl, inr}
use Prim.Native.Nat.{ℕ}
use native.Mathlib.Omega.{arith}
use Rattle.walks.specs.Readable.{nodes_in}
use Rattle.walks.proofs.Here.{here}
use Rattle.units.specs.Units.{UnitsAt}
use Rattle.units.proofs.Branches.{of-64}
use Rattle.units.proofs.Tops.{one_known, top-units}
use Rattle.units.proofs.units_at_top.Goals as goal
use Rattle.units.proofs.units_at_top.Goals.{then-low-eq1-via-then-low-eq1, then-low-eq1-via-else-low-eq1+then-high-eq1}

pub returns-then-f-eq1 : goal.returns-then-f-eq1
returns-then-f-eq1 c =
    let a = c.args in
    let nodes = nodes_in a.vars.now a.lows.now a.highs.now a.count in
    subst (λ (k : ℕ). UnitsAt 64 nodes k (record { positive = 0; negative = 0 })) (sym c.if-f-eq1.true) (one_known 64 nodes)

pub literal_where-requires : goal.literal_where-requires
literal_where-requires c = (
  (here c.args.vars.now c.args.lows.now c.args.highs.now c.args.count c.requires.0 c.args.f.0
      (omega (arith, c.if-f-eq0.false, c.if-f-eq1.false)) c.requires.1).least,
  (here c.args.vars.now c.args.lows.now c.args.highs.now c.args.count c.requires.0 c.args.f.0
      (omega (arith, c.if-f-eq0.false, c.if-f-eq1.false)) c.requires.1).most,
)

pub literal_where-requires-then-low-eq1 : goal.literal_where-requires-then-low-eq1
literal_where-requires-then-low-eq1 c = (
  (here c.args.vars.now c.args.lows.now c.args.highs.now c.args.count c.requires.0 c.args.f.0
      (omega (arith, c.if-f-eq0.false, c.if-f-eq1.false)) c.requires.1).least,
  (here c.args.vars.now c.args.lows.now c.args.highs.now c.args.count c.requires.0 c.args.f.0
      (omega (arith, c.if-f-eq0.false, c.if-f-eq1.false)) c.requires.1).most,
)

pub returns-then-low-eq1 : goal.returns-then-low-eq1
returns-then-low-eq1 c =
    let a = c.args in
    subst (UnitsAt 64 (nodes_in a.vars.now a.lows.now a.highs.now a.count) a.f.0)
    (sym (ap₂ (λ (p n : ℕ). record { positive = p; negative = n }) c.literal_where.ensures c.literal_where-then-low-eq1.ensures))
    (top-units 64 a.vars.now a.lows.now a.highs.now a.count c.requires.0
    (of-64 a.vars.now a.lows.now a.highs.now a.count c.requires.0) a.f.0 (omega (arith, c.if-f-eq0.false, c.if-f-eq1.false)) c.requires.1
    (elim c.then-low-eq1.branch [
      | then-low-eq1-via-then-low-eq1 w ↦ inl w.if-low-eq1.true
      | then-low-eq1-via-else-low-eq1+then-high-eq1 w ↦ inr w.if-high-eq1.true
    ]))
