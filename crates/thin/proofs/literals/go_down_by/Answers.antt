-- Under the steps written the cofactor stays the one asked, in every table with these columns, and each step comes to later variables: so
-- there are at most 64. Assumes nothing.
use mathlib.Core.Path.{◌≡◌, ◌∙◌, subst}
use mathlib.Core.List.{List}
use Prim.Native.Nat.{ℕ, ◌-◌, ◌<◌}
use native.Mathlib.Omega.{arith}
use lib.ListN.{length-set}
use Rattle.table.specs.declared.NodeNo.{NodeNo}
use Rattle.table.specs.Indexed.{table_of}
use Rattle.operate.specs.declared.Operation.{Operation}
use Rattle.operate.specs.Inner.{top}
use Rattle.thin.specs.declared.StepDown.{StepDown}
use Rattle.thin.specs.declared.StepDown.TheVariants.{Told, One, Over}
use Rattle.thin.specs.Thin.{by_literals, Given, StepSays, result_at}
use Rattle.thin.proofs.Descending.{GoingDown, going-first, going-told, going-one, step_room, going-over, top_within}
use Rattle.thin.proofs.LiteralSteps.{one-by, over_by}
use Rattle.thin.specs.Thin.{SomeGiven}
use Rattle.thin.proofs.literals.go_down_by.Goals as goal

-- at a step from f, in every table with these columns
module _ (op : Operation) (shared : ℕ) (vars lows highs : List ℕ) (first second : ℕ) (xs told sides : List ℕ) (f g depth : ℕ)
    (come : (heads links : List ℕ) (count : ℕ) → Given op shared (table_of vars lows highs heads links count) first second
    → GoingDown op shared (table_of vars lows highs heads links count) first second xs told sides f g depth)
    (y : StepDown) (step : (heads links : List ℕ) (count : ℕ) → Given op shared (table_of vars lows highs heads links count) f g
    → StepSays op shared (table_of vars lows highs heads links count) (top vars f g)
    (result_at op (table_of vars lows highs heads links count) f g) y) where
  -- what the code's step says
  says : (r : StepDown) → y ≡ r → (heads links : List ℕ) (count : ℕ) → Given op shared (table_of vars lows highs heads links count) first
      second
      → StepSays op shared (table_of vars lows highs heads links count) (top vars f g)
      (result_at op (table_of vars lows highs heads links count) f g) r
  says r e heads links count H =
      subst (StepSays op shared (table_of vars lows highs heads links count) (top vars f g)
      (result_at op (table_of vars lows highs heads links count) f g)) e (step heads links count (come heads links count H).given)

  -- a step that is written has room
  room : SomeGiven op shared vars lows highs first second → (x : ℕ) (k : NodeNo) (side : ℕ) (a b : NodeNo) → y ≡ Over x k side a b →
      depth < 64
  room R x k side a b e =
      step_room op shared (table_of vars lows highs R.heads R.links R.count) first second xs told sides f g depth
      (come R.heads R.links R.count R.given) x k side a b (says (Over x k side a b) e R.heads R.links R.count R.given)

pub loop-node-init : goal.loop-node-init
loop-node-init c =
    (c.requires.1, c.requires.2, c.requires.3, λ heads links count H. going-first _ _ _ _ _ _ _ _ H)

pub step_by-requires : goal.step_by-requires
step_by-requires c =
    let r = c.requires.0 in
    record { heads = r.heads; links = r.links; count = r.count; given = (c.loop-node.invariant.3 r.heads r.links r.count r.given).given }

pub returns-in-Told : goal.returns-in-Told
returns-in-Told c =
    let a = c.args in
    let l = c.loop-node in
    λ heads links count H.
    let h = says (by_literals a.by) a.by.positive a.vars.now a.lows.now a.highs.now a.first.0 1 l.xs l.told l.sides l.f.0 1 l.depth
    l.invariant.3 c.step_by.result c.step_by.ensures (Told c.in-Told.node) c.in-Told.is heads links count in
    going-told (by_literals a.by) a.by.positive (table_of a.vars.now a.lows.now a.highs.now heads links count) a.first.0 1 l.xs l.told
    l.sides l.f.0 1 l.depth
    (l.invariant.3 heads links count H) c.in-Told.node (h H)

pub loop-node-smaller-in-One : goal.loop-node-smaller-in-One
loop-node-smaller-in-One c =
    let a = c.args in
    let l = c.loop-node in
    let r = c.requires.0 in
    let h = (one-by a.by (table_of a.vars.now a.lows.now a.highs.now r.heads r.links r.count) _ _ c.in-One.a c.in-One.g
    (says (by_literals a.by) a.by.positive a.vars.now a.lows.now a.highs.now a.first.0 1 l.xs l.told l.sides l.f.0 1 l.depth
    l.invariant.3 c.step_by.result c.step_by.ensures (One c.in-One.a c.in-One.g) c.in-One.is r.heads r.links r.count r.given)) in
    omega (
      arith,
      h.1,
      top_within (by_literals a.by) a.by.positive (table_of a.vars.now a.lows.now a.highs.now r.heads r.links r.count)
          c.in-One.a.0 1 h.0,
    )

pub loop-node-preserved-in-One : goal.loop-node-preserved-in-One
loop-node-preserved-in-One c =
    let a = c.args in
    let l = c.loop-node in (
      l.invariant.0,
      l.invariant.1,
      l.invariant.2,
      λ heads links count H.
          going-one (by_literals a.by) a.by.positive (table_of a.vars.now a.lows.now a.highs.now heads links count) a.first.0 1 l.xs l.told
          l.sides l.f.0 1 l.depth
          (l.invariant.3 heads links count H) c.in-One.a (record { 0 = 1 })
          (one-by a.by (table_of a.vars.now a.lows.now a.highs.now heads links count) _ _ c.in-One.a c.in-One.g
          (says (by_literals a.by) a.by.positive a.vars.now a.lows.now a.highs.now a.first.0 1 l.xs l.told l.sides l.f.0 1 l.depth
          l.invariant.3 c.step_by.result c.step_by.ensures (One c.in-One.a c.in-One.g) c.in-One.is heads links count H)),
    )

pub bounds-xs-depth : goal.bounds-xs-depth
bounds-xs-depth c =
    let a = c.args in
    let l = c.loop-node in
    omega (
      arith,
      room (by_literals a.by) a.by.positive a.vars.now a.lows.now a.highs.now a.first.0 1 l.xs l.told l.sides l.f.0 1 l.depth
          l.invariant.3 c.step_by.result c.step_by.ensures c.requires.0 c.in-Over.x c.in-Over.k c.in-Over.side c.in-Over.a c.in-Over.g
          c.in-Over.is,
      l.invariant.0,
    )

pub offset_bounds-told-depth : goal.offset_bounds-told-depth
offset_bounds-told-depth c =
    let a = c.args in
    let l = c.loop-node in
    omega (
      arith,
      room (by_literals a.by) a.by.positive a.vars.now a.lows.now a.highs.now a.first.0 1 l.xs l.told l.sides l.f.0 1 l.depth
          l.invariant.3 c.step_by.result c.step_by.ensures c.requires.0 c.in-Over.x c.in-Over.k c.in-Over.side c.in-Over.a c.in-Over.g
          c.in-Over.is,
    )

pub bounds-told-depth : goal.bounds-told-depth
bounds-told-depth c =
    let a = c.args in
    let l = c.loop-node in
    omega (
      arith,
      room (by_literals a.by) a.by.positive a.vars.now a.lows.now a.highs.now a.first.0 1 l.xs l.told l.sides l.f.0 1 l.depth
          l.invariant.3 c.step_by.result c.step_by.ensures c.requires.0 c.in-Over.x c.in-Over.k c.in-Over.side c.in-Over.a c.in-Over.g
          c.in-Over.is,
      l.invariant.1,
    )

pub bounds-sides-depth : goal.bounds-sides-depth
bounds-sides-depth c =
    let a = c.args in
    let l = c.loop-node in
    omega (
      arith,
      room (by_literals a.by) a.by.positive a.vars.now a.lows.now a.highs.now a.first.0 1 l.xs l.told l.sides l.f.0 1 l.depth
          l.invariant.3 c.step_by.result c.step_by.ensures c.requires.0 c.in-Over.x c.in-Over.k c.in-Over.side c.in-Over.a c.in-Over.g
          c.in-Over.is,
      l.invariant.2,
    )

pub overflow_add-depth : goal.overflow_add-depth
overflow_add-depth c =
    let a = c.args in
    let l = c.loop-node in
    omega (
      arith,
      room (by_literals a.by) a.by.positive a.vars.now a.lows.now a.highs.now a.first.0 1 l.xs l.told l.sides l.f.0 1 l.depth
          l.invariant.3 c.step_by.result c.step_by.ensures c.requires.0 c.in-Over.x c.in-Over.k c.in-Over.side c.in-Over.a c.in-Over.g
          c.in-Over.is,
    )

pub loop-node-smaller : goal.loop-node-smaller
loop-node-smaller c =
    let a = c.args in
    let l = c.loop-node in
    let r = c.requires.0 in
    let h = (over_by a.by (table_of a.vars.now a.lows.now a.highs.now r.heads r.links r.count) _ _ c.in-Over.a c.in-Over.g c.in-Over.x
    c.in-Over.k c.in-Over.side (says (by_literals a.by) a.by.positive a.vars.now a.lows.now a.highs.now a.first.0 1 l.xs l.told l.sides
    l.f.0 1 l.depth l.invariant.3 c.step_by.result c.step_by.ensures
    (Over c.in-Over.x c.in-Over.k c.in-Over.side c.in-Over.a c.in-Over.g) c.in-Over.is r.heads r.links r.count r.given)) in
    omega (
      arith,
      h.1,
      h.3,
      top_within (by_literals a.by) a.by.positive (table_of a.vars.now a.lows.now a.highs.now r.heads r.links r.count)
          c.in-Over.a.0 1 h.0,
    )

pub loop-node-preserved : goal.loop-node-preserved
loop-node-preserved c =
    let a = c.args in
    let l = c.loop-node in
    let room = room (by_literals a.by) a.by.positive a.vars.now a.lows.now a.highs.now a.first.0 1 l.xs l.told l.sides l.f.0 1 l.depth
    l.invariant.3 c.step_by.result c.step_by.ensures c.requires.0 c.in-Over.x c.in-Over.k c.in-Over.side c.in-Over.a c.in-Over.g
    c.in-Over.is in (
      length-set l.xs l.depth _ ∙ l.invariant.0,
      length-set l.told l.depth _ ∙ l.invariant.1,
      length-set l.sides l.depth _ ∙ l.invariant.2,
      λ heads links count H.
          going-over (by_literals a.by) a.by.positive (table_of a.vars.now a.lows.now a.highs.now heads links count) a.first.0 1 l.xs l.told
          l.sides l.f.0 1 l.depth
          (l.invariant.3 heads links count H) c.in-Over.x c.in-Over.k c.in-Over.side c.in-Over.a (record { 0 = 1 })
          (over_by a.by (table_of a.vars.now a.lows.now a.highs.now heads links count) _ _ c.in-Over.a c.in-Over.g c.in-Over.x c.in-Over.k
          c.in-Over.side (says (by_literals a.by) a.by.positive a.vars.now a.lows.now a.highs.now a.first.0 1 l.xs l.told l.sides l.f.0
          1 l.depth l.invariant.3 c.step_by.result c.step_by.ensures
          (Over c.in-Over.x c.in-Over.k c.in-Over.side c.in-Over.a c.in-Over.g) c.in-Over.is heads links count H))
          (omega (arith, room, l.invariant.0)) (omega (arith, room, l.invariant.1)) (omega (arith, room, l.invariant.2)),
    )

pub returns-in-Wide : goal.returns-in-Wide
returns-in-Wide c =
    λ heads links count. tt
