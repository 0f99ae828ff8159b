-- `all_supports` fills the memo with the words of all nodes. Assumes nothing.
use mathlib.Core.Path.{refl, sym, ◌∙◌, subst}
use Prim.Native.Nat.{ℕ, ◌-◌}
use native.Mathlib.Omega.{arith}
use lib.ListN.{length-set}
use Rattle.table.specs.Nodes.{diagram_at}
use Rattle.walks.specs.Readable.{nodes_in}
use Rattle.walks.proofs.Here.{Here, here, length-in}
use Rattle.supports.specs.Supports.{Support}
use Rattle.supports.proofs.Words.{support-node, known-leaves, known_next, known-all}
use Rattle.supports.proofs.all_supports.Goals as goal

-- src/lib.rt:96:5
pub loop-k-init : goal.loop-k-init
loop-k-init c = (
  known-leaves (nodes_in c.args.vars.now c.args.lows.now c.args.highs.now c.args.count) c.clear_cells.new.memo,
  omega arith,
  c.requires.0.least,
  refl,
)

pub bounds-memo-low : goal.bounds-memo-low
bounds-memo-low c =
    let H : Here c.args.vars.now c.args.lows.now c.args.highs.now c.args.count c.loop-k.k =
    here _ _ _ _ c.requires.0 _ c.loop-k.invariant.1 c.loop-k-test.true in
    omega (arith, H.low-less, c.loop-k.auto.memo, c.clear_cells.auto.memo, c.requires.1, c.requires.0.within)

pub bounds-memo-high : goal.bounds-memo-high
bounds-memo-high c =
    let H : Here c.args.vars.now c.args.lows.now c.args.highs.now c.args.count c.loop-k.k =
    here _ _ _ _ c.requires.0 _ c.loop-k.invariant.1 c.loop-k-test.true in
    omega (arith, H.high-less, c.loop-k.auto.memo, c.clear_cells.auto.memo, c.requires.1, c.requires.0.within)

pub with_variable-requires : goal.with_variable-requires
with_variable-requires c =
    let H : Here c.args.vars.now c.args.lows.now c.args.highs.now c.args.count c.loop-k.k =
    here _ _ _ _ c.requires.0 _ c.loop-k.invariant.1 c.loop-k-test.true in (H.least, H.most)

pub loop-k-preserved : goal.loop-k-preserved
loop-k-preserved c =
    let H : Here c.args.vars.now c.args.lows.now c.args.highs.now c.args.count c.loop-k.k =
    here _ _ _ _ c.requires.0 _ c.loop-k.invariant.1 c.loop-k-test.true in
    let new = support-node c.args.vars.now c.args.lows.now c.args.highs.now c.args.count c.requires.0 c.loop-k.k c.loop-k.invariant.1
    c.loop-k-test.true _ _ (c.loop-k.invariant.0 _ H.low-less) (c.loop-k.invariant.0 _ H.high-less) in (
      known_next _ c.loop-k.memo c.loop-k.k _
          (omega (arith, c.loop-k-test.true, c.loop-k.auto.memo, c.clear_cells.auto.memo, c.requires.1, c.requires.0.within))
          c.loop-k.invariant.0
          (subst (λ (x : ℕ). Support x (diagram_at (nodes_in c.args.vars.now c.args.lows.now c.args.highs.now c.args.count) c.loop-k.k))
          (sym c.with_variable.ensures) new),
      omega arith,
      omega (arith, c.loop-k-test.true),
      length-set c.loop-k.memo c.loop-k.k _ ∙ c.loop-k.invariant.3,
    )

pub returns : goal.returns
returns c =
    known-all _ _ c.loop-k.k
    (omega (arith, length-in c.args.vars.now c.args.lows.now c.args.highs.now c.args.count c.requires.0, c.loop-k-test.false))
    c.loop-k.invariant.0
