-- The list's words are filled in one by one, while the memo stays right, as it is begun, cleared or filled. Assumes nothing.
use mathlib.Core.Path.{refl, sym, ◌∙◌, subst}
use mathlib.Core.List.{List}
use Prim.Native.Nat.{ℕ, ◌-◌, ◌<◌}
use native.Mathlib.Omega.{arith}
use lib.ListN.{length, get_or, length-set}
use Rattle.walks.specs.Readable.{nodes_in}
use Rattle.walks.proofs.Here.{length-in}
use Rattle.supports.specs.Supports.{Support, SupportMemo}
use Rattle.supports.proofs.Words.{memo-cleared, memo-known, filled_none, filled_next, filled-all}
use Rattle.supports.proofs.supports_of.Goals as goal
use Rattle.supports.proofs.supports_of.Goals.{then-list-count, else-list-count}

-- What the memo holds before the list is gone through, cleared or filled.
begun : (c : goal.Joined-list-count)
    → SupportMemo c.if-list-count.memo (nodes_in c.args.vars.now c.args.lows.now c.args.highs.now c.args.count)
begun c = elim c.if-list-count.branch [
  | then-list-count w ↦ subst
      (λ (m : List ℕ). SupportMemo m (nodes_in c.args.vars.now c.args.lows.now c.args.highs.now c.args.count)) (sym w.memo-is)
      (memo-cleared Support (nodes_in c.args.vars.now c.args.lows.now c.args.highs.now c.args.count) _ c.args.count
      (length-in c.args.vars.now c.args.lows.now c.args.highs.now c.args.count c.requires.0) w.clear_cells.ensures)
  | else-list-count w ↦ subst
      (λ (m : List ℕ). SupportMemo m (nodes_in c.args.vars.now c.args.lows.now c.args.highs.now c.args.count)) (sym w.memo-is)
      w.all_supports.ensures
]

pub loop-i-init : goal.loop-i-init
loop-i-init c = (
  filled_none (nodes_in c.args.vars.now c.args.lows.now c.args.highs.now c.args.count) c.args.list.now c.args.words.now c.requires.3,
  begun c,
  refl,
  refl,
)

pub loop-i-preserved-then-known-ne0 : goal.loop-i-preserved-then-known-ne0
loop-i-preserved-then-known-ne0 c =
    let t = nodes_in c.args.vars.now c.args.lows.now c.args.highs.now c.args.count in
    let k = get_or c.args.list.now c.loop-i.i 0 in
    let inside : k < length t = omega (
      arith,
      c.requires.1 c.loop-i.i c.loop-i-test.true,
      length-in c.args.vars.now c.args.lows.now c.args.highs.now c.args.count c.requires.0,
    ) in (
      filled_next t c.args.list.now c.loop-i.words c.loop-i.i (get_or c.loop-i.memo k 0) c.loop-i.invariant.0 c.loop-i-test.true
          (memo-known Support t c.loop-i.memo k inside c.loop-i.invariant.1 c.if-known-ne0.true),
      c.loop-i.invariant.1,
      c.loop-i.invariant.2,
      length-set c.loop-i.words c.loop-i.i (get_or c.loop-i.memo k 0) ∙ c.loop-i.invariant.3,
    )

pub returns-clause-fact : goal.returns-clause-fact
returns-clause-fact c =
    filled-all (nodes_in c.args.vars.now c.args.lows.now c.args.highs.now c.args.count) c.args.list.now c.loop-i.words c.loop-i.i
    c.loop-i.invariant.0 c.loop-i-test.false
