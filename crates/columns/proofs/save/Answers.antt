-- `save`: one node more is that of its columns. Assumes nothing.
use mathlib.Core.Path.{◌≡◌, refl, sym, ap, ◌∙◌}
use mathlib.Core.List.{List}
use Prim.Native.Nat.{ℕ, ◌+◌, ◌<◌}
use native.Mathlib.Omega.{arith}
use lib.ListN.{length, set}
use Rattle.columns.specs.declared.Node.{Node}
use Rattle.columns.specs.Inner.{as_nodes}
use Rattle.columns.proofs.Lists.{add-one, node_at, slice, slice-step}
use Rattle.columns.proofs.save.Goals as goal

-- one turn
slice-next : (vs ls hs : List ℕ) (ys now : List Node) (i : ℕ) → now ≡ slice vs ls hs ys i → i < length vs → i < length ls → i < length hs
    → i < length ys → set now i (node_at vs ls hs i) ≡ slice vs ls hs ys (i + 1)
slice-next vs ls hs ys now i e a b c d = ap (λ (r : List Node). set r i (node_at vs ls hs i)) e ∙ slice-step vs ls hs ys i a b c d
    ∙ ap (slice vs ls hs ys) (sym (add-one i))

pub loop-i-init : goal.loop-i-init
unfolding as_nodes
loop-i-init c = refl

pub loop-i-preserved : goal.loop-i-preserved
loop-i-preserved c =
    slice-next c.args.vars.now c.args.lows.now c.args.highs.now c.args.nodes.now _ _ c.loop-i.invariant
    (omega (arith, c.requires.1, c.loop-i-test.true)) (omega (arith, c.requires.2, c.loop-i-test.true))
    (omega (arith, c.requires.3, c.loop-i-test.true)) (omega (arith, c.requires.0, c.loop-i-test.true))

pub returns : goal.returns
returns c = let n : c.loop-i.i ≡ c.args.n = omega (arith, c.loop-i-test.false) in
    c.loop-i.invariant ∙ ap (slice c.args.vars.now c.args.lows.now c.args.highs.now c.args.nodes.now) n
