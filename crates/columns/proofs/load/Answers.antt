-- `load`: one node more is in the columns. Assumes nothing.
use mathlib.Core.Path.{◌≡◌, refl, sym, ap, ◌∙◌}
use mathlib.Core.List.{List}
use Prim.Native.Nat.{ℕ, ◌+◌, ◌<◌}
use native.Mathlib.Omega.{arith}
use lib.ListN.{length, get_or, set}
use Rattle.columns.specs.declared.Node.{Node}
use Rattle.columns.specs.Slice.{vars_of, lows_of, highs_of}
use Rattle.columns.proofs.Lists.{add-one, blank, var_of, low_of, high_of, column, column-step}
use Rattle.columns.proofs.load.Goals as goal

-- one turn, in one column
column-next : (f : Node → ℕ) (ys : List Node) (xs now : List ℕ) (i : ℕ) → now ≡ column f ys xs i → i < length ys → i < length xs
    → set now i (f (get_or ys i blank)) ≡ column f ys xs (i + 1)
column-next f ys xs now i e l m = ap (λ (r : List ℕ). set r i (f (get_or ys i blank))) e ∙ column-step f ys xs i l m
    ∙ ap (column f ys xs) (sym (add-one i))

-- the loop ends at n
column-ends : (f : Node → ℕ) (ys : List Node) (xs now : List ℕ) (i n : ℕ) → now ≡ column f ys xs i → i ≡ n → now ≡ column f ys xs n
column-ends f ys xs now i n e q = e ∙ ap (column f ys xs) q

pub loop-i-init : goal.loop-i-init
loop-i-init c = (refl, refl, refl)

pub loop-i-preserved : goal.loop-i-preserved
loop-i-preserved c = (
  column-next var_of c.args.nodes.now c.args.vars.now _ _ c.loop-i.invariant.0 (omega (arith, c.requires.0, c.loop-i-test.true))
      (omega (arith, c.requires.1, c.loop-i-test.true)),
  column-next low_of c.args.nodes.now c.args.lows.now _ _ c.loop-i.invariant.1 (omega (arith, c.requires.0, c.loop-i-test.true))
      (omega (arith, c.requires.2, c.loop-i-test.true)),
  column-next high_of c.args.nodes.now c.args.highs.now _ _ c.loop-i.invariant.2 (omega (arith, c.requires.0, c.loop-i-test.true))
      (omega (arith, c.requires.3, c.loop-i-test.true)),
)

pub returns : goal.returns
unfolding vars_of lows_of highs_of
returns c = let n : c.loop-i.i ≡ c.args.n = omega (arith, c.loop-i-test.false) in (
  column-ends var_of c.args.nodes.now c.args.vars.now _ _ _ c.loop-i.invariant.0 n,
  column-ends low_of c.args.nodes.now c.args.lows.now _ _ _ c.loop-i.invariant.1 n,
  column-ends high_of c.args.nodes.now c.args.highs.now _ _ _ c.loop-i.invariant.2 n,
)
