-- `excluded` adds up the stored binomials below k. The loop: the sum is that of the binomials passed. Assumes nothing.
use mathlib.Core.Path.{◌≡◌, sym, ap₂, ◌∙◌}
use Prim.Native.Nat.{◌+◌}
use native.Mathlib.Omega.{arith}
use borrow.Author.Rules.{rules}
use Rattle.binomial.proofs.Counting.{sum-none, sum_more, sum_to, excluded-is}
use Rattle.binomial.proofs.excluded.Goals as goal

pub loop-j-init : goal.loop-j-init
loop-j-init c = (sym (sum-none _), omega arith)

pub loop-j-preserved : goal.loop-j-preserved
loop-j-preserved c = (ap₂ ◌+◌ c.loop-j.invariant.0 (c.from-sum.ensures ∙ c.binomial-c.ensures) ∙ sym (sum_more _ _), search rules)

pub returns : goal.returns
returns c =
    let e : c.loop-j.j ≡ c.from-end.result = omega arith in
    c.loop-j.invariant.0
    ∙ rw e (sym (sum_to _ _ _ (search rules) (c.from-end.ensures ∙ c.min.ensures)) ∙ sym (excluded-is _ _))
