-- `nodes_fit` tells whether all nodes and their links are as good order asks. Assumes nothing.
use native.Mathlib.Omega.{arith}
use borrow.Author.Tests.{not-true, not-false}
use Rattle.table.specs.Indexed.{table_of}
use Rattle.good_order.specs.Tested.{NodeFits}
use Rattle.good_order.proofs.Testing.{says-no, says-yes, one_more}
use borrow.Author.Rules.{rules}
use Rattle.good_order.proofs.nodes_fit.Goals as goal

pub loop-k-init : goal.loop-k-init
loop-k-init c = (search rules, search rules, λ k a b. absurd (omega arith))

pub returns-then-not-node_fits : goal.returns-then-not-node_fits
returns-then-not-node_fits c = says-no (λ all. c.node_fits.ensures.no (not-true _ c.if-not-node_fits.true-raw)
    (all _ c.loop-k.invariant.0 c.loop-k-test.true))

pub loop-k-preserved : goal.loop-k-preserved
loop-k-preserved c = let a = c.args in (
  search rules,
  search rules,
  one_more (NodeFits
      (table_of a.vars.now a.lows.now a.highs.now a.heads.now a.links.now a.count)) 2 _
      c.loop-k.invariant.2 (c.node_fits.ensures.yes (not-false _ c.if-not-node_fits.false-raw)),
)

pub returns : goal.returns
returns c = says-yes (λ k a b. c.loop-k.invariant.2 k a (omega (arith, c.loop-k-test.false)))
