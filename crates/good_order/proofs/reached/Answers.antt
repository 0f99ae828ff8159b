-- `reached` tells where the walk down a node's chain comes to it. Assumes nothing.
use native.Mathlib.Omega.{arith}
use borrow.Author.Tests.{eq-eqb, ne_eqb}
use Rattle.table.specs.Nodes.{alike}
use Rattle.table.specs.Indexed.{table_of}
use Rattle.good_order.proofs.Right.{link-less}
use Rattle.good_order.proofs.Testing.{walk-past, walk-head, walk_start, walk-next, walk-hit, walk-found, walk_end}
use Rattle.good_order.proofs.reached.Goals as goal
use Rattle.good_order.proofs.reached.Goals.{else-vars-j-via-then-vars-j+then-lows-j+else-highs-j, else-vars-j-via-then-vars-j+else-lows-j}
use Rattle.good_order.proofs.reached.Goals.{else-vars-j-via-else-vars-j}

pub overflow_cast-j : goal.overflow_cast-j
overflow_cast-j c = omega (arith, c.shared_slice_known-9-1.given c.bucket_of-b.result)

pub returns-then-count-j : goal.returns-then-count-j
returns-then-count-j c = walk-past _ c.requires.lent_sizes.0 c.requires.nodes_fit _ _ c.bucket_of-b.ensures.upper_bound
    c.bucket_of-b.ensures.value c.if-count-j.true

pub returns-then-j-k : goal.returns-then-j-k
returns-then-j-k c = walk-head _ c.requires.lent_sizes.0 c.requires.nodes_fit _ _ c.bucket_of-b.ensures.value
    c.if-j-k.true

pub loop-j-init : goal.loop-j-init
loop-j-init c = walk_start _ c.requires.lent_sizes.0 c.requires.nodes_fit _ _ c.bucket_of-b.ensures.value
    (omega (arith, c.if-count-j.false)) c.if-j-k.false

pub returns-then-highs-j : goal.returns-then-highs-j
unfolding alike
returns-then-highs-j c = walk-hit _ c.requires.lent_sizes.0 c.requires.nodes_fit _ _ c.loop-j-test.true
    c.loop-j.invariant (rw (
      eq-eqb _ _ c.if-vars-j.true,
      c.if-lows-j.true-raw,
      c.if-highs-j.true-raw,
    ))

pub overflow_cast-j-in-loop-j : goal.overflow_cast-j-in-loop-j
overflow_cast-j-in-loop-j c = omega (arith, c.shared_slice_known-in-loop-j-2-1.given c.loop-j.j)

pub loop-j-smaller : goal.loop-j-smaller
loop-j-smaller c = let a = c.args in
    link-less (table_of a.vars.now a.lows.now a.highs.now a.heads.now a.links.now a.count)
    c.requires.nodes_fit _
    (omega (arith, c.loop-j-test.true, c.requires.lent_sizes.1))
    c.loop-j.invariant.below

pub loop-j-preserved : goal.loop-j-preserved
unfolding alike
loop-j-preserved c = let next = walk-next _ c.requires.lent_sizes.0 c.requires.nodes_fit _ _
    c.requires.lent_sizes.1 c.loop-j-test.true c.loop-j.invariant in
    elim c.else-vars-j.branch [
      | else-vars-j-via-then-vars-j+then-lows-j+else-highs-j w ↦ next
          (rw (eq-eqb _ _ w.if-vars-j.true, w.if-lows-j.true-raw, w.if-highs-j.false-raw))
      | else-vars-j-via-then-vars-j+else-lows-j w ↦ next (rw (eq-eqb _ _ w.if-vars-j.true, w.if-lows-j.false-raw))
      | else-vars-j-via-else-vars-j w ↦ next (rw (ne_eqb _ _ w.if-vars-j.false))
    ]

pub returns-then-j-k-2 : goal.returns-then-j-k-2
returns-then-j-k-2 c = walk_end _ c.requires.lent_sizes.0 c.requires.nodes_fit _ _
    (omega (arith, c.if-j-k-2.true, c.requires.lent_sizes.1)) c.loop-j.invariant

pub returns : goal.returns
returns c = walk-found _ c.requires.lent_sizes.0 c.requires.nodes_fit _ _ c.loop-j.invariant
    (omega (arith, c.loop-j-test.false, c.if-j-k-2.false))
