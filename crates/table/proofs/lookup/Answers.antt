-- `lookup` finds by the index what the walk from place 2 finds: the loop goes down one chain (Chain). Assumes nothing.
use Rattle.std.proofs.Common.{sym, ap, eq-eqb, ne_eqb}
use Rattle.table.specs.Nodes.{node_of, alike}
use Rattle.table.specs.Indexed.{found_of}
use Rattle.table.proofs.Chain.{chain-start, chain-less, chain_next, chain-hit, chain-end}
use Rattle.table.proofs.lookup.Goals as goal
use Rattle.table.proofs.lookup.Goals.{else-vars-i-via-then-vars-i+then-lows-i+else-highs-i, else-vars-i-via-then-vars-i+else-lows-i}
use Rattle.table.proofs.lookup.Goals.{else-vars-i-via-else-vars-i}

pub loop-k-init : goal.loop-k-init
loop-k-init c =
    chain-start _ c.requires
    (node_of c.args.v c.args.l.0 c.args.h.0) _
    c.bucket_of-b.ensures.value

pub returns-then-highs-i : goal.returns-then-highs-i
unfolding alike
returns-then-highs-i c =
    ap found_of (sym (chain-hit _ c.requires _ _ c.loop-k-test.true c.loop-k.invariant
    (rw (
      eq-eqb _ _ c.if-vars-i.true,
      c.if-lows-i.true-raw,
      c.if-highs-i.true-raw,
    ))))

pub loop-k-smaller : goal.loop-k-smaller
loop-k-smaller c =
    chain-less _ c.requires _ _ c.loop-k-test.true c.loop-k.invariant

pub loop-k-preserved : goal.loop-k-preserved
unfolding alike
loop-k-preserved c =
    let next = chain_next _ c.requires _ _ c.loop-k-test.true
    c.loop-k.invariant in
    elim c.else-vars-i.branch [
      | else-vars-i-via-then-vars-i+then-lows-i+else-highs-i w ↦
          next (rw (eq-eqb _ _ w.if-vars-i.true, w.if-lows-i.true-raw, w.if-highs-i.false-raw))
      | else-vars-i-via-then-vars-i+else-lows-i w ↦
          next (rw (eq-eqb _ _ w.if-vars-i.true, w.if-lows-i.false-raw))
      | else-vars-i-via-else-vars-i w ↦
          next (rw (ne_eqb _ _ w.if-vars-i.false))
    ]

pub returns : goal.returns
returns c =
    ap found_of (sym (chain-end _ c.requires _ _ c.loop-k-test.false c.loop-k.invariant))
