-- `index_fits` tells whether each node is on the walk down its chain, behind no node like it, and each head 0 or a node of its chain.
-- Assumes nothing.
use Prim.Native.Nat.{ℕ}
use mathlib.Core.Path.{◌≡◌, ap, subst, ◌∙◌}
use lib.ListN.{length}
use native.Mathlib.Omega.{arith}
use Rattle.table.specs.Indexed.{table_of}
use Rattle.good_order.specs.Tested.{InChain, AllInChain, ComesBy, many}
use Rattle.good_order.proofs.Right.{chain-less}
use Rattle.good_order.proofs.Testing.{says-no, one_more}
use Rattle.good_order.proofs.Counting.{own, many-most, counted_none, counted-head, counted-behind, heads-decided, zeros-most}
use borrow.Author.Rules.{rules}
use Rattle.good_order.proofs.index_fits.Goals as goal
use Rattle.good_order.proofs.index_fits.Goals.{in-Head, in-Behind}

pub loop-k-init : goal.loop-k-init
loop-k-init c = (
  search rules,
  search rules,
  λ k a b. absurd (omega arith),
  counted_none (table_of c.args.vars.now c.args.lows.now c.args.highs.now c.args.heads.now c.args.links.now c.args.count),
)

pub reached-requires : goal.reached-requires
reached-requires c = record {
  lent_sizes = (c.requires.lent_sizes, c.loop-k.invariant.0, c.loop-k-test.true);
  nodes_fit =
      c.requires.nodes_fit;
}

pub overflow_add-first : goal.overflow_add-first
overflow_add-first c = omega (
  arith,
  c.loop-k.invariant.3,
  many-most (own (table_of c.args.vars.now c.args.lows.now c.args.highs.now c.args.heads.now c.args.links.now c.args.count) c.loop-k.k)
      (length c.args.heads.now),
  c.requires.lent_sizes.heads,
  c.requires.lent_sizes.most,
)

pub returns-in-Lost : goal.returns-in-Lost
returns-in-Lost c = says-no (λ fits. subst (ComesBy
    (table_of c.args.vars.now c.args.lows.now c.args.highs.now c.args.heads.now c.args.links.now c.args.count) _) c.in-Lost.is
    c.reached.ensures
    (fits.0 _ c.loop-k.invariant.0 c.loop-k-test.true) fits.1)

pub loop-k-preserved : goal.loop-k-preserved
loop-k-preserved c =
    let w = c.loop-k in
    let comes = c.reached.ensures in
    elim c.match-reached.branch [
      | in-Head y ↦ let r = subst (ComesBy (table_of c.args.vars.now c.args.lows.now c.args.highs.now c.args.heads.now c.args.links.now
          c.args.count) w.k) y.in-Head.is comes in (
            search rules,
            search rules,
            one_more (InChain (table_of c.args.vars.now c.args.lows.now c.args.highs.now c.args.heads.now c.args.links.now c.args.count)) 2
                w.k
                w.invariant.2 r.0,
            y.first-is ∙ counted-head (table_of c.args.vars.now c.args.lows.now c.args.highs.now c.args.heads.now c.args.links.now
                c.args.count)
                w.k w.first w.invariant.0 (chain-less
                (table_of c.args.vars.now c.args.lows.now c.args.highs.now c.args.heads.now c.args.links.now c.args.count)
                c.requires.lent_sizes
                w.k) r.1 w.invariant.3,
          )
      | in-Behind y ↦ let r = subst (ComesBy (table_of c.args.vars.now c.args.lows.now c.args.highs.now c.args.heads.now c.args.links.now
          c.args.count) w.k) y.in-Behind.is comes in (
            search rules,
            search rules,
            one_more (InChain (table_of c.args.vars.now c.args.lows.now c.args.highs.now c.args.heads.now c.args.links.now c.args.count)) 2
                w.k
                w.invariant.2 r.0,
            y.first-is ∙ counted-behind (table_of c.args.vars.now c.args.lows.now c.args.highs.now c.args.heads.now c.args.links.now
                c.args.count) w.k w.first r.1 w.invariant.3,
          )
    ]

pub overflow_add-result : goal.overflow_add-result
overflow_add-result c = omega (
  arith,
  c.loop-k.invariant.3,
  many-most (own (table_of c.args.vars.now c.args.lows.now c.args.highs.now c.args.heads.now c.args.links.now c.args.count) c.loop-k.k)
      (length c.args.heads.now),
  c.zeros_of.ensures,
  zeros-most c.args.heads.now (length c.args.heads.now),
  c.requires.lent_sizes.heads,
  c.requires.lent_sizes.most,
)

pub returns : goal.returns
returns c =
    let w = c.loop-k in
    let all : w.k ≡ c.args.count = omega (arith, w.invariant.1, c.loop-k-test.false) in
    heads-decided (table_of c.args.vars.now c.args.lows.now c.args.highs.now c.args.heads.now c.args.links.now c.args.count) w.first
    c.zeros_of.result
    (w.invariant.3 ∙ ap (λ (k : ℕ). many (own (table_of c.args.vars.now c.args.lows.now c.args.highs.now c.args.heads.now c.args.links.now
    c.args.count) k) (length c.args.heads.now)) all) c.zeros_of.ensures
    (subst (AllInChain (table_of c.args.vars.now c.args.lows.now c.args.highs.now c.args.heads.now c.args.links.now c.args.count)) all
    w.invariant.2)
