-- One walk down a chain of a table with its index finds what the walk from place 2 finds. The idea: at each place of the chain, what is to
-- be found is what is left to be found; no two nodes are alike, so a hit is the first. Assumes nothing.
use Rattle.std.proofs.Common.{◌≡◌, ℕ, zero, suc, ◌-◌, ◌*◌, ◌<◌, ◌≤◌, true, false, List, length, get_or, take, sym, ap, ◌∙◌, subst, arith}
use Rattle.std.proofs.Common.{length-take-le, get_or-take, take-suc}
use mathlib.Core.Option.{Option, none, some}
use native.Mathlib.Decide.{ℕ_discrete}
use lib.ListN.{get_or-map}
use lib.Seq.{take-length}
use Rattle.table.specs.Nodes.{Node, node_of, blank, at, alike, find}
use Rattle.table.specs.Index.{bucket, bucket_at}
use Rattle.table.specs.Columns.{rows, NodeColumns, columns_of}
use Rattle.table.specs.Indexed.{Index, index_made, index_from, index_of, Table, size, nodes_of, Good, indexed}
use Rattle.table.proofs.Order.{alike-true, differ-alike}
use Rattle.table.proofs.Written.{columns-rows, length-nodes, good-ordered}
use Rattle.table.proofs.Placing.{Found, found}
use Rattle.table.proofs.Index.{bucket-less, last_in, last-is, last_less, last-here, last-before, last_none, heads-is, links-is}
use Rattle.table.proofs.Index.{find-miss, find-short}

-- ---- the columns' reads

module _ (vs ls hs : List ℕ) (p : length ls ≡ length vs) (q : length hs ≡ length vs) (k : ℕ) where
  pub rows-var : (at (rows vs ls hs) k).var ≡ get_or vs k 0
  unfolding columns_of
  rows-var = sym (get_or-map (λ x. x.var) (rows vs ls hs) k blank) ∙ ap (λ (c : NodeColumns). get_or c.vars k 0)
      (columns-rows vs ls hs p q)

  rows-low : (at (rows vs ls hs) k).low ≡ get_or ls k 0
  unfolding columns_of
  rows-low = sym (get_or-map (λ x. x.low) (rows vs ls hs) k blank) ∙ ap (λ (c : NodeColumns). get_or c.lows k 0)
      (columns-rows vs ls hs p q)

  rows-high : (at (rows vs ls hs) k).high ≡ get_or hs k 0
  unfolding columns_of
  rows-high = sym (get_or-map (λ x. x.high) (rows vs ls hs) k blank)
      ∙ ap (λ (c : NodeColumns). get_or c.highs k 0) (columns-rows vs ls hs p q)

  pub rows_at : at (rows vs ls hs) k ≡ node_of (get_or vs k 0) (get_or ls k 0) (get_or hs k 0)
  rows_at = rw (sym rows-var, sym rows-low, sym rows-high)

-- ---- a table with its index

module _ (T : Table) (G : Good T) where
  abbrev nodes : List Node
  nodes = nodes_of T

  abbrev chain_of : ℕ → ℕ
  chain_of k = bucket_at (2 * size T) nodes k

  index_is : index_made T.heads T.links ≡ index_of (size T) nodes
  unfolding indexed
  index_is = ap (λ (t : Table). index_made t.heads t.links) G.written

  pub node_at : (k : ℕ) → k < T.count → at nodes k ≡ node_of (get_or T.vars k 0) (get_or T.lows k 0) (get_or T.highs k 0)
  unfolding nodes_of
  node_at k lt =
      get_or-take T.count (rows T.vars T.lows T.highs) k blank lt ∙ rows_at T.vars T.lows T.highs G.lows G.highs k

  head-last : (b : ℕ) → b < 2 * size T → get_or T.heads b 0 ≡ last_in chain_of b (T.count - 2)
  head-last b lt =
      ap (λ (x : Index). get_or x.heads b 0) index_is ∙ ap (λ (n : ℕ). get_or (index_from nodes (2 * size T) (size T) (n - 2)).heads b 0)
      (length-nodes T G)
      ∙ heads-is nodes (2 * size T) (size T) (T.count - 2) b lt

  link-last : (k : ℕ) → 2 ≤ k → k < T.count → get_or T.links k 0 ≡ last_in chain_of (chain_of k) (k - 2)
  link-last k two lt =
      ap (λ (x : Index). get_or x.links k 0) index_is ∙ ap (λ (n : ℕ). get_or (index_from nodes (2 * size T) (size T) (n - 2)).links k 0)
      (length-nodes T G)
      ∙ links-is nodes (2 * size T) (size T) (omega (arith, G.within, G.least)) (T.count - 2) k
      (omega (arith, G.within, G.least)) two (omega (arith, G.least))

  -- ---- what is found among the first places

  find-end : (x : Node) (k : ℕ) → 2 ≤ k → k < T.count → alike (at nodes k) x ≡ false → find (take (suc k) nodes) x ≡ find (take k nodes) x
  find-end x k two lt miss =
      let len : k < length nodes = omega (arith, length-nodes T G) in
      ap (λ (u : List Node). find u x) (take-suc nodes k blank len)
      ∙ find-miss (take k nodes) (at nodes k) x (omega (arith, length-take-le k nodes (omega arith))) miss

  -- what the walk finds among the first places is at the last of the node's chain or before it
  find-last : (x : Node) (j : ℕ) → suc (suc j) ≤ T.count
      → find (take (suc (suc j)) nodes) x ≡ find (take (suc (last_in chain_of (bucket (2 * size T) x.var x.low x.high) j)) nodes) x
  find-last x zero h =
      find-short (take 2 nodes) x (omega (arith, length-take-le 2 nodes (omega (arith, length-nodes T G))))
      ∙ sym (ap (λ (k : ℕ). find (take (suc k) nodes) x) (last_none chain_of (bucket (2 * size T) x.var x.low x.high))
      ∙ find-short (take 1 nodes) x (omega (arith, length-take-le 1 nodes (omega (arith, length-nodes T G)))))
  find-last x (suc j) h =
      elim (ℕ_discrete (chain_of (suc (suc j))) (bucket (2 * size T) x.var x.low x.high)) [
        | yes q ↦ ap (λ (k : ℕ). find (take (suc k) nodes) x)
            (sym (last-here chain_of (bucket (2 * size T) x.var x.low x.high) j q))
        | no q ↦
            find-end x (suc (suc j)) (omega arith) (omega arith)
            (differ-alike (at nodes (suc (suc j))) x (λ e. q (ap (λ (y : Node). bucket (2 * size T) y.var y.low y.high) e)))
            ∙ find-last x j (omega arith)
            ∙ ap (λ (k : ℕ). find (take (suc k) nodes) x) (sym (last-before chain_of (bucket (2 * size T) x.var x.low x.high) j q))
      ]

-- ---- the walk down the chain

-- At place k of the chain of x; 0 is its end.
pub record Inner (T : Table) (x : Node) (k : ℕ) : Type 0 where
  pub from : 2 ≤ k
  pub is : bucket_at (2 * size T) (nodes_of T) k ≡ bucket (2 * size T) x.var x.low x.high

pub record Chain (T : Table) (x : Node) (k : ℕ) : Type 0 where
  pub below : k < T.count
  pub inner : (k ≡ 0 → ⊥) → Inner T x k
  pub rest : find (nodes_of T) x ≡ find (take (suc k) (nodes_of T)) x

module _ (T : Table) (G : Good T) (x : Node) where
  abbrev home : ℕ
  home = bucket (2 * size T) x.var x.low x.high

  chain-last : (j : ℕ) → suc (suc j) ≤ T.count → find (nodes_of T) x ≡ find (take (suc (suc j)) (nodes_of T)) x →
      Chain T x (last_in (chain_of T G) home j)
  chain-last j h rest = record {
    below = omega (arith, last_less (chain_of T G) home j);
    inner = λ ne. let r = last-is (chain_of T G) home j ne in record { from = r.from; is = r.is };
    rest = rest ∙ find-last T G x j h;
  }

  pub chain-start : (b : ℕ) → b ≡ bucket (length T.heads) x.var x.low x.high → Chain T x (get_or T.heads b 0)
  chain-start b e =
      let q : suc (suc (T.count - 2)) ≡ length (nodes_of T) = omega (arith, length-nodes T G, G.least) in
      let is : b ≡ home = e ∙ ap (λ (n : ℕ). bucket n x.var x.low x.high) G.heads in
      subst (Chain T x) (sym (ap (λ (i : ℕ). get_or T.heads i 0) is ∙ head-last T G home
      (bucket-less (2 * size T) x.var x.low x.high (omega (arith, G.within, G.least)))))
      (chain-last (T.count - 2) (omega (arith, G.least))
      (ap (λ (u : List Node). find u x) (sym (ap (λ (n : ℕ). take n (nodes_of T)) q ∙ take-length (nodes_of T)))))

  module _ (k : ℕ) (ne : k ≡ 0 → ⊥) (C : Chain T x k) where
    pub chain-less : get_or T.links k 0 < k
    chain-less =
        let two : 2 ≤ k = (C.inner ne).from in
        omega (arith, link-last T G k two C.below, last_less (chain_of T G) (chain_of T G k) (k - 2))

    pub chain_next : alike (node_of (get_or T.vars k 0) (get_or T.lows k 0) (get_or T.highs k 0)) x ≡ false →
        Chain T x (get_or T.links k 0)
    chain_next miss =
        let two : 2 ≤ k = (C.inner ne).from in
        let s : suc (suc (k - 2)) ≡ k = omega arith in
        subst (Chain T x) (sym (link-last T G k two C.below ∙ ap (λ (b : ℕ). last_in (chain_of T G) b (k - 2)) (C.inner ne).is))
        (chain-last (k - 2) (omega (arith, C.below))
        (C.rest ∙ find-end T G x k two C.below (ap (λ (y : Node). alike y x) (node_at T G k C.below) ∙ miss)
        ∙ ap (λ (i : ℕ). find (take i (nodes_of T)) x) (sym s)))

    pub chain-hit : alike (node_of (get_or T.vars k 0) (get_or T.lows k 0) (get_or T.highs k 0)) x ≡ true → find (nodes_of T) x ≡ some k
    chain-hit hit = go (find (nodes_of T) x) (found (nodes_of T) x)
      where
        here : at (nodes_of T) k ≡ x
        here = node_at T G k C.below ∙ alike-true (node_of (get_or T.vars k 0) (get_or T.lows k 0) (get_or T.highs k 0)) x hit

        go : (o : Option ℕ) → Found (nodes_of T) x o → o ≡ some k
        go none f = absurd (f k (C.inner ne).from (omega (arith, length-nodes T G, C.below)) here)
        go (some m) f = ap some ((good-ordered T G).alike m k f.0 f.1 (C.inner ne).from (omega (arith, length-nodes T G, C.below))
            (f.2 ∙ sym here))

  pub chain-end : (k : ℕ) → k ≡ 0 → Chain T x k → find (nodes_of T) x ≡ none
  chain-end k e C =
      C.rest ∙ ap (λ (i : ℕ). find (take (suc i) (nodes_of T)) x) e
      ∙ find-short (take 1 (nodes_of T)) x (omega (arith, length-take-le 1 (nodes_of T) (omega (arith, length-nodes T G, G.least))))
