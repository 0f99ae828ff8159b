-- What a walk reads from the columns is what the nodes hold, and what good order says of it in numbers. Assumes nothing.
use mathlib.Core.Path.{◌≡◌, ◌∙◌}
use mathlib.Core.List.{List}
use Prim.Native.Nat.{ℕ, ◌≤◌, ◌<◌}
use native.Mathlib.Omega.{arith}
use lib.ListN.{length, get_or}
use lib.Seq.{get_or-take, length-take-le}
use Rattle.table.specs.Nodes.{node_of, blank, at}
use Rattle.table.specs.Columns.{rows}
use Rattle.table.specs.Indexed.{Table, nodes_of, Good}
use Rattle.table.proofs.Order.{Ordered, Fits, ordered}
use Rattle.table.proofs.Written.{length-rows}
use Rattle.table.proofs.Chain.{rows_at}
use Rattle.walks.specs.Readable.{Readable, nodes_in}

-- What good order says of the node at place k, in the columns' own terms.
pub record Here (vs ls hs : List ℕ) (count k : ℕ) : Type 0 where
  pub least : 1 ≤ get_or vs k 0
  pub most : get_or vs k 0 ≤ 64
  pub low-less : get_or ls k 0 < k
  pub high-less : get_or hs k 0 < k

module _ (vs ls hs : List ℕ) (count : ℕ) (R : Readable vs ls hs count) where
  pub length-in : length (nodes_in vs ls hs count) ≡ count
  length-in = length-take-le count (rows vs ls hs) (omega (arith, length-rows vs ls hs R.lows R.highs, R.within))

  pub ordered-in : Ordered (nodes_in vs ls hs count)
  ordered-in = ordered (nodes_in vs ls hs count) R.ordered (omega (arith, length-in, R.least))

  pub node_in : (k : ℕ) → k < count → at (nodes_in vs ls hs count) k ≡ node_of (get_or vs k 0) (get_or ls k 0) (get_or hs k 0)
  node_in k h = get_or-take count (rows vs ls hs) k blank h ∙ rows_at vs ls hs R.lows R.highs k

  pub here : (k : ℕ) → 2 ≤ k → k < count → Here vs ls hs count k
  here k two h =
      let F : Fits (nodes_in vs ls hs count) k (at (nodes_in vs ls hs count) k) = ordered-in.fits k two (omega (arith, length-in)) in
      let e = node_in k h in
      record {
        least = rw e at F.least;
        most = rw e at F.most;
        low-less = rw e at F.low-less;
        high-less = rw e at F.high-less;
      }

-- A table with its index can be read.
pub good-readable : (T : Table) → Good T → Readable T.vars T.lows T.highs T.count
unfolding nodes_of
good-readable T G = record { least = G.least; within = G.within; most = G.most; lows = G.lows; highs = G.highs; ordered = G.ordered }
