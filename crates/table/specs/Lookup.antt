-- Looking a node up by the index. (02, 7/14) No call open to others cites this file: the theorem that it agrees with the walk does.
use Rattle.std.specs.Prelude.{ℕ, zero, suc, cond, List, length, ◌==◌, slice_index}
use Rattle.std.proofs.Math.Option.{Option, none, some}
use Rattle.table.specs.Nodes.{Node, alike, at}
use Rattle.table.specs.Index.{bucket}

-- Down a chain from place k, by the links: the place that holds x. There are at most as many steps as nodes.
unfoldable pub chain_from : ℕ → List ℕ → List Node → ℕ → Node → Option ℕ
unfolding alike
chain_from zero links t k x = none
chain_from (suc steps) links t k x =
    let later = chain_from steps links t (slice_index links k) x in cond (k == 0) none (cond (alike (at t k) x) (some k) later)

-- The place of a node among the nodes t, by the index: from the head of its chain on. Beside it stands `find`, the walk from place 2.
unfoldable pub find_by_index : List ℕ → List ℕ → List Node → Node → Option ℕ
unfolding chain_from bucket
find_by_index heads links t x = chain_from (length t) links t (slice_index heads (bucket (length heads) x.var x.low x.high)) x
