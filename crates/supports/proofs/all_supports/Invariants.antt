-- `all_supports` fills the memo with the words of all nodes. The invariant: the first k cells have the variables of their nodes, the
-- children of node k among them. Assumes nothing.
use mathlib.Core.Path.{◌≡◌}
use Prim.Native.Nat.{◌-◌, ◌≤◌}
use lib.ListN.{length}
use Rattle.walks.specs.Readable.{nodes_in}
use Rattle.supports.proofs.Words.{Known}
use Rattle.supports.proofs.all_supports.Given as goal

abbrev pub invariant-loop-k : goal.invariant-loop-k
invariant-loop-k l =
    Known (nodes_in l.vars l.lows l.highs l.count) l.memo l.k × (2 ≤ l.k) × (l.k ≤ l.count) × (length l.memo ≡ length l.initial.memo)

abbrev pub decreases-loop-k : goal.decreases-loop-k
decreases-loop-k l = l.count - l.k
