-- `thin_path` lists the path from f: at each turn it has come to a node, whose variable is greater than how many were passed, so there are
-- at most 64. Assumes nothing.
use mathlib.Core.Path.{◌≡◌}
use lib.ListN.{length}
use Rattle.negate.proofs.Paths.{GoingDown}
use Rattle.negate.proofs.thin_path.Given as goal

abbrev pub invariant-loop-k : goal.invariant-loop-k
invariant-loop-k l = (length l.path ≡ 64) × GoingDown l.vars l.lows l.highs l.count l.path l.initial.k l.depth l.k

abbrev pub decreases-loop-k : goal.decreases-loop-k
decreases-loop-k l = l.k
