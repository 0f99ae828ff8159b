-- `smallest_false`: variable after variable is decided, which keeps the smallest assignment. Assumes nothing.
use mathlib.Core.Path.{◌≡◌}
use Prim.Native.Nat.{suc, ◌-◌}
use lib.ListN.{length}
use Rattle.table.specs.Nodes.{diagram_at}
use Rattle.walks.specs.Readable.{nodes_in}
use Rattle.why.proofs.Deciding.{Narrowed}
use Rattle.why.proofs.smallest.smallest_false.Given as goal

abbrev pub invariant-loop-v : goal.invariant-loop-v
invariant-loop-v l =
    (length l.memo ≡ length l.initial.memo) × Narrowed l.variables (diagram_at (nodes_in l.vars l.lows l.highs l.count) l.g.0)
    (record { positive = l.initial.positive; negative = l.initial.negative }) (record { positive = l.positive; negative = l.negative }) l.v

abbrev pub decreases-loop-v : goal.decreases-loop-v
decreases-loop-v l = suc l.variables - l.v
