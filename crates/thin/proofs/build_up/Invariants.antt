-- The steps are put one by one: at each turn the node, under the steps that are left, is the diagram asked for, and placing it in the table
-- as it is now is placing it in the first. Assumes nothing.
use mathlib.Core.Path.{◌≡◌}
use Prim.Native.Nat.{◌-◌, ◌≤◌}
use lib.ListN.{length}
use Rattle.table.specs.Nodes.{diagram_at}
use Rattle.table.specs.Indexed.{table_of, nodes_of}
use Rattle.thin.specs.Thin.{wrapped}
use Rattle.thin.proofs.Building.{Rising}
use Rattle.thin.proofs.build_up.Given as goal

abbrev pub invariant-loop-d : goal.invariant-loop-d
invariant-loop-d l =
    let before = table_of l.initial.vars l.initial.lows l.initial.highs l.initial.heads l.initial.links l.count in
    Rising l.xs l.told l.sides before (wrapped before l.xs l.told l.sides l.depth (diagram_at (nodes_of before) l.initial.r.0))
    (table_of l.vars l.lows l.highs l.heads l.links l.n) l.d l.r.0
    × (l.d ≤ l.depth)
    × (length l.vars ≡ length l.initial.vars) × (length l.lows ≡ length l.initial.lows) × (length l.highs ≡ length l.initial.highs)
    × (length l.heads ≡ length l.initial.heads)
    × (length l.links ≡ length l.initial.links)

abbrev pub decreases-loop-d : goal.decreases-loop-d
decreases-loop-d l =
    l.d
