-- The walk over the list: none of the members passed has a unit, while the memo stays right. Assumes nothing.
use mathlib.Core.Path.{◌≡◌}
use Prim.Native.Nat.{◌+◌, ◌-◌}
use lib.ListN.{length}
use Rattle.table.specs.Lists.{diagrams_of}
use Rattle.walks.specs.Readable.{nodes_in}
use Rattle.units.specs.Units.{MarksBelow}
use Rattle.unit_search.specs.Units.{UnitlessTo}
use Rattle.unit_search.proofs.first_by_walks.Given as goal

abbrev pub invariant-loop-place : goal.invariant-loop-place
invariant-loop-place l =
    (length l.memo ≡ length l.initial.memo) × MarksBelow l.count l.memo (l.place + 1)
    × UnitlessTo (diagrams_of (nodes_in l.vars l.lows l.highs l.count) l.list) l.places l.asked l.place l.k

abbrev pub decreases-loop-place : goal.decreases-loop-place
decreases-loop-place l = length l.list - l.place
