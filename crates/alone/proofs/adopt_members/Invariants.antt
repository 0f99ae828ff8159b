-- `adopt_members`: as `adopt`, and each number that was copied is found at its place (Adopting). Assumes nothing.
use mathlib.Core.Path.{◌≡◌}
use lib.ListN.{length}
use Rattle.table.specs.Indexed.{table_of, nodes_of}
use Rattle.walks.specs.Readable.{nodes_in}
use Rattle.alone.specs.Copies.{FoundAll}
use Rattle.alone.proofs.Adopting.{Adopting}
use Rattle.alone.proofs.adopt_members.Given as goal

abbrev pub invariant-loop-i : goal.invariant-loop-i
invariant-loop-i l =
    Adopting l.vars l.lows l.highs l.count (table_of l.initial.ownvars l.initial.ownlows l.initial.ownhighs l.initial.ownheads
    l.initial.ownlinks l.owncount) l.initial.known l.numbers l.i
    (table_of l.ownvars l.ownlows l.ownhighs l.ownheads l.ownlinks l.made) l.known
    × FoundAll (nodes_in l.vars l.lows l.highs l.count) (nodes_of (table_of l.ownvars l.ownlows l.ownhighs l.ownheads l.ownlinks l.made))
    l.numbers l.i l.initial.found l.found
    × (length l.found ≡ length l.initial.found)
