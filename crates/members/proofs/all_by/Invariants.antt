-- The members at the places are made one by one, and the others passed over: `Making` holds at each place. Assumes nothing.
use mathlib.Core.Path.{◌≡◌}
use Prim.Native.Nat.{◌-◌}
use lib.ListN.{length, get_or}
use Rattle.table.specs.Indexed.{table_of}
use Rattle.members.proofs.OneByOne.{Making}
use Rattle.members.proofs.all_by.Given as goal

abbrev pub invariant-loop-k : goal.invariant-loop-k
invariant-loop-k l =
    Making l.op l.g.0 (table_of l.initial.vars l.initial.lows l.initial.highs l.initial.heads l.initial.links l.count) l.initial.list
    l.initial.words (table_of l.vars l.lows l.highs l.heads l.links l.n) l.list l.words l.memo
    (get_or l.places l.k (length l.initial.list)) l.written
    × (length l.vars ≡ length l.initial.vars) × (length l.lows ≡ length l.initial.lows) × (length l.highs ≡ length l.initial.highs)
    × (length l.heads ≡ length l.initial.heads)
    × (length l.links ≡ length l.initial.links)
    × (length l.memo ≡ length l.initial.memo)
    × (length l.xs ≡ 64)
    × (length l.told ≡ 64)
    × (length l.sides ≡ 64)

abbrev pub decreases-loop-k : goal.decreases-loop-k
decreases-loop-k l = length l.places - l.k
