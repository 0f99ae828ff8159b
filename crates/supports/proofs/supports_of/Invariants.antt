-- The list's words are filled in one by one, while the memo stays right, as it is begun, cleared or filled. Assumes nothing.
use mathlib.Core.Path.{◌≡◌}
use Prim.Native.Nat.{◌-◌}
use lib.ListN.{length}
use Rattle.walks.specs.Readable.{nodes_in}
use Rattle.supports.specs.Supports.{SupportMemo}
use Rattle.supports.proofs.Words.{Filled}
use Rattle.supports.proofs.supports_of.Given as goal

abbrev pub invariant-loop-i : goal.invariant-loop-i
invariant-loop-i l =
    Filled (nodes_in l.vars l.lows l.highs l.count) l.list l.words l.i × SupportMemo l.memo (nodes_in l.vars l.lows l.highs l.count)
    × (length l.memo ≡ length l.initial.memo)
    × (length l.words ≡ length l.initial.words)

abbrev pub decreases-loop-i : goal.decreases-loop-i
decreases-loop-i l =
    length l.list - l.i
