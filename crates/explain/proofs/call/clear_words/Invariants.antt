-- `clear_words` leaves zeros. The invariant: the places passed hold zeros (ZerosBelow). Assumes nothing.
use mathlib.Core.Path.{◌≡◌}
use Prim.Native.Nat.{◌-◌, ◌≤◌}
use lib.ListN.{length}
use Rattle.table.proofs.Zeros.{ZerosBelow}
use Rattle.explain.proofs.call.clear_words.Given as goal

abbrev pub invariant-loop-i : goal.invariant-loop-i
invariant-loop-i l = (length l.words ≡ length l.initial.words) × (l.i ≤ length l.words) × ZerosBelow l.words l.i

abbrev pub decreases-loop-i : goal.decreases-loop-i
decreases-loop-i l = length l.initial.words - l.i
