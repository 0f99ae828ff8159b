-- `judged_line` finds the first line that is neither blank nor a comment. The loop: the line to be found is the one to be found
-- from `at` on. The measure is what is left of the text. Assumes nothing.
use mathlib.Core.Path.{◌≡◌}
use Prim.Native.Nat.{◌≤◌, ◌-◌}
use lib.ListN.{length}
use Rattle.dimacs.specs.Header.{judged_from}
use Rattle.dimacs.proofs.header_line.judged_line.Given as goal

abbrev pub invariant-loop-at : goal.invariant-loop-at
invariant-loop-at l = (l.at ≤ length l.s) × (judged_from l.s (length l.s) 0 ≡ judged_from l.s (length l.s - l.at) l.at)

abbrev pub decreases-loop-at : goal.decreases-loop-at
decreases-loop-at l = length l.s - l.at
