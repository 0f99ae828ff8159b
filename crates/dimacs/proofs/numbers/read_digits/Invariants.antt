-- `read_digits` reads the number of the digits. The loop: the number of all the bytes is that of the bytes left, read after n. The measure
-- is the bytes left. Assumes nothing.
use mathlib.Core.Path.{◌≡◌}
use Prim.Native.Nat.{◌≤◌, ◌-◌}
use lib.Seq.{slice}
use Rattle.dimacs.specs.Inner.{digits_after}
use Rattle.dimacs.proofs.numbers.read_digits.Given as goal

abbrev pub invariant-loop-at : goal.invariant-loop-at
invariant-loop-at l = (l.from ≤ l.at) × (l.at ≤ l.to) × (l.n ≤ 1025)
    × (digits_after 0 (slice l.from l.to l.s) ≡ digits_after l.n (slice l.at l.to l.s))

abbrev pub decreases-loop-at : goal.decreases-loop-at
decreases-loop-at l = l.to - l.at
