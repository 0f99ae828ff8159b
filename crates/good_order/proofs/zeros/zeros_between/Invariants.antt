-- The zeros are counted one after another. Assumes nothing.
use Prim.Native.Nat.{◌+◌, ◌≤◌}
use mathlib.Core.Path.{◌≡◌}
use Rattle.good_order.specs.Tested.{zeros_in}
use Rattle.good_order.proofs.zeros.zeros_between.Given as goal

abbrev pub invariant-loop-i : goal.invariant-loop-i
invariant-loop-i l = (l.from + l.zeros ≤ l.i) × (l.i ≤ l.to) × (zeros_in l.column l.from + l.zeros ≡ zeros_in l.column l.i)
