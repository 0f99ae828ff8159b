-- `excluded` adds up the stored binomials below k. The loop: the sum is that of the binomials passed. Assumes nothing.
use mathlib.Core.Path.{◌≡◌}
use Prim.Native.Nat.{◌≤◌, ◌*◌}
use Rattle.binomial.proofs.Counting.{sum_below}
use Rattle.binomial.proofs.excluded.Given as goal

abbrev pub invariant-loop-j : goal.invariant-loop-j
invariant-loop-j l = (l.sum ≡ sum_below l.n l.j) × (l.sum ≤ l.j * 4294967296)
