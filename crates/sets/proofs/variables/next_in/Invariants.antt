-- `next_in` stops at the first variable of the set. The loop: none was passed. The measure is what is left to 65. Assumes nothing.
use mathlib.Core.Path.{◌≡◌}
use mathlib.Core.Bool.{false}
use Prim.Native.Nat.{ℕ, ◌-◌, ◌≤◌, ◌<◌}
use Rattle.meaning.specs.Words.{in_word}
use Rattle.sets.proofs.variables.next_in.Given as goal

abbrev pub invariant-loop-w : goal.invariant-loop-w
invariant-loop-w l = (l.v ≤ l.w) × (l.w ≤ 65) × ((u : ℕ) → l.v ≤ u → u < l.w → in_word l.set u ≡ false)

abbrev pub decreases-loop-w : goal.decreases-loop-w
decreases-loop-w l = 65 - l.w
