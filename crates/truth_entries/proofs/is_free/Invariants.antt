-- `is_free`: no variable up to v matters. The idea: the loop tests them one after the other, as the definition does. Assumes nothing.
use mathlib.Core.Path.{◌≡◌}
use Rattle.truth_entries.specs.Made.{free_to}
use Rattle.truth_entries.proofs.is_free.Given as goal

abbrev pub invariant-loop-u : goal.invariant-loop-u
invariant-loop-u l = free_to l.v l.w ≡ free_to l.u l.w
