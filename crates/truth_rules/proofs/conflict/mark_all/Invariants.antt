-- `mark_all` marks the key of each word. The idea: marks stay. Assumes nothing.
use mathlib.Core.Path.{◌≡◌}
use lib.ListN.{length}
use Rattle.truth_rules.specs.Lists.{Marked}
use Rattle.truth_rules.proofs.conflict.mark_all.Given as goal

abbrev pub invariant-loop-w : goal.invariant-loop-w
invariant-loop-w l = (length l.seen ≡ 4093) × Marked l.list l.seen l.w-index
