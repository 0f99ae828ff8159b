-- `all_by_units` replaces each word by its cofactor by units, place after place. Assumes nothing.
use Rattle.std.proofs.Common.{◌≡◌, ◌<◌, ◌≤◌, ℕ, get_or}
use Rattle.truth.specs.Tables.{by_units_of}
use Rattle.truth_rules.proofs.all_by_units.Given as goal

abbrev pub invariant-loop-w : goal.invariant-loop-w
invariant-loop-w l = record {
  done : (j : ℕ) → j < l.w-index → get_or l.list j 0 ≡ by_units_of l.u (get_or l.initial.list j 0);
  left : (j : ℕ) → l.w-index ≤ j → get_or l.list j 0 ≡ get_or l.initial.list j 0;
}
