-- `past_class` ends where the run of the class ends. The loop: what is left of the run is the run. Assumes nothing.
use mathlib.Core.Path.{◌≡◌}
use Rattle.dimacs.specs.Text.{past}
use Rattle.dimacs.specs.Inner.{admitted}
use Rattle.dimacs.proofs.text.past_class.Given as goal

abbrev pub invariant-loop-i : goal.invariant-loop-i
invariant-loop-i l = past (admitted l.class) l.s l.at ≡ past (admitted l.class) l.s l.i
