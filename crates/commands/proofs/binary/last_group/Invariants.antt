-- `last_group` ends where the run of open groups ends. The loop: what is left of the run is the run. Assumes nothing.
use mathlib.Core.Path.{◌≡◌}
use Rattle.dimacs.specs.Text.{past}
use Rattle.commands.specs.Inner.{is_open_group}
use Rattle.commands.proofs.binary.last_group.Given as goal

abbrev pub invariant-loop-i : goal.invariant-loop-i
invariant-loop-i l = past is_open_group l.s l.at ≡ past is_open_group l.s l.i
