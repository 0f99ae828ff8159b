-- `has_unit`: whether U of the word is not empty. The idea: no literal before the loop's variable is a unit. Assumes nothing.
use Rattle.meaning.specs.Rules.{has_unit}
use Rattle.truth.specs.Tables.{diagram_of}
use mathlib.Core.Path.{◌≡◌}
use Rattle.truth_rules.proofs.units.has_unit.Given as goal

abbrev pub invariant-loop-v : goal.invariant-loop-v
invariant-loop-v l = has_unit 6 6 (diagram_of l.w) ≡ has_unit 6 l.v (diagram_of l.w)
