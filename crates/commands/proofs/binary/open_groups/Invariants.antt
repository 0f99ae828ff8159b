-- `open_groups` reads to the zero byte. The loop: what is to be read is what is left to be read, with the literals so far. The measure is
-- what is left of the proof, since groups have bytes. Assumes nothing.
use mathlib.Core.Path.{◌≡◌}
use Prim.Native.Nat.{◌≤◌, ◌-◌}
use lib.ListN.{length}
use Rattle.words.specs.Sets.{no_literals}
use Rattle.commands.proofs.OpenGroups.{rest_in}
use Rattle.commands.proofs.binary.open_groups.Given as goal

abbrev pub invariant-loop-at : goal.invariant-loop-at
invariant-loop-at l = (l.at ≤ length l.s)
    × (rest_in l.s l.variables l.first no_literals l.from ≡ rest_in l.s l.variables l.first l.literals l.at)

abbrev pub decreases-loop-at : goal.decreases-loop-at
decreases-loop-at l = length l.s - l.at
