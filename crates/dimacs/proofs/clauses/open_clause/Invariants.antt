-- `open_clause` reads to the closing 0. The loop: what is to be read is what is left to be read, with the literals so far. The measure is
-- what is left of the text, since a literal has bytes. Assumes nothing.
use mathlib.Core.Path.{◌≡◌}
use Prim.Native.Nat.{◌≤◌, ◌-◌}
use lib.ListN.{length}
use Rattle.words.specs.Sets.{no_literals}
use Rattle.dimacs.proofs.OpenClause.{rest_of}
use Rattle.dimacs.proofs.clauses.open_clause.Given as goal

abbrev pub invariant-loop-at : goal.invariant-loop-at
invariant-loop-at l = (l.at ≤ length l.s)
    × (rest_of l.s l.variables l.first no_literals l.from ≡ rest_of l.s l.variables l.first l.literals l.at)

abbrev pub decreases-loop-at : goal.decreases-loop-at
decreases-loop-at l = length l.s - l.at
