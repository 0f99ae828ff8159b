-- `read_records`: record after record. The idea: what is left of the loop is what is left of the definition's recursion. Assumes nothing.
use mathlib.Core.Path.{◌≡◌}
use Prim.Native.Nat.{suc, ◌-◌}
use lib.ListN.{length}
use Rattle.small.specs.WordSteps.{word_records}
use Rattle.small.specs.Lent.{words_lent, state_of}
use Rattle.small.proofs.RunWays.{Going}
use Rattle.small.proofs.proof.read_records.Given as goal

abbrev pub invariant-loop-at : goal.invariant-loop-at
invariant-loop-at l = Going l.variables l.proof
    (word_records (suc (length l.proof)) l.variables l.proof
    (state_of (words_lent l.initial.members l.initial.struck l.initial.scratch) l.initial.state) 0)
    (words_lent l.members l.struck l.scratch) l.state l.at × (length l.members ≡ length l.initial.members)
    × (length l.struck ≡ length l.initial.struck) ×
    (length l.scratch ≡ length l.initial.scratch)

abbrev pub decreases-loop-at : goal.decreases-loop-at
decreases-loop-at l = length l.proof - l.at
