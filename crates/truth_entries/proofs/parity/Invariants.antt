-- `parity`: an odd or even number of a set. The idea: what is left of the loop is what is left of the definition's recursion. Assumes
-- nothing.
use mathlib.Core.Path.{◌≡◌}
use Rattle.meaning.specs.Words.{in_word}
use Rattle.truth_entries.specs.Made.{odd_down, parity_word}
use Rattle.truth_entries.proofs.parity.Given as goal

abbrev pub invariant-loop-v : goal.invariant-loop-v
invariant-loop-v l = odd_down (in_word l.set) l.v l.w ≡ parity_word (in_word l.set) l.odd
