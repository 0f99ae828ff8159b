-- `pr`: the PR line over words. The idea: what is left of the loop is what is left of the turns. Assumes nothing.
use mathlib.Core.Path.{◌≡◌}
use lib.ListN.{length}
use Rattle.meaning.specs.Words.{in_word}
use Rattle.truth_rules.specs.Lists.{diagrams_of}
use Rattle.truth_rules.proofs.LineWords.{TurnsFrom}
use Rattle.truth_rules.proofs.pr.Given as goal

abbrev pub invariant-loop-f : goal.invariant-loop-f
invariant-loop-f l = (length l.second ≡ length l.first) ×
    (length l.second ≡ length l.initial.second) × TurnsFrom (in_word l.witness.positive) (in_word l.witness.negative) (diagrams_of l.first) l.live l.f-index
    l.rounds
