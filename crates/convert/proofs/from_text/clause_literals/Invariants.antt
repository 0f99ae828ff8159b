-- `clause_literals` puts literal after literal, up to the closing 0. The loop: what is to be written is what is left to be written. The
-- measure is what is left of the text, since a token has bytes. Assumes nothing.
use mathlib.Core.Path.{◌≡◌}
use mathlib.Core.List.{List}
use Prim.Native.Nat.{ℕ, ◌≤◌, ◌-◌}
use lib.ListN.{length}
use Rattle.meaning.specs.Operations as meaning
use Rattle.convert.specs.Convert.{code_of, groups_of, binary_literals}
use Rattle.convert.specs.Inner.{poured}
use Rattle.convert.proofs.Pouring.{Leads}
use Rattle.convert.proofs.Clauses.{text_rest}
use Rattle.convert.proofs.from_text.clause_literals.Given as goal

abbrev pub bytes : meaning.Literal → List ℕ
bytes l = groups_of (code_of l)

abbrev pub invariant-loop-at : goal.invariant-loop-at
invariant-loop-at l =
    (l.at ≤ length l.text) × (length l.out ≡ length l.initial.out)
    × Leads binary_literals (poured l.initial.out l.many) (text_rest l.text l.first l.from) (poured l.out l.bytes)
    (text_rest l.text l.first l.at)

abbrev pub decreases-loop-at : goal.decreases-loop-at
decreases-loop-at l = length l.text - l.at
