-- `clause_literals` puts literal after literal, up to the zero byte. The loop: what is to be written is what is left to be written. The
-- measure is what is left of the proof, since groups have bytes. Assumes nothing.
use mathlib.Core.Path.{◌≡◌}
use mathlib.Core.List.{List}
use Prim.Native.Nat.{ℕ, ◌≤◌, ◌-◌}
use lib.ListN.{length}
use Rattle.meaning.specs.Operations.{Literal}
use Rattle.convert.specs.Convert.{text_literals}
use Rattle.convert.specs.Inner.{spaced, poured}
use Rattle.convert.proofs.Pouring.{Leads}
use Rattle.convert.proofs.Clauses.{binary_rest}
use Rattle.convert.proofs.from_binary.clause_literals.Given as goal

abbrev pub bytes : Literal → List ℕ
bytes l = spaced l

abbrev pub invariant-loop-at : goal.invariant-loop-at
invariant-loop-at l =
    (l.at ≤ length l.binary) × (length l.out ≡ length l.initial.out)
    × Leads text_literals (poured l.initial.out l.many) (binary_rest l.binary l.first l.from) (poured l.out l.bytes)
    (binary_rest l.binary l.first l.at)

abbrev pub decreases-loop-at : goal.decreases-loop-at
decreases-loop-at l = length l.binary - l.at
