-- The call with a local memo, which is all zeros. Assumes nothing.
use mathlib.Core.Path.{subst}
use Prim.Native.Nat.{ℕ, ◌≤◌}
use native.Mathlib.Omega.{arith}
use Rattle.table.proofs.Zeros.{length_whole, whole-zeros}
use Rattle.single.proofs.call.judged_4096.Goals as goal

pub slice_bounds-judged-end : goal.slice_bounds-judged-end
slice_bounds-judged-end c =
    length_whole 8192

pub judged-requires : goal.judged-requires
judged-requires c = (
  c.requires.0,
  whole-zeros 8192,
  subst (λ (k : ℕ). 3 ≤ k) (length_whole 8192) (omega arith),
  c.requires.1,
)

pub returns : goal.returns
returns c =
    c.judged.ensures
