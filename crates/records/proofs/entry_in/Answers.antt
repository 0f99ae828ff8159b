-- `entry_in` gives the entry number of its definition. Assumes nothing.
use Prim.Native.Nat.{ℕ}
use mathlib.Core.Path.{ap}
use Rattle.records.proofs.entry_in.Goals as goal

pub returns : goal.returns
returns c = ap (λ (n : ℕ). record { 0 = n }) c.field_in.ensures
