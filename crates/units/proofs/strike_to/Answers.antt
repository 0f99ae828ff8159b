-- `strike_to` strikes both words. Assumes nothing.
use mathlib.Core.Path.{ap₂}
use Prim.Native.Nat.{ℕ}
use Rattle.units.proofs.strike_to.Goals as goal

pub returns : goal.returns
returns c =
    ap₂ (λ (p n : ℕ). record { positive = p; negative = n }) c.without.ensures c.without-2.ensures
