-- `refuse`: the output all zero. Assumes nothing.
use mathlib.Core.Path.{ap}
use mathlib.Core.List.{List}
use Prim.Native.Nat.{ℕ}
use Rattle.convert.specs.Convert.{Conversion}
use Rattle.convert.proofs.output.refuse.Goals as goal

pub returns : goal.returns
returns c = let a = c.args in ap (λ (o : List ℕ). shown a.number a.place o)
    c.clear_bytes.ensures
  where
    shown : ℕ → ℕ → List ℕ → Conversion
    shown number place out = record { number = number; place = place; length = 0; output = out }
