-- `without` takes the variables out. Assumes nothing.
use mathlib.Core.Path.{ap₂}
use Prim.Native.Nat.{ℕ, ◌-◌}
use lib.Bits.{bit_and, bit_or}
use Rattle.words.specs.Sets.{without}
use Rattle.words.proofs.without.Goals as goal

pub returns : goal.returns
unfolding without
returns c =
    ap₂ (λ (x y : ℕ). bit_and c.args.word (bit_or x (18446744073709551615 - y))) c.below.ensures
    c.below-2.ensures
