-- `shared`: words share a variable exactly where their conjunction is not 0. Assumes nothing.
use mathlib.Core.Path.{◌≡◌, sym}
use mathlib.Core.Bool.{not}
use Prim.Native.Nat.{ℕ, ◌<◌, ◌^◌}
use native.Mathlib.Omega.{arith}
use native.Mathlib.Decide.{ℕ_discrete}
use lib.Dec.{eqb}
use lib.Bits.{bit_and, and_lt}
use borrow.Author.Tests.{eq-eqb, ne_eqb}
use Rattle.words.specs.Sets.{shares}
use Rattle.words.proofs.Variables.{some-in-word, shares-some, shares-none}
use Rattle.words.proofs.shared.Goals as goal

shares-is : (a b : ℕ) → a < 2 ^ 64 → b < 2 ^ 64 → not (eqb (bit_and a b) 0) ≡ shares 64 a b
shares-is a b fa fb = go (ℕ_discrete (bit_and a b) 0)
  where
    go : Dec (bit_and a b ≡ 0) → not (eqb (bit_and a b) 0) ≡ shares 64 a b
    go (yes e) = rw (eq-eqb (bit_and a b) 0 e) (sym (shares-none 64 a b e))
    go (no ne) = rw (ne_eqb (bit_and a b) 0 ne) (some-in-word 64 (bit_and a b) (and_lt 64 a b fa fb) ne
        (λ v lo hi e. sym (shares-some 64 a b v lo hi e)))

pub returns : goal.returns
returns c = shares-is c.args.a c.args.b (omega (arith, c.ranges.a)) (omega (arith, c.ranges.b))
