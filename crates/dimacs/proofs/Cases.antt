-- Case analysis on a test, and tests that clash. Assumes nothing.
use mathlib.Core.Path.{◌≡◌, refl}
use mathlib.Core.Bool.{Bool, true, false}
use Prim.Native.Nat.{ℕ}
use native.Mathlib.Omega.{arith}

pub by : {P : Type 0} (t : Bool) → (t ≡ true → P) → (t ≡ false → P) → P
by true holds fails = holds refl
by false holds fails = fails refl

pub clash : {P : Type 0} → true ≡ false → P
clash e = let z : ◌≡◌ {A = ℕ} 0 1 = cc in absurd (omega arith)
