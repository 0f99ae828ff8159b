-- `home_of` is at most m: a number of 32 bits times m, over 2^32. Assumes nothing.
use Rattle.std.proofs.Common.{ℕ, ◌*◌, ◌/◌, ◌<◌, ◌≤◌, mul-le-mul_right, mul-le-mul, arith}
use native.Mathlib.Nat.{div-le_of_le-mul}
use Rattle.memo.proofs.home_of.Goals as goal

product-fits : (x m : ℕ) → x < 4294967296 → m ≤ 1048576 → x * m < 18446744073709551616
product-fits x m less few = let p : x * m ≤ 4294967295 * 1048576 = mul-le-mul {n₁ = x} {m₁ = m} {n₂ = 4294967295} {m₂ = 1048576}
    (omega arith) few in omega arith

scaled : (x m : ℕ) → x < 4294967296 → x * m / 4294967296 ≤ m
scaled x m less = div-le_of_le-mul 4294967296 (mul-le-mul_right m (omega arith))

pub overflow_mul-result : goal.overflow_mul-result
overflow_mul-result c = omega (arith, product-fits c.args.mix c.args.m c.requires.1 c.requires.0)

pub returns : goal.returns
returns c = scaled c.args.mix _ c.requires.1
