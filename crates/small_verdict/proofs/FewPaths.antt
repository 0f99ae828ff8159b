-- A diagram of six variables has at most 64 paths to 0. The idea: each variable at most doubles them. Assumes nothing.
use mathlib.Core.Bool.{true, false}
use Prim.Native.Nat.{ℕ, zero, suc, ◌+◌, ◌^◌, ◌≤◌}
use native.Mathlib.Nat.{pow-suc}
use native.Mathlib.Omega.{arith}
use lib.Pow.{pow-lt}
use Rattle.meaning.specs.Diagram.{Diagram, leaf, node}
use Rattle.meaning.specs.Reduced.{Reduced}
use Rattle.paths.specs.Paths.{path_count}

-- k variables are left from i on
paths-left : (k i e : ℕ) → e ≤ i + k → (D : Diagram) → Reduced i e D → path_count D ≤ 2 ^ k
unfolding path_count
paths-left k i e p (leaf false) o = omega (arith, pow-suc 2 k, pow-lt {i = k} {j = suc k} (omega arith))
paths-left k i e p (leaf true) o = omega arith
paths-left zero i e p (node v l h) o = absurd (omega (arith, o.0, o.1))
paths-left (suc k) i e p (node v l h) o =
    let low : path_count l ≤ 2 ^ k = paths-left k (suc v) e (omega (arith, o.0)) l o.3 in
    let high : path_count h ≤ 2 ^ k = paths-left k (suc v) e (omega (arith, o.0)) h o.4 in
    omega (arith, pow-suc 2 k)

-- LAW: six variables, 64 paths at most.
pub few-paths : (D : Diagram) → Reduced 1 7 D → path_count D ≤ 64
few-paths D o = paths-left 6 1 7 (omega arith) D o
