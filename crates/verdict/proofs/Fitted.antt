-- Assignments of any length, cut off or filled up with false to n variables: a diagram of n variables has there the value that it has under
-- the assignment itself. The idea: missing variables are read as false, and a value looks at n variables alone. Assumes nothing.
use mathlib.Core.Path.{◌≡◌, refl, sym, ◌∙◌}
use mathlib.Core.Bool.{Bool, false}
use mathlib.Core.List.{[], ◌∷◌, ◌++◌}
use Prim.Native.Nat.{ℕ, zero, suc, ◌-◌, ◌≤◌}
use native.Mathlib.Omega.{arith}
use lib.ListN.{length, get_or, take, replicate, length-append, length-replicate}
use lib.Seq.{get_or-take, length-take-le}
use Rattle.meaning.specs.Diagram.{Assignment, holds, value, diagram}
use Rattle.meaning.proofs.Values.{value-agree, diagram-reduced, diagram-value}

-- The assignment cut off, or filled up with false, to n variables.
abbrev pub fitted : ℕ → Assignment → Assignment
fitted n a = take n (a ++ replicate n false)

pub fitted-length : (n : ℕ) (a : Assignment) → length (fitted n a) ≡ n
fitted-length n a = length-take-le n (a ++ replicate n false) (omega (arith, length-append a (replicate n false), length-replicate n false))

filled : (k : ℕ) (a : Assignment) (i : ℕ) → get_or (a ++ replicate k false) i false ≡ get_or a i false
filled zero [] i = refl
filled (suc k) [] zero = refl
filled (suc k) [] (suc i) = filled k [] i
filled k (b ∷ a) zero = refl
filled k (b ∷ a) (suc i) = filled k a i

pub fitted-holds : (n : ℕ) (a : Assignment) (v : ℕ) → 1 ≤ v → v ≤ n → holds (fitted n a) v ≡ holds a v
fitted-holds n a v p q = get_or-take n (a ++ replicate n false) (v - 1) false (omega arith) ∙ filled n a (v - 1)

-- a diagram's value under an assignment of any length
pub diagram-fitted : (n : ℕ) (f : Assignment → Bool) (a : Assignment) → value (diagram n f) a ≡ f (fitted n a)
diagram-fitted n f a =
    value-agree 1 1 (suc n) (diagram n f) a (fitted n a) (diagram-reduced n f) (λ v p q. sym (fitted-holds n a v p (omega arith)))
    ∙ diagram-value n f (fitted n a) (fitted-length n a)
