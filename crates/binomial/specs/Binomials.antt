-- Binomials by Pascal's rule, and the assignments that make fewer than k variables true, counted one by one. No call open to others
-- cites this file: proofs/Values shows the count to be that of the diagram's own values (`excluded_by`, meaning/specs/Sets). (02, 5/14)
use Rattle.std.specs.Prelude.{Bool, cond, List, [], ◌∷◌, ℕ, zero, suc, ◌+◌, ltb}
use Rattle.meaning.specs.Diagram.{Assignment}
use Rattle.meaning.specs.Operations.{assignments}

-- C(n, k) by Pascal's rule.
unfoldable pub choose : ℕ → ℕ → ℕ
choose n zero = 1
choose zero (suc k) = 0
choose (suc n) (suc k) = choose n k + choose n (suc k)

-- How many variables an assignment makes true.
unfoldable pub trues : Assignment → ℕ
trues [] = 0
trues (b ∷ a) = cond b (suc (trues a)) (trues a)

-- Whether it makes fewer than k true.
unfoldable pub makes_fewer : ℕ → Assignment → Bool
makes_fewer k a = ltb (trues a) k

-- How many of the listed assignments do, one by one.
unfoldable pub fewer : ℕ → List Assignment → ℕ
fewer k [] = 0
fewer k (a ∷ rest) = cond (makes_fewer k a) (suc (fewer k rest)) (fewer k rest)

-- "how many assignments of its set it excludes": of a set of n variables those that make fewer than k of them true.
unfoldable pub excluded : ℕ → ℕ → ℕ
excluded n k = fewer k (assignments n)
