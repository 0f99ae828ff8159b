-- The reader's definitions count steps; the steps that they start with are enough: however many more are allowed, the answer is the same.
-- The idea: each step passes at least one byte. Assumes nothing.
use mathlib.Core.Path.{◌≡◌}
use mathlib.Core.List.{List}
use Prim.Native.Nat.{ℕ, ◌-◌, ◌≤◌}
use native.Mathlib.Omega.{arith}
use lib.ListN.{length}
use Rattle.dimacs.specs.Text.{between_from, between}
use Rattle.dimacs.specs.Header.{judged_from}
use Rattle.dimacs.specs.Clauses.{clause_from}
use Rattle.dimacs.proofs.Between.{between-fuel}
use Rattle.dimacs.proofs.Lines.{judged-fuel}
use Rattle.dimacs.proofs.OpenClause.{clause-fuel}

module _ (s : List ℕ) where
  -- The lines before the header (`header` starts with the text's length).
  pub enough-lines : (k : ℕ) → length s ≤ k → judged_from s k 0 ≡ judged_from s (length s) 0
  enough-lines k h = judged-fuel s k (length s) 0 (omega arith) (omega arith)

  -- The tokens of a clause (`clause_at` starts with the bytes from its first token on).
  pub enough-tokens : (n k first : ℕ) → length s - first ≤ k → clause_from s n k first first
      ≡ clause_from s n (length s - first) first first
  enough-tokens n k first h = clause-fuel s n k (length s - first) first first (omega arith) (omega arith)

  -- ---- the comment lines between two tokens (`between` starts with the text's length)

  pub enough-comments : (k at : ℕ) → length s ≤ k → between_from s k at ≡ between s at
  enough-comments k at h = between-fuel s k (length s) at (omega arith) (omega arith)
