-- The lowest of the listed members that is live and a given node. No call open to others cites this file.
use Rattle.std.specs.Prelude.{◌≡◌, Bool, true, false, ◌&&◌, List, ℕ, ◌≤◌, ◌<◌, get_or, eqb}

-- Whether the member at a place is live and node g.
abbrev pub is_at : List ℕ → List ℕ → ℕ → ℕ → Bool
is_at members struck g i = eqb (get_or struck i 0) 0 && eqb (get_or members i 0) g

-- Place r of the first m, or m where there is none.
pub record Lowest (members struck : List ℕ) (m g r : ℕ) : Type 0 where
  pub most : r ≤ m
  pub there : r < m → is_at members struck g r ≡ true
  pub lowest : (i : ℕ) → i < r → is_at members struck g i ≡ false
