-- A memo that is written: what stands in a cell of it. Assumes nothing.
use mathlib.Core.Path.{◌≡◌, sym}
use mathlib.Core.Logic.{◌≢◌}
use mathlib.Core.List.{List}
use Prim.Native.Nat.{ℕ, ◌<◌}
use native.Mathlib.Decide.{ℕ_discrete}
use lib.ListN.{length, get_or, set}
use lib.Seq.{get_or-set_same, get_or-set_other}

-- what holds of the entry stored and of every other entry holds of every entry there is
pub stored : (P : ℕ → ℕ → Type 0) (memo : List ℕ) (s e : ℕ) → s < length memo → P s e → ((i : ℕ) → s ≢ i → P i (get_or memo i 0)) →
    (i : ℕ) →
    P i (get_or (set memo s e) i 0)
stored P memo s e inside new old i = go (ℕ_discrete s i)
  where
    go : Dec (s ≡ i) → P i (get_or (set memo s e) i 0)
    go (yes p) = rw (← p, get_or-set_same memo s e 0 inside) new
    go (no n) = rw (get_or-set_other memo s i e 0 (λ q. n (sym q))) (old i n)
