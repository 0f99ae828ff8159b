-- Turns stored by the member's node. No call open to others cites this file.
use Rattle.std.specs.Prelude.{◌≡◌, ◌⊎◌, List, ℕ, suc, ◌+◌, ◌*◌, ◌<◌, length, get_or}

-- Some cell has node f with m rounds.
pub record Holds (turns : List ℕ) (f m : ℕ) : Type 0 where
  pub cell : ℕ
  pub has : get_or turns cell 0 ≡ f * 128 + suc m
  pub few : m < 127

-- The turn of f with m rounds is stored: what a cell holds then is this, or what it held.
abbrev pub Stores : List ℕ → ℕ → ℕ → List ℕ → Type 0
Stores turns f m after = (c : ℕ) → (get_or after c 0 ≡ f * 128 + suc m) ⊎ (get_or after c 0 ≡ get_or turns c 0)

-- From place `from` on the members up to the place have turns stored, and their rounds are added to `rounds`.
pub data Passes (members turns : List ℕ) (from rounds : ℕ) : ℕ → ℕ → Type 0 where
  here : Passes members turns from rounds from rounds
  next : (i sum m : ℕ) → Passes members turns from rounds i sum → i < length members → Holds turns (get_or members i 0) m
      → Passes members turns from rounds (i + 1) (sum + m)
