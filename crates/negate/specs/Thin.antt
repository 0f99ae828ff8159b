-- Paths through thin diagrams, where each node has a constant child. No call open to others cites this file.
use Rattle.std.specs.Prelude.{◌≡◌, cond, List, ℕ, zero, suc, ◌-◌, ◌≤◌, ◌<◌, get_or, ltb}
use Rattle.negate.specs.declared.NegatedSides.{NegatedSides}

-- The child with which a path goes on: the low one, unless it is a constant.
abbrev pub further : ℕ → ℕ → ℕ
further low high = cond (ltb low 2) high low

-- One of the children at least is a constant.
abbrev pub OneConstant : ℕ → ℕ → Type 0
OneConstant low high = 2 ≤ low → high < 2

-- The first n nodes listed are the path from f to k. Each has a constant child.
abbrev pub PathTo : List ℕ → List ℕ → ℕ → List ℕ → ℕ → ℕ → ℕ → Type 0
PathTo lows highs count path f zero k = f ≡ k
PathTo lows highs count path f (suc n) k =
    (2 ≤ get_or path n 0)
    × (get_or path n 0 < count)
    × OneConstant (get_or lows (get_or path n 0) 0) (get_or highs (get_or path n 0) 0)
    × (further (get_or lows (get_or path n 0) 0) (get_or highs (get_or path n 0) 0) ≡ k)
    × PathTo lows highs count path f n (get_or path n 0)

-- The children's negations, where r is that of the one with which the path goes on.
abbrev pub negated_sides : ℕ → ℕ → ℕ → NegatedSides
negated_sides low high r =
    cond (ltb low 2) (record { low = record { 0 = 1 - low }; high = record { 0 = r } })
    (record { low = record { 0 = r }; high = record { 0 = 1 - high } })
