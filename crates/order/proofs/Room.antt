-- For every line there is a table with room enough. The idea: a diagram takes no more places than it has nodes. Assumes nothing.
use mathlib.Core.Path.{◌≡◌, refl}
use mathlib.Core.Bool.{Bool, true, false, ◌&&◌, cond}
use mathlib.Core.List.{List, [], ◌∷◌, ◌++◌}
use mathlib.Core.Option.{Option, none, some}
use Prim.Native.Nat.{ℕ, suc, ◌+◌, ◌≤◌}
use native.Mathlib.Omega.{arith}
use lib.ListN.{length, length-append}
use lib.Dec.{eqb}
use borrow.Author.Tests.{lt-ltb}
use Rattle.meaning.specs.Diagram.{Diagram, leaf, node}
use Rattle.meaning.specs.Rules.{Line}
use Rattle.table.specs.Nodes.{Node, node_of, Placing, full, placed, find, or_append, put, and_then, place}
use Rattle.table.specs.Making.{Room, short, all, after_placing, placed_all, reached, turns_reach, kept_reach, line_reach}

-- The nodes of a diagram, of several, and of all that a line makes.
unfoldable size : Diagram → ℕ
size (leaf b) = 0
size (node v l h) = size l + suc (size h)

unfoldable sizes : List Diagram → ℕ
unfolding size
sizes [] = 0
sizes (f ∷ fs) = size f + sizes fs

unfoldable turn_sizes : List (List Diagram) → ℕ
unfolding sizes
turn_sizes [] = 0
turn_sizes (made ∷ later) = sizes made + turn_sizes later

unfoldable pub line_size : Line → ℕ
unfolding sizes turn_sizes
line_size line = sizes line.kept + turn_sizes line.turns

-- ---- placing

-- There was room, and so many places at most are taken now.
abbrev Placed : ℕ → Placing → Type 0
Placed most (full t) = ⊥
Placed most (placed t k) = length t ≤ most

placed-then : (most most' : ℕ) (p : Placing) (later : List Node → ℕ → Placing) → Placed most p →
    ((t : List Node) (k : ℕ) → length t ≤ most → Placed most' (later t k))
    → Placed most' (and_then p later)
unfolding and_then
placed-then most most' (full t) later here there = absurd here
placed-then most most' (placed t k) later here there = there t k here

module _ (s : ℕ) where
  append-placed : (most : ℕ) (t : List Node) (x : Node) (found : Option ℕ) → suc (length t) ≤ most → most ≤ s →
      Placed most (or_append s t x found)
  unfolding or_append
  append-placed most t x (some k) low high = omega arith
  append-placed most t x none low high =
      let more : length (t ++ x ∷ []) ≡ length t + 1 = length-append t (x ∷ []) in
      rw (lt-ltb (length t) s (omega arith)) (omega (arith, more))

  put-placed : (most : ℕ) (t : List Node) (v l h : ℕ) → suc (length t) ≤ most → most ≤ s → Placed most (put s t v l h)
  unfolding put
  put-placed most t v l h low high = go (eqb l h) (append-placed most t (node_of v l h) (find t (node_of v l h)) low high)
    where
      go : (c : Bool) → Placed most (or_append s t (node_of v l h) (find t (node_of v l h))) →
          Placed most (cond c (placed t l) (or_append s t (node_of v l h) (find t (node_of v l h))))
      go true x = omega arith
      go false x = x

  place-placed : (most : ℕ) (t : List Node) (f : Diagram) → length t + size f ≤ most → most ≤ s → Placed most (place s t f)
  unfolding place size
  place-placed most t (leaf true) low high = omega arith
  place-placed most t (leaf false) low high = omega arith
  place-placed most t (node v l h) low high =
      placed-then (length t + size l) most (place s t l) _ (place-placed (length t + size l) t l (omega arith) (omega arith)) (λ t₁ a p.
      placed-then (length t + (size l + size h)) most (place s t₁ h) _
      (place-placed (length t + (size l + size h)) t₁ h (omega arith) (omega arith)) (λ t₂ b q.
      put-placed most t₂ v a b (omega arith) high))

  -- ---- several diagrams

  abbrev AllPlaced : ℕ → Room → Type 0
  AllPlaced most (short t) = ⊥
  AllPlaced most (all t) = length t ≤ most

  all_placed : (most : ℕ) (t : List Node) (fs : List Diagram) → length t + sizes fs ≤ most → most ≤ s → AllPlaced most (placed_all s t fs)
  unfolding placed_all sizes
  all_placed most t [] low high = omega arith
  all_placed most t (f ∷ fs) low high = go (place s t f) (place-placed (length t + size f) t f (omega arith) (omega arith))
      (λ t₁ p. all_placed most t₁ fs (omega arith) high)
    where
      go : (p : Placing) → Placed (length t + size f) p →
          ((t₁ : List Node) → length t₁ ≤ length t + size f → AllPlaced most (placed_all s t₁ fs))
          → AllPlaced most (after_placing p (λ t₁. placed_all s t₁ fs))
      go (full t₁) here ih = absurd here
      go (placed t₁ k) here ih = ih t₁ here

  -- ---- a line

  turns_fit : (turns : List (List Diagram)) (t : List Node) → length t + turn_sizes turns ≤ s → (turns_reach s turns t).fits ≡ true
  unfolding turns_reach turn_sizes
  turns_fit [] t low = refl
  turns_fit (made ∷ later) t low = go (placed_all s t made) (all_placed s t made (omega arith) (omega arith))
      (turns_fit later t (omega arith))
    where
      go : (r : Room) → AllPlaced s r → (turns_reach s later t).fits ≡ true → ((reached r).fits && (turns_reach s later t).fits) ≡ true
      go (short t₁) here ih = absurd here
      go (all t₁) here ih = ih

  -- In a table of that many places more than are taken the line finds room.
  pub line-fits : (t : List Node) (line : Line) → length t + line_size line ≤ s → (line_reach s t line).fits ≡ true
  unfolding line_reach line_size
  line-fits t line low = go (placed_all s t line.kept)
      (all_placed (length t + sizes line.kept) t line.kept (omega arith) (omega arith))
    where
      go : (r : Room) → AllPlaced (length t + sizes line.kept) r → (kept_reach s line.turns r).fits ≡ true
      go (short t₁) here = absurd here
      go (all t₁) here = turns_fit line.turns t₁ (omega arith)
