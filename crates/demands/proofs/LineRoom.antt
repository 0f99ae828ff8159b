-- What a line without room wants: a node, of one of the diagrams that it makes, that is not in the full table. The idea: all that a line
-- makes is reduced, so that a list that finds no room has a diagram that finds none. Assumes nothing.
use mathlib.Core.Path.{◌≡◌, refl, subst}
use mathlib.Core.Bool.{false, ◌&&◌}
use mathlib.Core.List.{List, [], ◌∷◌}
use Prim.Native.Nat.{ℕ, suc, ◌≤◌}
use native.Mathlib.Omega.{arith}
use lib.ListN.{length}
use Rattle.meaning.specs.Diagram.{Diagram}
use Rattle.meaning.specs.Reduced.{Reduced}
use Rattle.meaning.specs.Rules.{Line}
use Rattle.meaning.proofs.Booleans.{t≢f}
use Rattle.meaning.proofs.Values.{reduced-to}
use Rattle.meaning.proofs.Ends.{AllReduced}
use Rattle.table.specs.Nodes.{Node, Placing, full, placed, place}
use Rattle.table.specs.Making.{Room, short, all, after_placing, placed_all, reached, turns_reach, kept_reach, line_reach}
use Rattle.table.proofs.Order.{Ordered}
use Rattle.table.proofs.Placing.{After, place_after}
use Rattle.room.proofs.Reduced.{AllTurns}
use Rattle.demands.specs.Full.{ListWants, now, later, TurnWants, this, next as next-turn, LineWants, in-base, in-turn}
use Rattle.demands.proofs.Full.{place-wants}

-- ---- a list

-- what is known of a list that was made
abbrev ListAfter : ℕ → List Node → List Diagram → Room → Type 0
ListAfter s t fs (short t') = ListWants s t fs
ListAfter s t fs (all t') = Ordered t' × (length t' ≤ s)

list_on : (s : ℕ) (t : List Node) (f : Diagram) (fs : List Diagram) (t₁ : List Node) (k : ℕ) → place s t f ≡ placed t₁ k
    → (r : Room) → ListAfter s t₁ fs r → ListAfter s t (f ∷ fs) r
list_on s t f fs t₁ k e (short t') W = later e W
list_on s t f fs t₁ k e (all t') W = W

module _ (s n : ℕ) (narrow : n ≤ 64) where
  list-after : (t : List Node) → Ordered t → length t ≤ s → (fs : List Diagram) → AllReduced n fs → ListAfter s t fs (placed_all s t fs)
  unfolding placed_all
  list-after t O room [] o = (O, room)
  list-after t O room (f ∷ fs) o = go (place s t f) refl (λ t₁ O₁ room₁. list-after t₁ O₁ room₁ fs o.1)
    where
      of : Reduced 1 65 f
      of = reduced-to 1 (suc n) 65 f (omega arith) o.0

      go : (p : Placing) → place s t f ≡ p → ((t₁ : List Node) → Ordered t₁ → length t₁ ≤ s → ListAfter s t₁ fs (placed_all s t₁ fs))
          → ListAfter s t (f ∷ fs) (after_placing p (λ t₁. placed_all s t₁ fs))
      go (full t₁) e rec = now (place-wants s t O room f of t₁ e)
      go (placed t₁ k) e rec =
          let A : After s t f (placed t₁ k) = subst (After s t f) e (place_after s t O f of) in
          let O₁ : Ordered t₁ = A.kept.ordered in
          let room₁ : length t₁ ≤ s = A.kept.room room in
          list_on s t f fs t₁ k e (placed_all s t₁ fs) (rec t₁ O₁ room₁)

-- ---- a line without room

module _ (s n : ℕ) (narrow : n ≤ 64) where
  turns-want : (t : List Node) → Ordered t → length t ≤ s → (turns : List (List Diagram)) → AllTurns n turns → (turns_reach s turns t).fits
      ≡ false → TurnWants s t turns
  unfolding turns_reach
  turns-want t O room [] o e = t≢f e
  turns-want t O room (made ∷ turns) o e = go (placed_all s t made) (list-after s n narrow t O room made o.0) e
      (turns-want t O room turns o.1)
    where
      go : (r : Room) → ListAfter s t made r → ((reached r).fits && (turns_reach s turns t).fits) ≡ false →
          ((turns_reach s turns t).fits ≡ false → TurnWants s t turns)
          → TurnWants s t (made ∷ turns)
      go (short t') W e rec = this W
      go (all t') W e rec = next-turn (rec e)

  -- A line that finds no room wants a node.
  pub line-wants : (t : List Node) → Ordered t → length t ≤ s → (line : Line) → AllReduced n line.kept × AllTurns n line.turns →
      (line_reach s t line).fits ≡ false → LineWants s t line
  unfolding line_reach
  line-wants t O room line o e = go (placed_all s t line.kept) refl (list-after s n narrow t O room line.kept o.0) e
    where
      go : (r : Room) → placed_all s t line.kept ≡ r → ListAfter s t line.kept r → (kept_reach s line.turns r).fits ≡ false →
          LineWants s t line
      go (short t') q W e = in-base W
      go (all t') q W e = in-turn q (turns-want t' W.0 W.1 line.turns o.1 e)
