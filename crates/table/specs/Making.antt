-- Diagrams placed one after another, and whether all that a line makes finds room. (01, The table; 02, 2/14)
use Rattle.std.specs.Prelude.{ℕ, max, Bool, true, false, cond, ◌&&◌, List, [], ◌∷◌, length}
use Rattle.meaning.specs.Diagram.{Diagram}
use Rattle.meaning.specs.Rules.{Line}
use Rattle.table.specs.Nodes.{Node, Placing, full, placed, place}

-- ---- a list of diagrams

-- What placing diagrams in their order comes to: the nodes by the time that one of them finds no room, or those of all.
pub data Room : Type 0 where
  short : List Node → Room
  all : List Node → Room

abbrev pub after_placing : Placing → (List Node → Room) → Room
after_placing (full t) rest = short t
after_placing (placed t k) rest = rest t

unfoldable pub placed_all : ℕ → List Node → List Diagram → Room
placed_all s t [] = all t
placed_all s t (f ∷ fs) = after_placing (place s t f) (λ t₁. placed_all s t₁ fs)

-- ---- a line

-- Whether all finds room, and "the greatest count reached, dropped nodes included". (02, 2/14)
pub record Reach : Type 0 where
  pub fits : Bool
  pub peak : ℕ

abbrev pub reach : Bool → ℕ → Reach
reach fits peak = record { fits = fits; peak = peak }

abbrev pub reached : Room → Reach
reached (short t) = reach false (length t)
reached (all t) = reach true (length t)

-- What comes later is made only where all before it found room.
abbrev pub then_reach : Reach → Reach → Reach
then_reach now later = reach (now.fits && later.fits) (cond now.fits (max now.peak later.peak) now.peak)

-- "In PR the nodes of one member's turn are dropped before the next": each turn is placed over the same nodes.
unfoldable pub turns_reach : ℕ → List (List Diagram) → List Node → Reach
unfolding placed_all
turns_reach s [] t = reach true (length t)
turns_reach s (made ∷ later) t = then_reach (reached (placed_all s t made)) (turns_reach s later t)

abbrev pub kept_reach : ℕ → List (List Diagram) → Room → Reach
kept_reach s turns (short t) = reach false (length t)
kept_reach s turns (all t) = turns_reach s turns t

-- A line without room is refused with 23: "19 or 23, the one met first", and a line that is not shown makes nothing after that.
unfoldable pub line_reach : ℕ → List Node → Line → Reach
unfolding placed_all turns_reach
line_reach s t line = kept_reach s line.turns (placed_all s t line.kept)
