-- A line judged as its diagrams are made, one after the other: "19 or 23, the one met first". (01, What the call says and leaves)
-- No call open to others cites this file: `met-first` says that the definition of the check judges so.
use Rattle.std.specs.Prelude.{Bool, cond, List, [], ◌∷◌, true, ℕ, zero, suc}
use Rattle.std.proofs.Math.Option.{Option, none, some}
use Rattle.meaning.specs.Diagram.{Diagram, leaf, same}
use Rattle.meaning.specs.Operations.{Literal, negation, cofactor_literals}
use Rattle.meaning.specs.Rules.{Line, conflicts, first_with_unit, by_units, by_diagram, base}
use Rattle.meaning.specs.Words.{in_word}
use Rattle.paths.specs.Paths.{paths, by_path}
use Rattle.table.specs.Nodes.{Node, Placing, full, placed, place}
use Rattle.records.specs.declared.Rule.{Rule}
use Rattle.records.specs.declared.Rule.TheVariants.{Rup, Pr, Path}
use Rattle.verdict.specs.Steps.{State, Step, next, spent, accepted, diagram_in, live_members}

-- What is met: a conflict in every propagation; a propagation that ends without one; a diagram that finds no room.
pub data Met : Type 0 where
  all_shown : Met
  no-conflict : Met
  no_place : Met

abbrev pub after_made : Placing → (List Node → Met) → Met
after_made (full t) go = no_place
after_made (placed t k) go = go t

-- Diagrams made one after the other over the nodes t; then it goes on over the nodes that there are by then.
unfoldable pub making : ℕ → List Node → List Diagram → (List Node → Met) → Met
making s t [] go = go t
making s t (f ∷ fs) go = after_made (place s t f) (λ t₁. making s t₁ fs go)

abbrev pub in_round : Option Diagram → (Diagram → Met) → Met
in_round none go = no-conflict
in_round (some u) go = go u

-- "(a) a member is 0 or the negation of another: conflict; (b) else, if some U is not empty, [..] cofactor all members by its U,
-- [..] go to (a); (c) else no conflict"; "in each round all members by place". With at most so many rounds to come: n are enough.
unfoldable pub propagating : ℕ → ℕ → ℕ → List Node → List Diagram → Met
unfolding conflicts first_with_unit by_units making
propagating s zero n t ms = cond (conflicts n ms) all_shown no-conflict
propagating s (suc most) n t ms =
    let later = in_round (first_with_unit n ms) (λ u. making s t (by_units n u ms) (λ t₁. propagating s most n t₁ (by_units n u ms))) in
    cond (conflicts n ms) all_shown later

abbrev pub met_then : Met → Met → Met
met_then all_shown later = later
met_then no-conflict later = no-conflict
met_then no_place later = no_place

-- "for each member f, by place, with h = f under ω: h is 1, or UnitProp of the members cofactored by not-g and then by not-h
-- conflicts"; "in PR, per member, h, not-h, the second cofactors; in each round all members by place. In PR the nodes of one
-- member's turn are dropped before the next."
unfoldable pub turning : ℕ → ℕ → (ℕ → Bool) → (ℕ → Bool) → List Node → List Diagram → List Diagram → Met
unfolding making propagating
turning s n P N t ms' [] = all_shown
turning s n P N t ms' (f ∷ fs) =
    let h = cofactor_literals n P N f in
    let second = by_diagram n (negation n h) ms' in
    let rest = turning s n P N t ms' fs in
    let turn = met_then (making s t (h ∷ negation n h ∷ second) (λ t₁. propagating s n n t₁ second)) rest in
    cond (same h (leaf true)) rest turn

-- "for each path from the root to 0 [..] UnitProp of the live members cofactored by c must conflict. Paths are taken low side first and
-- nodes are dropped between them" (02, 12/14): each path's members are made over the same nodes.
unfoldable pub pathing : ℕ → ℕ → List Node → List Diagram → List (List Literal) → Met
unfolding making propagating
pathing s n t ms [] = all_shown
pathing s n t ms (c ∷ cs) =
    let rest = pathing s n t ms cs in met_then (making s t (by_path n c ms) (λ t₁. propagating s n n t₁ (by_path n c ms))) rest

-- "Making order of a line: not-g; members by not-g, by place", then the propagation of RUP or the turns of PR. A path line makes no
-- not-g.
unfoldable pub met_by : ℕ → ℕ → State → Rule → ℕ → Met
unfolding making propagating turning pathing paths
met_by n s st Rup g =
    let ms = live_members st in
    making s st.nodes (base n ms (diagram_in st g)) (λ t. propagating s n n t (by_diagram n (negation n (diagram_in st g)) ms))
met_by n s st Pr g =
    let ms = live_members st in
    making s st.nodes (base n ms (diagram_in st g))
    (λ t. turning s n (in_word st.positive) (in_word st.negative) t (by_diagram n (negation n (diagram_in st g)) ms) ms)
met_by n s st Path g = pathing s n st.nodes (live_members st) (paths (diagram_in st g))

-- What each says: the line accepted, 19, 23; the greatest count is then `peak`.
abbrev pub say_met : State → ℕ → Line → ℕ → Met → Step
say_met st g line peak all_shown = next (accepted st g line peak)
say_met st g line peak no-conflict = spent 19 peak
say_met st g line peak no_place = spent 23 peak
