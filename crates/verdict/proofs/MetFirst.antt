-- A line is judged as its diagrams are made one after the other, and is refused with 19 or 23, the one met first. The idea: a turn that
-- ends without conflict is the last that makes anything. Assumes nothing.
use mathlib.Core.Path.{◌≡◌, refl, sym, ap, ◌∙◌}
use mathlib.Core.Bool.{Bool, true, false, not, ◌&&◌, cond}
use mathlib.Core.List.{List, [], ◌∷◌, ◌++◌}
use mathlib.Core.Option.{Option, none, some}
use Prim.Native.Nat.{ℕ, zero, suc}
use Rattle.meaning.specs.Diagram.{Diagram, leaf, same}
use Rattle.meaning.specs.Operations.{Literal, negation, cofactor_literals}
use Rattle.meaning.specs.Rules.{Line, Propagation, conflicts, first_with_unit, by_units, round, still, taking, propagate, unit_prop}
use Rattle.meaning.specs.Rules.{by_diagram}
use Rattle.meaning.specs.Rules.{rup, after_turn, pr_turns, pr}
use Rattle.meaning.specs.Words.{in_word}
use Rattle.paths.specs.Paths.{paths, by_path, path_turns, path_line}
use Rattle.table.specs.Nodes.{Node, Placing, full, placed, place}
use Rattle.table.specs.Making.{Room, short, all, after_placing, placed_all, reached, turns_reach, kept_reach, line_reach}
use Rattle.records.specs.declared.Rule.{Rule}
use Rattle.records.specs.declared.Rule.TheVariants.{Rup, Pr, Path}
use Rattle.verdict.specs.Steps.{State, next, spent, accepted, judged, diagram_in, live_members}
use Rattle.verdict.specs.Taken.{line_of, peak_with}
use Rattle.verdict.specs.MetFirst.{Met, all_shown, no-conflict, no_place, after_made, making, in_round, propagating, met_then, turning}
use Rattle.verdict.specs.MetFirst.{pathing, met_by, say_met}

-- ---- making a list

-- what goes on after a list is made, by the room that it finds
abbrev after_room : Room → (List Node → Met) → Met
after_room (short t) go = no_place
after_room (all t) go = go t

making-room : (s : ℕ) (t : List Node) (fs : List Diagram) (go : List Node → Met) → making s t fs go ≡ after_room (placed_all s t fs) go
unfolding making placed_all
making-room s t [] go = refl
making-room s t (f ∷ fs) go = by (place s t f) (λ t₁. making-room s t₁ fs go)
  where
    by : (p : Placing) → ((t₁ : List Node) → making s t₁ fs go ≡ after_room (placed_all s t₁ fs) go)
        → after_made p (λ t₁. making s t₁ fs go) ≡ after_room (after_placing p (λ t₁. placed_all s t₁ fs)) go
    by (full t₁) rec = refl
    by (placed t₁ k) rec = rec t₁

making-append : (s : ℕ) (t : List Node) (fs gs : List Diagram) (go : List Node → Met) → making s t (fs ++ gs) go
    ≡ making s t fs (λ t₁. making s t₁ gs go)
unfolding making
making-append s t [] gs go = refl
making-append s t (f ∷ fs) gs go = by (place s t f) (λ t₁. making-append s t₁ fs gs go)
  where
    by : (p : Placing) → ((t₁ : List Node) → making s t₁ (fs ++ gs) go ≡ making s t₁ fs (λ t₂. making s t₂ gs go))
        → after_made p (λ t₁. making s t₁ (fs ++ gs) go) ≡ after_made p (λ t₁. making s t₁ fs (λ t₂. making s t₂ gs go))
    by (full t₁) rec = refl
    by (placed t₁ k) rec = rec t₁

making-alike : (s : ℕ) (t : List Node) (fs : List Diagram) (go go' : List Node → Met) → ((t₁ : List Node) → go t₁ ≡ go' t₁) →
    making s t fs go ≡ making s t fs go'
unfolding making
making-alike s t [] go go' alike = alike t
making-alike s t (f ∷ fs) go go' alike = by (place s t f) (λ t₁. making-alike s t₁ fs go go' alike)
  where
    by : (p : Placing) → ((t₁ : List Node) → making s t₁ fs go ≡ making s t₁ fs go') → after_made p (λ t₁. making s t₁ fs go)
        ≡ after_made p (λ t₁. making s t₁ fs go')
    by (full t₁) rec = refl
    by (placed t₁ k) rec = rec t₁

-- ---- a propagation

abbrev ends : Bool → Met
ends conflict = cond conflict all_shown no-conflict

-- all that it makes, and then whether it conflicts
propagating-is : (s most n : ℕ) (t : List Node) (ms : List Diagram)
    → propagating s most n t ms ≡ making s t (propagate most n ms).made (λ t₁. ends (propagate most n ms).conflict)
unfolding propagating propagate making
propagating-is s zero n t ms = refl
propagating-is s (suc most) n t ms = by (conflicts n ms) (first_with_unit n ms) (λ u t₁. propagating-is s most n t₁ (by_units n u ms))
  where
    P : Bool → Option Diagram → Propagation
    P c o = cond c (still true) (taking o (λ u. round (by_units n u ms) (propagate most n (by_units n u ms))))

    by : (c : Bool) (o : Option Diagram)
        → ((u : Diagram) (t₁ : List Node) → propagating s most n t₁ (by_units n u ms)
        ≡ making s t₁ (propagate most n (by_units n u ms)).made (λ t₂. ends (propagate most n (by_units n u ms)).conflict))
        → cond c all_shown (in_round o (λ u. making s t (by_units n u ms) (λ t₁. propagating s most n t₁ (by_units n u ms))))
        ≡ making s t (P c o).made (λ t₁. ends (P c o).conflict)
    by true o rec = refl
    by false none rec = refl
    by false (some u) rec =
        making-alike s t (by_units n u ms) _ _ (rec u) ∙ sym
        (making-append s t (by_units n u ms) (propagate most n (by_units n u ms)).made
        (λ t₂. ends (propagate most n (by_units n u ms)).conflict))

-- ---- turns

-- 23 where a turn finds no room, else whether all conflict
abbrev met_turns : Bool → Bool → Met
met_turns fits shown = cond fits (ends shown) no_place

turning-is : (s n : ℕ) (P N : ℕ → Bool) (t : List Node) (ms' fs : List Diagram)
    → turning s n P N t ms' fs ≡ met_turns (turns_reach s (pr_turns n P N ms' fs).turns t).fits (pr_turns n P N ms' fs).shown
unfolding turning pr_turns turns_reach
turning-is s n P N t ms' [] = refl
turning-is s n P N t ms' (f ∷ fs) = by (same h (leaf true)) (turning-is s n P N t ms' fs)
  where
    h : Diagram
    h = cofactor_literals n P N f

    second : List Diagram
    second = by_diagram n (negation n h) ms'

    before : List Diagram
    before = h ∷ negation n h ∷ second

    p : Propagation
    p = unit_prop n second

    rest : Line
    rest = pr_turns n P N ms' fs

    line : Bool → Line
    line c = cond c rest (after_turn p before rest)

    turn : Met
    turn = making s t before (λ t₁. propagating s n n t₁ second)

    whole : turn ≡ after_room (placed_all s t (before ++ p.made)) (λ t₁. ends p.conflict)
    whole =
        making-alike s t before _ _ (λ t₁. propagating-is s n n t₁ second)
        ∙ sym (making-append s t before p.made (λ t₁. ends p.conflict))
        ∙ making-room s t (before ++ p.made) (λ t₁. ends p.conflict)

    after : (room : Room) (conflict : Bool) → turning s n P N t ms' fs ≡ met_turns (turns_reach s rest.turns t).fits rest.shown
        → met_then (after_room room (λ t₁. ends conflict)) (turning s n P N t ms' fs)
        ≡ met_turns ((reached room).fits && (turns_reach s (cond conflict rest.turns []) t).fits) (conflict && rest.shown)
    after (short t₁) conflict rec = refl
    after (all t₁) true rec = rec
    after (all t₁) false rec = refl

    by : (c : Bool) → turning s n P N t ms' fs ≡ met_turns (turns_reach s rest.turns t).fits rest.shown
        → cond c (turning s n P N t ms' fs) (met_then turn (turning s n P N t ms' fs))
        ≡ met_turns (turns_reach s (line c).turns t).fits (line c).shown
    by true rec = rec
    by false rec = ap (λ (x : Met). met_then x (turning s n P N t ms' fs)) whole
        ∙ after (placed_all s t (before ++ p.made)) p.conflict rec

-- the turns of paths
pathing-is : (s n : ℕ) (t : List Node) (ms : List Diagram) (cs : List (List Literal))
    → pathing s n t ms cs ≡ met_turns (turns_reach s (path_turns n ms cs).turns t).fits (path_turns n ms cs).shown
unfolding pathing path_turns turns_reach after_turn
pathing-is s n t ms [] = refl
pathing-is s n t ms (c ∷ cs) =
    ap (λ (x : Met). met_then x (pathing s n t ms cs)) whole ∙ after (placed_all s t (first ++ p.made)) p.conflict
    (pathing-is s n t ms cs)
  where
    first : List Diagram
    first = by_path n c ms

    p : Propagation
    p = unit_prop n first

    rest : Line
    rest = path_turns n ms cs

    whole : making s t first (λ t₁. propagating s n n t₁ first) ≡ after_room (placed_all s t (first ++ p.made)) (λ t₁. ends p.conflict)
    whole =
        making-alike s t first _ _ (λ t₁. propagating-is s n n t₁ first)
        ∙ sym (making-append s t first p.made (λ t₁. ends p.conflict))
        ∙ making-room s t (first ++ p.made) (λ t₁. ends p.conflict)

    after : (room : Room) (conflict : Bool) → pathing s n t ms cs ≡ met_turns (turns_reach s rest.turns t).fits rest.shown
        → met_then (after_room room (λ t₁. ends conflict)) (pathing s n t ms cs)
        ≡ met_turns ((reached room).fits && (turns_reach s (cond conflict rest.turns []) t).fits) (conflict && rest.shown)
    after (short t₁) conflict rec = refl
    after (all t₁) true rec = rec
    after (all t₁) false rec = refl

-- ---- a line

-- the one propagation of RUP
propagating-turn : (s n : ℕ) (t : List Node) (ms : List Diagram) → propagating s n n t ms
    ≡ met_turns (turns_reach s ((unit_prop n ms).made ∷ []) t).fits (unit_prop n ms).conflict
unfolding turns_reach unit_prop
propagating-turn s n t ms =
    propagating-is s n n t ms ∙ making-room s t (propagate n n ms).made (λ t₁. ends (propagate n n ms).conflict)
    ∙ by (placed_all s t (propagate n n ms).made) (propagate n n ms).conflict
  where
    by : (room : Room) (conflict : Bool) → after_room room (λ t₁. ends conflict) ≡ met_turns ((reached room).fits && true) conflict
    by (short t₁) conflict = refl
    by (all t₁) conflict = refl

-- what is made first, then the turns over it
line-met : (s : ℕ) (t : List Node) (line : Line) (go : List Node → Met) →
    ((t₁ : List Node) → go t₁ ≡ met_turns (turns_reach s line.turns t₁).fits line.shown)
    → making s t line.kept go ≡ met_turns (line_reach s t line).fits line.shown
unfolding line_reach
line-met s t line go turns = making-room s t line.kept go ∙ by (placed_all s t line.kept)
  where
    by : (room : Room) → after_room room go ≡ met_turns (kept_reach s line.turns room).fits line.shown
    by (short t₁) = refl
    by (all t₁) = turns t₁

met-line : (n s : ℕ) (st : State) (rule : Rule) (g : ℕ) → met_by n s st rule g
    ≡ met_turns (line_reach s st.nodes (line_of n st rule g)).fits (line_of n st rule g).shown
unfolding met_by rup pr path_line
met-line n s st Rup g =
    let ms : List Diagram = live_members st in
    line-met s st.nodes (line_of n st Rup g) _ (λ t. propagating-turn s n t (by_diagram n (negation n (diagram_in st g)) ms))
met-line n s st Pr g =
    let ms : List Diagram = live_members st in
    line-met s st.nodes (line_of n st Pr g) _
    (λ t. turning-is s n (in_word st.positive) (in_word st.negative) t (by_diagram n (negation n (diagram_in st g)) ms) ms)
met-line n s st Path g =
    line-met s st.nodes (line_of n st Path g) _ (λ t. pathing-is s n t (live_members st) (paths (diagram_in st g)))

-- "then 19 or 23, the one met first": for every state, rule and root.
pub met-first : (n s : ℕ) (st : State) (rule : Rule) (g : ℕ) → judged s st g (line_of n st rule g)
    ≡ say_met st g (line_of n st rule g) (peak_with s st (line_of n st rule g)) (met_by n s st rule g)
unfolding judged
met-first n s st rule g =
    by (line_reach s st.nodes line).fits line.shown ∙ sym (ap (say_met st g line (peak_with s st line)) (met-line n s st rule g))
  where
    line : Line
    line = line_of n st rule g

    peak : ℕ
    peak = peak_with s st line

    by : (fits shown : Bool) → cond (not fits) (spent 23 peak) (cond (not shown) (spent 19 peak) (next (accepted st g line peak)))
        ≡ say_met st g line peak (met_turns fits shown)
    by true true = refl
    by true false = refl
    by false shown = refl
