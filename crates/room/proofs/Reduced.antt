-- All that a line makes is reduced. The idea: each is the diagram of a function. Assumes nothing.
use mathlib.Core.Bool.{Bool, true, false, ◌&&◌, cond}
use mathlib.Core.List.{List, [], ◌∷◌, ◌++◌}
use mathlib.Core.Option.{Option, none, some}
use Prim.Native.Nat.{ℕ, zero, suc, ◌+◌}
use Rattle.meaning.specs.Diagram.{Diagram, leaf, same}
use Rattle.meaning.specs.Operations.{Literal, negation, cofactor_literals}
use Rattle.meaning.specs.Rules.{Line, Propagation, conflicts, first_with_unit, by_units, round, still, taking, propagate, unit_prop}
use Rattle.meaning.specs.Rules.{by_diagram}
use Rattle.meaning.specs.Rules.{rup, pr_turns, pr, after_turn}
use Rattle.meaning.proofs.Pointwise.{negation-reduced, literals-reduced}
use Rattle.meaning.proofs.Ends.{AllReduced, by_diagram-reduced, by_units-reduced, map-reduced}
use Rattle.clausal.specs.Tries.{makes_true, makes_false}
use Rattle.paths.specs.Paths.{paths, by_path, path_turns, path_line}

append-reduced : (n : ℕ) (fs gs : List Diagram) → AllReduced n fs → AllReduced n gs → AllReduced n (fs ++ gs)
append-reduced n [] gs o p = p
append-reduced n (f ∷ fs) gs o p = (o.0, append-reduced n fs gs o.1 p)

propagate-reduced : (most n : ℕ) (ms : List Diagram) → AllReduced n (propagate most n ms).made
unfolding propagate
propagate-reduced zero n ms = tt
propagate-reduced (suc most) n ms = go (conflicts n ms) (first_with_unit n ms) (λ u. propagate-reduced most n (by_units n u ms))
  where
    go : (c : Bool) (o : Option Diagram) → ((u : Diagram) → AllReduced n (propagate most n (by_units n u ms)).made)
        → AllReduced n (cond c (still true) (taking o (λ u. round (by_units n u ms) (propagate most n (by_units n u ms))))).made
    go true o rec = tt
    go false none rec = tt
    go false (some u) rec = append-reduced n (by_units n u ms) (propagate most n (by_units n u ms)).made (by_units-reduced n u ms) (rec u)

abbrev pub AllTurns : ℕ → List (List Diagram) → Type 0
AllTurns n [] = Unit {0}
AllTurns n (made ∷ turns) = AllReduced n made × AllTurns n turns

turns-reduced : (n : ℕ) (P N : ℕ → Bool) (ms' fs : List Diagram) → AllTurns n (pr_turns n P N ms' fs).turns
unfolding pr_turns unit_prop
turns-reduced n P N ms' [] = tt
turns-reduced n P N ms' (f ∷ fs) = go (same h (leaf true)) p.conflict (turns-reduced n P N ms' fs)
  where
    h : Diagram
    h = cofactor_literals n P N f

    second : List Diagram
    second = by_diagram n (negation n h) ms'

    p : Propagation
    p = unit_prop n second

    rest : Line
    rest = pr_turns n P N ms' fs

    this-turn : AllReduced n ((h ∷ negation n h ∷ second) ++ p.made)
    this-turn =
        append-reduced n (h ∷ negation n h ∷ second) p.made (
          literals-reduced n P N f,
          (negation-reduced n h, by_diagram-reduced n (negation n h) ms'),
        ) (propagate-reduced n n second)

    go : (c conflict : Bool) → AllTurns n rest.turns
        → AllTurns n (cond c rest (record {
          shown = conflict && rest.shown;
          rounds = cond conflict (p.rounds + rest.rounds) p.rounds;
          kept = [];
          turns = ((h ∷ negation n h ∷ second) ++ p.made) ∷ cond conflict rest.turns [];
        })).turns
    go true conflict rec = rec
    go false true rec = (this-turn, rec)
    go false false rec = (this-turn, tt)

path-turns-reduced : (n : ℕ) (ms : List Diagram) (cs : List (List Literal)) → AllTurns n (path_turns n ms cs).turns
unfolding path_turns unit_prop after_turn
path-turns-reduced n ms [] = tt
path-turns-reduced n ms (c ∷ cs) = go (unit_prop n (by_path n c ms)).conflict (path-turns-reduced n ms cs)
  where
    this-turn : AllReduced n (by_path n c ms ++ (unit_prop n (by_path n c ms)).made)
    this-turn =
        append-reduced n (by_path n c ms) (unit_prop n (by_path n c ms)).made
        (map-reduced n (cofactor_literals n (makes_true c) (makes_false c)) ms (λ f. literals-reduced n (makes_true c) (makes_false c) f))
        (propagate-reduced n n (by_path n c ms))

    go : (conflict : Bool) → AllTurns n (path_turns n ms cs).turns
        → AllTurns n ((by_path n c ms ++ (unit_prop n (by_path n c ms)).made) ∷ cond conflict (path_turns n ms cs).turns [])
    go true rec = (this-turn, rec)
    go false rec = (this-turn, tt)

pub rup-reduced : (n : ℕ) (ms : List Diagram) (G : Diagram) → AllReduced n (rup n ms G).kept × AllTurns n (rup n ms G).turns
unfolding rup unit_prop
rup-reduced n ms G = (
  (negation-reduced n G, by_diagram-reduced n (negation n G) ms),
  (propagate-reduced n n (by_diagram n (negation n G) ms), tt),
)

pub pr-reduced : (n : ℕ) (P N : ℕ → Bool) (ms : List Diagram) (G : Diagram) → AllReduced n (pr n P N ms G).kept × AllTurns n
    (pr n P N ms G).turns
unfolding pr
pr-reduced n P N ms G = (
  (negation-reduced n G, by_diagram-reduced n (negation n G) ms),
  turns-reduced n P N (by_diagram n (negation n G) ms)
      ms,
)

pub path-reduced : (n : ℕ) (ms : List Diagram) (G : Diagram) → AllReduced n (path_line n ms G).kept × AllTurns n (path_line n ms G).turns
unfolding path_line
path-reduced n ms G = (tt, path-turns-reduced n ms (paths G))
