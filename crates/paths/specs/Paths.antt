-- Path lines: the paths of a diagram to 0, and the rule that takes them one after the other. (02, 12/14; 002, section 4)
use Rattle.std.specs.Prelude.{true, false, List, [], ◌∷◌, ◌++◌, map, ℕ, ◌+◌}
use Rattle.meaning.specs.Diagram.{Diagram, leaf, node}
use Rattle.meaning.specs.Operations.{Literal, cofactor_literals}
use Rattle.meaning.specs.Rules.{unit_prop, Line, after_turn}
use Rattle.clausal.specs.Literals.{literal, has}
use Rattle.clausal.specs.Tries.{makes_true, makes_false}

-- "each path from the root to 0, with its literals c"; "Paths are taken low side first". A path asks the variables of the diagram alone.
unfoldable pub paths : Diagram → List (List Literal)
paths (leaf false) = [] ∷ []
paths (leaf true) = []
paths (node v l h) = map (◌∷◌ (literal v false)) (paths l) ++ map (◌∷◌ (literal v true)) (paths h)

-- "the live members cofactored by c": by all literals of the path at once, by place.
abbrev pub by_path : ℕ → List Literal → List Diagram → List Diagram
by_path n c ms = map (cofactor_literals n (makes_true c) (makes_false c)) ms

-- The turns of the paths listed: "for each path [..] UnitProp of the live members cofactored by c must conflict"; "nodes are dropped
-- between them; rounds are summed".
unfoldable pub path_turns : ℕ → List Diagram → List (List Literal) → Line
unfolding has cofactor_literals unit_prop after_turn
path_turns n ms [] = record { shown = true; rounds = 0; kept = []; turns = [] }
path_turns n ms (c ∷ cs) = let rest = path_turns n ms cs in after_turn (unit_prop n (by_path n c ms)) (by_path n c ms) rest

-- The path line of the members ms and the root g. No not-g is made.
unfoldable pub path_line : ℕ → List Diagram → Diagram → Line
unfolding path_turns paths
path_line n ms g =
    let turned = path_turns n ms (paths g) in
    record { shown = turned.shown; rounds = turned.rounds; kept = []; turns = turned.turns }

-- How many such paths there are: theorem `count-is` in proofs/Walks. "34, [..] a diagram with more than 4,096 such paths"
unfoldable pub path_count : Diagram → ℕ
path_count (leaf false) = 1
path_count (leaf true) = 0
path_count (node v l h) = path_count l + path_count h
