-- The turn of a path, by its two words of variables. No call open to others cites this file.
use Rattle.std.specs.Prelude.{true, List, [], map}
use Rattle.meaning.specs.Diagram.{Diagram}
use Rattle.meaning.specs.Operations.{cofactor_literals}
use Rattle.meaning.specs.Rules.{Line, unit_prop, after_turn}
use Rattle.meaning.specs.Words.{in_word}
use Rattle.words.specs.declared.Literals.{Literals}

-- The members cofactored by the words' literals.
abbrev pub by_words : Literals → List Diagram → List Diagram
by_words u ms = map (cofactor_literals 64 (in_word u.positive) (in_word u.negative)) ms

-- The line of no path.
abbrev pub nothing : Line
nothing = record { shown = true; rounds = 0; kept = []; turns = [] }

-- The line of one path.
unfoldable pub turn_by : Literals → List Diagram → Line
unfolding after_turn unit_prop cofactor_literals
turn_by u ms = after_turn (unit_prop 64 (by_words u ms)) (by_words u ms) nothing
