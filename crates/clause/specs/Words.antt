-- A clause given by two words, the variables of its positive and of its negative literals: bit v − 1 for variable v. No call open to others
-- cites this file.
use Rattle.std.specs.Prelude.{◌≡◌, Bool, false, not, ◌&&◌, ◌||◌, List, ℕ, zero, suc}
use Rattle.meaning.specs.Diagram.{Assignment, holds, Diagram, diagram}
use Rattle.meaning.specs.Words.{in_word}
use Rattle.table.specs.Nodes.{Node, Placing, placed}
use Rattle.table.specs.declared.Found.{Found}
use Rattle.table.specs.declared.Found.TheVariants.{At, Nothing}
use Rattle.words.specs.declared.Literals.{Literals}

-- Whether a literal of the variables 1 to k is true. "A clause is 1 where one of its literals is true, else 0." (01, Values)
unfoldable pub words_value : Literals → ℕ → Assignment → Bool
words_value literals zero a = false
words_value literals (suc k) a =
    ((in_word literals.positive (suc k) && holds a (suc k)) || (in_word literals.negative (suc k) && not (holds a (suc k))))
    || words_value literals k a

-- The clause's diagram. Each clause that the reader gives is this one of its words: `clause-of-words` in proofs/Literals.
unfoldable pub clause_of_words : Literals → Diagram
unfolding words_value
clause_of_words literals = diagram 64 (words_value literals 64)

-- What is placed so stands among the nodes t: placing it gives the node that is found and places none; or it does not.
abbrev pub Stands : List Node → Placing → Found → Type 0
Stands t p (At k) = p ≡ placed t k.0
Stands t p Nothing = (k : ℕ) → p ≡ placed t k → ⊥
