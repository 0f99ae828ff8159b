-- What a line that is refused with 19 has come to. No call open to others cites this file.
use Rattle.std.specs.Prelude.{◌≡◌, true, false, List, [], ◌∷◌, ℕ, ◌<◌, length, get_or, eqb}
use Rattle.meaning.specs.Diagram.{Diagram}
use Rattle.meaning.specs.Operations.{negation, cofactor_literals}
use Rattle.meaning.specs.Rules.{Line, by_diagram, pr_turns}
use Rattle.meaning.specs.Words.{in_word}
use Rattle.table.specs.Nodes.{Node, diagram_at}
use Rattle.table.specs.Indexed.{Table, size, nodes_of}
use Rattle.table.specs.Making.{line_reach}
use Rattle.causes.specs.Causes.{fixes}
use Rattle.causes.specs.Answers.{fixed_as}

-- All that the line makes finds room, and it is not shown.
pub record Unshown (t : Table) (line : Line) : Type 0 where
  pub fits : (line_reach (size t) (nodes_of t) line).fits ≡ true
  pub unshown : line.shown ≡ false

-- The rounds and their words, of the propagation of the diagrams.
pub record Fixed (ms : List Diagram) (rounds : ℕ) (words : List ℕ) : Type 0 where
  pub rounds-are : rounds ≡ length (fixes 64 ms)
  pub words_are : words ≡ fixed_as (length words) (fixes 64 ms)

-- The members by not-g.
abbrev pub by_not : Diagram → List Diagram → List Diagram
by_not g ms = by_diagram 64 (negation 64 g) ms

-- ---- PR

-- A word of 64 ones: it has every variable.
abbrev pub every_variable : ℕ
every_variable = 18446744073709551615

-- The turn of one member f over the members by not-g, ms, with the witness of two words.
abbrev pub turn_line : ℕ → ℕ → List Diagram → Diagram → Line
turn_line positive negative ms f = pr_turns 64 (in_word positive) (in_word negative) ms (f ∷ [])

-- h: the member under the witness.
abbrev pub under_witness : ℕ → ℕ → Diagram → Diagram
under_witness positive negative f = cofactor_literals 64 (in_word positive) (in_word negative) f

-- Of the first `many` members r is the lowest that is not struck and whose turn is not shown; that turn finds room.
pub record Lowest (t : Table) (positive negative : ℕ) (ms : List Diagram) (members struck : List ℕ) (many r : ℕ) : Type 0 where
  pub inside : r < many
  pub live : eqb (get_or struck r 0) 0 ≡ true
  pub fails : Unshown t (turn_line positive negative ms (diagram_at (nodes_of t) (get_or members r 0)))
  pub lowest : (j : ℕ) → j < r → eqb (get_or struck j 0) 0 ≡ true
      → (turn_line positive negative ms (diagram_at (nodes_of t) (get_or members j 0))).shown ≡ true

-- Of the first `many` members `member` is the lowest that is not struck and whose turn is not shown; its turn's rounds and their words.
pub record PrTold (t : List Node) (positive negative : ℕ) (ms : List Diagram) (members struck : List ℕ) (many member rounds : ℕ)
    (words : List ℕ)
    : Type 0 where
  pub inside : member < many
  pub live : eqb (get_or struck member 0) 0 ≡ true
  pub hidden : (turn_line positive negative ms (diagram_at t (get_or members member 0))).shown ≡ false
  pub lowest : (j : ℕ) → j < member → eqb (get_or struck j 0) 0 ≡ true
      → (turn_line positive negative ms (diagram_at t (get_or members j 0))).shown ≡ true
  pub fixed : Fixed (by_not (under_witness positive negative (diagram_at t (get_or members member 0))) ms) rounds words
