-- Words that hold the variables of a diagram, or those that it forces, and the memos of the walks that find them. No call open to others
-- cites this file.
use Rattle.std.specs.Prelude.{◌≢◌, Bool, true, false, ◌||◌, cond, List, ℕ, ◌<◌, eqb, length, get_or}
use Rattle.meaning.specs.Diagram.{Diagram}
use Rattle.meaning.specs.Words.{in_word}
use Rattle.meaning.specs.Uses.{Uses, Forces}
use Rattle.words.specs.Sets.{with_variable}
use Rattle.table.specs.Nodes.{Node, diagram_at}
use Rattle.walks.specs.Readable.{Readable}

-- The word has every variable of the diagram.
unfoldable pub Support : ℕ → Diagram → Type 0
unfolding in_word
Support word f = Uses (in_word word) f

-- The i-th word has every variable of the i-th listed node.
unfoldable pub Supports : List Node → List ℕ → List ℕ → Type 0
unfolding Support
Supports t list words = (i : ℕ) → i < length list → Support (get_or words i 0) (diagram_at t (get_or list i 0))

-- The word has every variable that the diagram forces.
unfoldable pub Forced : ℕ → Diagram → Type 0
unfolding in_word
Forced word f = Forces (in_word word) f

-- The word with the variable v of a node where one of the node's children is 0.
unfoldable pub with_forced : ℕ → ℕ → ℕ → ℕ → ℕ
with_forced word v low high = cond (eqb low 0 || eqb high 0) (with_variable word v) word

-- What the traversal adds of a node: its variable, or its variable where one of its children is 0.
unfoldable pub with_node : Bool → ℕ → ℕ → ℕ → ℕ → ℕ
unfolding with_forced
with_node true word v low high = with_variable word v
with_node false word v low high = with_forced word v low high

-- The word has all variables of the diagram, or those that it forces.
abbrev pub WordOf : Bool → ℕ → Diagram → Type 0
WordOf true = Support
WordOf false = Forced

-- Each node's cell of the memo that is not 0 holds a word that has P with the node's diagram.
unfoldable pub WordMemo : (ℕ → Diagram → Type 0) → List ℕ → List Node → Type 0
WordMemo P memo t = (i : ℕ) → i < length t → get_or memo i 0 ≢ 0 → P (get_or memo i 0) (diagram_at t i)

-- Each node's cell of the memo that is not 0 has every variable of the node.
abbrev pub SupportMemo : List ℕ → List Node → Type 0
SupportMemo memo t = WordMemo Support memo t

-- The columns are those of nodes in good order, of which f is one.
pub record SomeNodes (lows highs : List ℕ) (f : ℕ) : Type 0 where
  pub vars : List ℕ
  pub count : ℕ
  pub readable : Readable vars lows highs count
  pub inside : f < count
