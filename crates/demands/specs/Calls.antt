-- What the theorems on the single calls speak of: the nodes that lent columns hold, 01's value of each operation, and what a call
-- that is not refused has done. No call open to others cites this file.
use Rattle.std.specs.Prelude.{◌≡◌, ◌≢◌, Bool, true, false, not, ◌&&◌, List, ℕ, ◌<◌, length, take, leb}
use Rattle.meaning.specs.Diagram.{Assignment, value}
use Rattle.meaning.specs.Operations.{forced, nearest}
use Rattle.meaning.specs.Sets.{at_least_value, size_of, excluded_by}
use Rattle.meaning.specs.Words.{in_word}
use Rattle.table.specs.Nodes.{Node, diagram_at}
use Rattle.table.specs.Index.{good_order}
use Rattle.table.specs.Columns.{rows, Columns}
use Rattle.operate.specs.declared.Operation.{Operation}
use Rattle.operate.specs.declared.Operation.TheVariants.{Conjunction, Negation, Cofactor, Literals}
use Rattle.single.specs.Single.{Made, unchanged, Counted}

-- ---- lent columns

-- The nodes that the columns hold below a count.
abbrev pub nodes_of_columns : Columns → ℕ → List Node
nodes_of_columns c count = take count (rows c.vars c.lows c.highs)

-- The columns with a count are in good order, every place of them, and so is the index. (01, The table; 02, 7/14)
abbrev pub in_good_order : Columns → ℕ → Bool
in_good_order c count = good_order (rows c.vars c.lows c.highs) count c.heads c.links

-- "Node 0 has the value 0, node 1 the value 1; any other node has the value of its high where its variable is true, of its low
-- where it is false." (01, Values; `node-value` is that sentence)
abbrev pub value_at : Columns → ℕ → ℕ → Assignment → Bool
value_at c count k a = value (diagram_at (nodes_of_columns c count) k) a

-- ---- operations

-- "A conjunction is 1 where both diagrams are, a negation where the diagram is 0; elsewhere each is 0. A cofactor by a diagram is as in
-- the rules; by literals it has f's value once the true set's variables are made true and the false set's false." (01, Values)
unfoldable pub value_of : Operation → (f g : Assignment → Bool) → Assignment → Bool
value_of Conjunction f g a = f a && g a
value_of Negation f g a = not (f a)
value_of Cofactor f g a = f (nearest 64 g a)
value_of (Literals p n) f g a = f (forced (in_word p) (in_word n) 1 a)

-- What holds of a call that is not refused: its node is in the table as left, which is in good order; every old number keeps its
-- diagram; and the node has 01's value of the operation under every assignment, "operands in the table as handed in, a single
-- call's node in the table as left".
pub record Answers (op : Operation) (c : Columns) (count f g : ℕ) (o : Made) : Type 0 where
  pub below : o.node < o.count
  pub good : in_good_order o.columns o.count ≡ true
  pub kept : (k : ℕ) → k < count → diagram_at (nodes_of_columns o.columns o.count) k ≡ diagram_at (nodes_of_columns c count) k
  pub values : (a : Assignment) → length a ≡ 64
      → value_at o.columns o.count o.node a ≡ value_of op (value_at c count f) (value_at c count g) a

-- "A refused single call changes nothing"; "with a refusal the node is 0". (01, What the call says and leaves)
pub data OperationSays (op : Operation) (c : Columns) (count f g : ℕ) (o : Made) : Type 0 where
  answered : o.number ≡ 0 → Answers op c count f g o → OperationSays op c count f g o
  refused : o.number ≢ 0 → o ≡ unchanged c count o.number → OperationSays op c count f g o

-- ---- at least (02, 5/14)

-- The same of the call that makes an at-least diagram: its node's value is "1 where the number of the set's true variables is [..] at
-- least k; else 0"; "for sets of up to 32 variables" the excluded assignments are counted.
pub record LeastAnswers (c : Columns) (count set k : ℕ) (o : Counted) : Type 0 where
  pub below : o.made.node < o.made.count
  pub good : in_good_order o.made.columns o.made.count ≡ true
  pub kept : (j : ℕ) → j < count → diagram_at (nodes_of_columns o.made.columns o.made.count) j ≡ diagram_at (nodes_of_columns c count) j
  pub values : (a : Assignment) → length a ≡ 64
      → value_at o.made.columns o.made.count o.made.node a ≡ at_least_value (in_word set) k a
  pub counted : o.counted ≡ leb (size_of 64 (in_word set)) 32
  pub excluded : o.counted ≡ true → o.excluded ≡ excluded_by 64 (in_word set) k
  pub no-count : o.counted ≡ false → o.excluded ≡ 0

-- "(no count for larger ones or with a refusal)"
pub data LeastSays (c : Columns) (count set k : ℕ) (o : Counted) : Type 0 where
  least-answered : o.made.number ≡ 0 → LeastAnswers c count set k o → LeastSays c count set k o
  least-refused : o.made.number ≢ 0 → o ≡ record { made = unchanged c count o.made.number; counted = false; excluded = 0 }
      → LeastSays c count set k o
