-- The node table as a list of records: good order, the diagram of a node number, placing. (01, The table)
use Rattle.std.specs.Prelude.{ℕ, zero, suc, ◌+◌, Bool, true, false, cond, not, ◌&&◌, ◌||◌, List, [], ◌∷◌, ◌++◌, length, take, drop, ◌==◌}
use Rattle.std.specs.Prelude.{nat_le, nat_lt, slice_index_or}
use Rattle.std.proofs.Math.Option.{Option, none, some}
use Rattle.meaning.specs.Diagram.{Diagram, leaf, node}

-- "The node table is a list of records: variable, low, high." (01, The table)
pub record Node : Type 0 where
  pub var : ℕ
  pub low : ℕ
  pub high : ℕ

abbrev pub node_of : ℕ → ℕ → ℕ → Node
node_of v l h = record { var = v; low = l; high = h }

abbrev pub blank : Node
blank = node_of 0 0 0

abbrev pub at : List Node → ℕ → Node
at t k = slice_index_or t k blank

unfoldable pub alike : Node → Node → Bool
alike x y = x.var == y.var && (x.low == y.low && x.high == y.high)

-- ---- good order

unfoldable pub all_blank : List Node → Bool
unfolding alike
all_blank [] = true
all_blank (x ∷ xs) = alike x blank && all_blank xs

-- p holds of each number below m.
unfoldable pub all_below : ℕ → (ℕ → Bool) → Bool
all_below zero p = true
all_below (suc m) p = all_below m p && p m

-- "each node's variable is [..] smaller than those of its children that are not constants"
unfoldable pub above : List Node → ℕ → ℕ → Bool
above t v child = nat_lt child 2 || nat_lt v (at t child).var

-- What good order asks of the node x at place k: "each node's variable is 1 to 64 and smaller than those of its children that
-- are not constants; children have smaller numbers; low differs from high"
unfoldable pub fits : List Node → ℕ → Node → Bool
unfolding above
fits t k x =
    (nat_le 1 x.var && nat_le x.var 64) && ((above t x.var x.low && above t x.var x.high)
    && ((nat_lt x.low k && nat_lt x.high k) && not (x.low == x.high)))

-- "no two nodes are alike": none of the nodes before place k is like that of place k.
unfoldable pub is_new : List Node → ℕ → Bool
unfolding all_below alike
is_new t k = all_below k (λ j. nat_lt j 2 || not (alike (at t j) (at t k)))

-- The nodes of a table, places 0 and 1 included, are in good order: "places 0 and 1 hold zeros", and each node fits and is new.
unfoldable pub nodes_in_order : List Node → Bool
unfolding all_blank all_below fits is_new
nodes_in_order t = all_blank (take 2 t) && all_below (length t) (λ k. nat_lt k 2 || (fits t k (at t k) && is_new t k))

-- "Good order: places 0 and 1 hold zeros; 2 ≤ count ≤ size; each node's variable is 1 to 64 [..]; no two nodes are alike; places from
-- the count on are zero." The table's places are `rows`, all of them; `good_order` (Index) asks the index too.
unfoldable pub good_places : List Node → ℕ → Bool
unfolding nodes_in_order all_blank
good_places rows count = (nat_le 2 count && nat_le count (length rows)) && (nodes_in_order (take count rows) && all_blank (drop count rows))

-- ---- the diagram of a node number

-- Children have smaller numbers, so that k + 1 steps are enough for place k.
unfoldable pub diagram_within : ℕ → List Node → ℕ → Diagram
diagram_within zero t k = leaf false
diagram_within (suc steps) t zero = leaf false
diagram_within (suc steps) t (suc zero) = leaf true
diagram_within (suc steps) t (suc (suc j)) =
    let x = at t (suc (suc j)) in node x.var (diagram_within steps t x.low) (diagram_within steps t x.high)

-- "Node 0 has the value 0, node 1 the value 1; any other node has the value of its high where its variable is true, of its low
-- where it is false." (01, Values)
unfoldable pub diagram_at : List Node → ℕ → Diagram
unfolding diagram_within
diagram_at t k = diagram_within (suc k) t k

-- ---- placing

-- What placing comes to: a node wanted and no room, with the nodes that there are by then; or the nodes and the number asked for.
pub data Placing : Type 0 where
  full : List Node → Placing
  placed : List Node → ℕ → Placing

-- The first of the places from i on, holding ys, whose node is x.
unfoldable pub find_from : ℕ → List Node → Node → Option ℕ
unfolding alike
find_from i [] x = none
find_from i (y ∷ ys) x = let later = find_from (suc i) ys x in cond (alike y x) (some i) later

-- The place of a node, by a walk from place 2.
unfoldable pub find : List Node → Node → Option ℕ
unfolding find_from
find t x = find_from 2 (drop 2 t) x

-- "8 and 23 are given only where a node not in the table is to be placed and the count equals the size"; "New nodes take the next place".
unfoldable pub or_append : ℕ → List Node → Node → Option ℕ → Placing
or_append s t x none = cond (nat_lt (length t) s) (placed (t ++ x ∷ []) (length t)) (full t)
or_append s t x (some k) = placed t k

-- A node in a table of s places: "Equal children give that child" (01, The proof), a node that is there is found again.
unfoldable pub put : ℕ → List Node → ℕ → ℕ → ℕ → Placing
unfolding or_append find
put s t v l h = cond (l == h) (placed t l) (or_append s t (node_of v l h) (find t (node_of v l h)))

unfoldable pub and_then : Placing → (List Node → ℕ → Placing) → Placing
and_then (full t) next = full t
and_then (placed t k) next = next t k

-- "New nodes take the next place, low side's before high side's, children before parent. A diagram is made so that only nodes of
-- the finished diagram are placed." (01, The table)
unfoldable pub place : ℕ → List Node → Diagram → Placing
unfolding and_then put
place s t (leaf false) = placed t 0
place s t (leaf true) = placed t 1
place s t (node v l h) = and_then (place s t l) (λ t₁ a. and_then (place s t₁ h) (λ t₂ b. put s t₂ v a b))
