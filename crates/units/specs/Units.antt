-- What the walk for U(f) asks and answers. No call open to others cites this file.
use Rattle.std.specs.Prelude.{◌≡◌, Bool, true, ◌&&◌, ◌||◌, cond, List, ℕ, suc, ◌+◌, ◌-◌, ◌^◌, ◌≤◌, ◌<◌, length, get_or, eqb, ltb}
use Rattle.meaning.specs.Reduced.{Reduced}
use Rattle.meaning.specs.Operations.{is_unit}
use Rattle.words.specs.declared.Literals.{Literals}
use Rattle.words.specs.Sets.{without, has}
use Rattle.table.specs.Nodes.{Node, at, diagram_at}
use Rattle.walks.specs.Readable.{Readable, Roomy, nodes_in}
use Rattle.units.specs.declared.AtTop.{AtTop}
use Rattle.units.specs.declared.AtTop.TheVariants.{Known, Unknown}

-- The set is U of node k, of n variables: "the literals l with f 0 wherever l is false". (01, The rules; 002, section 3)
unfoldable pub UnitsAt : ℕ → List Node → ℕ → Literals → Type 0
unfolding has
UnitsAt n t k units = (v : ℕ) (s : Bool) → 1 ≤ v → v ≤ n → has units v s ≡ is_unit n (diagram_at t k) v s

-- Every node's diagram is of n variables.
abbrev pub OfVariables : ℕ → List Node → Type 0
OfVariables n t = (k : ℕ) → k < length t → Reduced 1 (suc n) (diagram_at t k)

-- ---- what a node strikes

-- The set without the variables from `from` on, positive ones below p and negative ones below q.
abbrev pub struck_to : ℕ → Literals → ℕ → ℕ → ℕ → Literals
struck_to n u from p q = record { positive = without n u.positive from p; negative = without n u.negative from q }

-- The first variable past those that a node of v strikes: its own literal stays where the side in which it is false is node 0.
unfoldable pub past : ℕ → ℕ → ℕ
past v side = cond (eqb side 0) v (v + 1)

-- ---- the walk

-- Of the literals alive those are left that are of a variable before `from` or a unit of node k.
unfoldable pub Struck : ℕ → List Node → ℕ → ℕ → Literals → Literals → Type 0
unfolding has
Struck n t k from alive left =
    (v : ℕ) (s : Bool) → 1 ≤ v → v ≤ n → has left v s ≡ (has alive v s && (ltb v from || is_unit n (diagram_at t k) v s))

-- A node with the stamp has nothing alive left to strike: from its variable on all that is alive is a unit of it.
unfoldable pub Marked : ℕ → List ℕ → List Node → ℕ → Literals → Type 0
unfolding has
Marked n memo t stamp alive =
    (k : ℕ) → k < length t → get_or memo k 0 ≡ stamp → (v : ℕ) (s : Bool) → 1 ≤ v → v ≤ n → (at t k).var ≤ v → has alive v s ≡ true
    → is_unit n (diagram_at t k) v s ≡ true

-- The marks of the first `count` nodes are below the stamp.
abbrev pub MarksBelow : ℕ → List ℕ → ℕ → Type 0
MarksBelow count memo stamp = (i : ℕ) → i < count → get_or memo i 0 < stamp

-- What the walk asks at node k, where variables before `from` are done with.
pub record StrikeReady (vs ls hs memo : List ℕ) (count k from stamp : ℕ) (alive : Literals) : Type 0 where
  pub readable : Readable vs ls hs count
  pub inside : k < count
  pub room : Roomy vs memo
  pub least : 1 ≤ from
  pub most : from ≤ 65
  pub reached : 2 ≤ k → from ≤ get_or vs k 0
  pub right : Marked 64 memo (nodes_in vs ls hs count) stamp alive
  pub marks : MarksBelow count memo (stamp + 1)

-- ---- what the node alone tells

-- The word of the variable v where the side is node 0.
unfoldable pub literal_where : ℕ → ℕ → ℕ
literal_where v side = cond (eqb side 0) (2 ^ (v - 1)) 0

-- What is known is U of node k.
abbrev pub KnownAt : ℕ → List Node → ℕ → AtTop → Type 0
KnownAt n t k (Known units) = UnitsAt n t k units
KnownAt n t k Unknown = Unit {0}
