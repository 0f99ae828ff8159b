-- Members that are negations of each other. No call open to others cites this file.
use Rattle.std.specs.Prelude.{◌≡◌, ◌≢◌, ◌⊎◌, Bool, true, false, not, cond, List, ℕ, ◌≤◌, ◌<◌, length, get_or}
use Rattle.meaning.specs.Diagram.{Diagram, same}
use Rattle.meaning.specs.Operations.{negation}
use Rattle.meaning.specs.Rules.{any}
use Rattle.table.specs.Nodes.{Node, diagram_at}
use Rattle.table.specs.Indexed.{Table, size, nodes_of}
use Rattle.table.specs.Lists.{diagrams_of, Inside}
use Rattle.walks.specs.Readable.{value_under}
use Rattle.conflict.specs.Marks.{is_listed, unmarked, set_all}
use Rattle.conflict.specs.declared.Negation.{Negation}
use Rattle.conflict.specs.declared.Negation.TheVariants.{Unlisted, At, Unknown}
use Rattle.conflict.specs.declared.NextNegation.{NextNegation}
use Rattle.conflict.specs.declared.Asking.{Asking}
use Rattle.conflict.specs.declared.Asking.TheVariants.{Conflict, UpTo}

-- Whether the negation of g is one of the members.
unfoldable pub negation_in : List Diagram → Diagram → Bool
unfolding any same negation
negation_in ms g = any (λ f. same f (negation 64 g)) ms

-- Whether the negation of some member is one of the members.
unfoldable pub some_negated : List Diagram → Bool
unfolding any negation_in
some_negated ms = any (negation_in ms) ms

-- Whether the node k is asked for its negation: where all members may be, by its value where all variables are false.
unfoldable pub asks : List Node → ℕ → Bool → Bool
asks t k all = cond all (not (value_under t k 0)) true

-- The nodes asked are members, all of them where it is said so, and enough of them: 0 where it is a member, and one of each two members
-- that are each other's negations.
pub record Asked (t : List Node) (list asked : List ℕ) (all : Bool) : Type 0 where
  pub listed : (k : ℕ) → k < length asked → is_listed list (get_or asked k 0) ≡ true
  pub whole : all ≡ true → (i : ℕ) → i < length list → is_listed asked (get_or list i 0) ≡ true
  pub zero : is_listed list 0 ≡ true → is_listed asked 0 ≡ true
  pub pairs : (i j : ℕ) → i < length list → j < length list → diagram_at t (get_or list j 0) ≡ negation 64 (diagram_at t (get_or list i 0))
      → (is_listed asked (get_or list i 0) ≡ true) ⊎ (is_listed asked (get_or list j 0) ≡ true)

-- None of the first i asked has its negation listed.
pub record NegationsAsked (t : List Node) (list asked : List ℕ) (all : Bool) (i : ℕ) : Type 0 where
  pub so_far : i ≤ length asked
  pub none : (k : ℕ) → k < i → asks t (get_or asked k 0) all ≡ true
      → negation_in (diagrams_of t list) (diagram_at t (get_or asked k 0)) ≡ false

-- No node but 0 is the negation of node f.
abbrev pub Unnegated : Table → ℕ → Type 0
Unnegated t f = (k : ℕ) → 1 ≤ k → k < t.count → diagram_at (nodes_of t) k ≢ negation 64 (diagram_at (nodes_of t) f)

-- Node k is the negation of node f.
abbrev pub NegatedBy : Table → ℕ → ℕ → Type 0
NegatedBy t f k = (k < t.count) × (diagram_at (nodes_of t) k ≡ negation 64 (diagram_at (nodes_of t) f))

-- What is found of node f's negation without a memo: none but 0; a node; or nothing is known.
abbrev pub NegationSays : Table → ℕ → Negation → Type 0
NegationSays t f Unlisted = Unnegated t f
NegationSays t f (At k) = NegatedBy t f k.0
NegationSays t f Unknown = Unit {0}

-- From `from` on up to the place none asked has a negation but 0.
pub record Passed (t : Table) (asked : List ℕ) (all : Bool) (from place : ℕ) : Type 0 where
  pub from_on : from ≤ place
  pub most : place ≤ length asked
  pub none : (k : ℕ) → from ≤ k → k < place → asks (nodes_of t) (get_or asked k 0) all ≡ true → Unnegated t (get_or asked k 0)

-- So it is up to the place told; there the node is the negation of the one asked, where it is `found`.
abbrev pub NextSays : Table → List ℕ → Bool → ℕ → NextNegation → Type 0
NextSays t asked all from r =
    Passed t asked all from r.place × (r.found ≡ true → (r.place < length asked) × NegatedBy t (get_or asked r.place 0) r.node.0)

-- The members of a list in the table t are marked, and no other place; none is 0, and the asked are enough of them.
pub record Marked (t : Table) (list asked marks : List ℕ) (all : Bool) : Type 0 where
  pub inside : Inside t.count list
  pub marked : marks ≡ set_all 1 (unmarked (size t)) list
  pub none : is_listed list 0 ≡ false
  pub enough : Asked (nodes_of t) list asked all

-- What asking for negations comes to that needs no memo: a member's is listed, or none is up to a place.
abbrev pub AskedThin : List Node → List ℕ → List ℕ → Bool → Asking → Type 0
AskedThin t list asked all Conflict = some_negated (diagrams_of t list) ≡ true
AskedThin t list asked all (UpTo i) = NegationsAsked t list asked all i
