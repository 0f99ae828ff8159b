-- The words of a node's variables, from its sides' and in the memo. Assumes nothing.
use mathlib.Core.Path.{◌≡◌, refl, sym, ◌∙◌, subst}
use mathlib.Core.Logic.{◌≢◌}
use mathlib.Core.Bool.{Bool, true, false}
use mathlib.Core.List.{List}
use Prim.Native.Nat.{ℕ, ◌+◌, ◌-◌, ◌^◌, ◌≤◌, ◌<◌}
use native.Mathlib.Omega.{arith}
use native.Mathlib.Decide.{ℕ_discrete}
use lib.ListN.{length, get_or, set, length-set}
use lib.Seq.{get_or-set_same, get_or-set_other}
use lib.Bits.{bit_or}
use Rattle.meaning.specs.Diagram.{Diagram, leaf, node}
use Rattle.meaning.specs.Words.{in_word}
use Rattle.meaning.specs.Uses.{Uses}
use Rattle.meaning.proofs.Booleans.{or_left, or_right, eq-eqb}
use Rattle.table.specs.Nodes.{Node, diagram_at}
use Rattle.table.proofs.Numbers.{diagram_at-zero, diagram_at-one, diagram_at-node}
use Rattle.walks.specs.Readable.{Readable, Cleared, nodes_in}
use Rattle.walks.proofs.Here.{here, node_in, ordered-in, length-in}
use Rattle.walks.proofs.Memo.{stored}
use Rattle.meaning.proofs.Words.{in-or, in-bit}
use Rattle.meaning.proofs.Uses.{uses-more}
use Rattle.supports.specs.Supports.{Support, Supports, WordMemo, SupportMemo}

-- ---- one word or the other

module _ (a b : ℕ) where
  pub in_left : (v : ℕ) → in_word a v ≡ true → in_word (bit_or a b) v ≡ true
  in_left v e = in-or a b v ∙ or_left (in_word a v) (in_word b v) e

  pub in_right : (v : ℕ) → in_word b v ≡ true → in_word (bit_or a b) v ≡ true
  in_right v e = in-or a b v ∙ or_right (in_word a v) (in_word b v) e

  pub support-left : (f : Diagram) → Support a f → Support (bit_or a b) f
  unfolding Support
  support-left f u = uses-more (in_word a) (in_word (bit_or a b)) in_left f u

  pub support-right : (f : Diagram) → Support b f → Support (bit_or a b) f
  unfolding Support
  support-right f u = uses-more (in_word b) (in_word (bit_or a b)) in_right f u

-- ---- a node

-- what holds of both constants holds of the nodes 0 and 1
pub at_leaf : (P : Diagram → Type 0) → ((b : Bool) → P (leaf b)) → (t : List Node) (k : ℕ) → k < 2 → P (diagram_at t k)
at_leaf P all t k p = go (ℕ_discrete k 0)
  where
    go : Dec (k ≡ 0) → P (diagram_at t k)
    go (yes e) = rw (e, diagram_at-zero t) (all false)
    go (no n) = let e : k ≡ 1 = omega arith in rw (e, diagram_at-one t) (all true)

pub support-leaf : (t : List Node) (k word : ℕ) → k < 2 → Support word (diagram_at t k)
unfolding Support
support-leaf t k word p = at_leaf (Support word) (λ b. tt) t k p

module _ (vs ls hs : List ℕ) (count : ℕ) (R : Readable vs ls hs count) (k : ℕ) (two : 2 ≤ k) (inside : k < count) where
  abbrev t : List Node
  t = nodes_in vs ls hs count

  abbrev w : ℕ
  w = get_or vs k 0

  pub is-node : diagram_at t k ≡ node w (diagram_at t (get_or ls k 0)) (diagram_at t (get_or hs k 0))
  is-node = rw (node_in vs ls hs count R k inside) at
      (diagram_at-node t (ordered-in vs ls hs count R) k two (omega (arith, length-in vs ls hs count R)))

  pub support-node : (a b : ℕ) → Support a (diagram_at t (get_or ls k 0)) → Support b (diagram_at t (get_or hs k 0)) →
      Support (bit_or (bit_or a b) (2 ^ (w - 1))) (diagram_at t k)
  unfolding Support
  support-node a b u x =
      subst (Uses (in_word (bit_or (bit_or a b) (2 ^ (w - 1))))) (sym is-node) (
        in_right (bit_or a b) (2 ^ (w - 1)) w (in-bit w w least least ∙ eq-eqb w w refl),
        support-left (bit_or a b) (2 ^ (w - 1)) (diagram_at t (get_or ls k 0)) (support-left a b (diagram_at t (get_or ls k 0)) u),
        support-left (bit_or a b) (2 ^ (w - 1)) (diagram_at t (get_or hs k 0)) (support-right a b (diagram_at t (get_or hs k 0)) x),
      )
    where
      least : 1 ≤ w
      least = (here vs ls hs count R k two inside).least

-- ---- the memo of words that have P with their nodes' diagrams

module _ (P : ℕ → Diagram → Type 0) (t : List Node) (memo : List ℕ) where
  pub memo-cleared : (count : ℕ) → length t ≡ count → Cleared count memo → WordMemo P memo t
  unfolding WordMemo
  memo-cleared count len zero i p ne = absurd (ne (zero i (omega arith)))

  pub memo-known : (k : ℕ) → k < length t → WordMemo P memo t → get_or memo k 0 ≢ 0 → P (get_or memo k 0) (diagram_at t k)
  unfolding WordMemo
  memo-known k p M ne = M k p ne

  pub memo-stored : (k word : ℕ) → k < length memo → WordMemo P memo t → P word (diagram_at t k) → WordMemo P (set memo k word) t
  unfolding WordMemo
  memo-stored k word inside M new =
      stored (λ (i e : ℕ). i < length t → e ≢ 0 → P e (diagram_at t i)) memo k word inside (λ p ne. new) (λ i n. M i)

-- ---- all nodes

-- The first k cells have the variables of their nodes.
abbrev pub Known : List Node → List ℕ → ℕ → Type 0
Known t memo k = (i : ℕ) → i < k → Support (get_or memo i 0) (diagram_at t i)

pub known-leaves : (t : List Node) (memo : List ℕ) → Known t memo 2
known-leaves t memo i p = support-leaf t i (get_or memo i 0) p

pub known_next : (t : List Node) (memo : List ℕ) (k word : ℕ) → k < length memo → Known t memo k → Support word (diagram_at t k) →
    Known t (set memo k word) (k + 1)
known_next t memo k word inside K new =
    stored (λ (i e : ℕ). i < k + 1 → Support e (diagram_at t i)) memo k word inside (λ p. new) (λ i n p. K i (omega (arith, n)))

pub known-all : (t : List Node) (memo : List ℕ) (k : ℕ) → length t ≤ k → Known t memo k → SupportMemo memo t
unfolding WordMemo
known-all t memo k all K i p ne = K i (omega arith)

-- ---- a list

-- The first i listed nodes have their words.
pub record Filled (t : List Node) (list words : List ℕ) (i : ℕ) : Type 0 where
  pub lengths : length words ≡ length list
  pub so_far : i ≤ length list
  pub done : (k : ℕ) → k < i → Support (get_or words k 0) (diagram_at t (get_or list k 0))

pub filled_none : (t : List Node) (list words : List ℕ) → length words ≡ length list → Filled t list words 0
filled_none t list words e = record { lengths = e; so_far = omega arith; done = λ k p. absurd (omega arith) }

pub filled_next : (t : List Node) (list words : List ℕ) (i word : ℕ) → Filled t list words i → i < length list →
    Support word (diagram_at t (get_or list i 0)) → Filled t list (set words i word) (i + 1)
filled_next t list words i word F p new =
    record {
      lengths = length-set words i word ∙ F.lengths;
      so_far = omega arith;
      done = λ k q. go k q (ℕ_discrete k i);
    }
  where
    go : (k : ℕ) → k < i + 1 → Dec (k ≡ i) → Support (get_or (set words i word) k 0) (diagram_at t (get_or list k 0))
    go k q (yes e) = rw (e, get_or-set_same words i word 0 (omega (arith, F.lengths))) new
    go k q (no n) = rw (get_or-set_other words i k word 0 n) (F.done k (omega arith))

pub filled-all : (t : List Node) (list words : List ℕ) (i : ℕ) → Filled t list words i → length list ≤ i → Supports t list words
unfolding Supports
filled-all t list words i F h k q = F.done k (omega arith)
