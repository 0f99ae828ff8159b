-- The words of the variables that a node forces, from its sides'. The idea: a side is 0 exactly where its number is, so the test of the
-- numbers adds the node's variable where the diagram forces it; more variables in the word do no harm. Assumes nothing.
use mathlib.Core.Path.{◌≡◌, refl, sym, ◌∙◌, subst}
use mathlib.Core.Bool.{Bool, true, false, ◌||◌, cond}
use mathlib.Core.List.{List}
use Prim.Native.Nat.{ℕ, ◌-◌, ◌^◌, ◌≤◌, ◌<◌}
use native.Mathlib.Omega.{arith}
use lib.Dec.{eqb}
use lib.ListN.{length, get_or}
use lib.Bits.{bit_or}
use Rattle.meaning.specs.Diagram.{Diagram, leaf, node}
use Rattle.meaning.specs.Words.{in_word}
use Rattle.meaning.specs.Uses.{Forces}
use Rattle.meaning.proofs.Booleans.{or_left, or_right, eq-eqb}
use Rattle.meaning.proofs.Words.{in-bit}
use Rattle.meaning.proofs.Uses.{uses-forces}
use Rattle.words.specs.Sets.{with_variable}
use Rattle.table.specs.Nodes.{Node, diagram_at}
use Rattle.table.proofs.Numbers.{diagram_at-zero, diagram_at-injective}
use Rattle.walks.specs.Readable.{Readable, nodes_in}
use Rattle.walks.proofs.Here.{Here, here, ordered-in, length-in}
use Rattle.supports.specs.Supports.{Support, Forced, with_forced, with_node, WordOf, SomeNodes}
use Rattle.supports.proofs.Words.{in_left, in_right, at_leaf, is-node, support-leaf, support-node}

-- ---- any diagram

forces-more : (S T : ℕ → Bool) → ((v : ℕ) → S v ≡ true → T v ≡ true) → (f : Diagram) → Forces S f → Forces T f
forces-more S T more (leaf b) u = tt
forces-more S T more (node v l h) u =
    ((λ e. more v (u.0 e)), (λ e. more v (u.1 e)), forces-more S T more l u.2, forces-more S T more h u.3)

-- ---- the word with a node's variable

module _ (word v low high : ℕ) where
  pub with-zero : (eqb low 0 || eqb high 0) ≡ true → with_forced word v low high ≡ with_variable word v
  unfolding with_forced
  with-zero e = rw e

  pub with_none : eqb low 0 ≡ false → eqb high 0 ≡ false → with_forced word v low high ≡ word
  unfolding with_forced
  with_none e d = rw (e, d)

  -- it has what the word has
  kept_in : (x : ℕ) → in_word word x ≡ true → in_word (with_forced word v low high) x ≡ true
  unfolding with_forced
  kept_in x e = go (eqb low 0 || eqb high 0)
    where
      go : (b : Bool) → in_word (cond b (with_variable word v) word) x ≡ true
      go true = in_left word (2 ^ (v - 1)) x e
      go false = e

  -- and the variable, where a side is 0
  added-in : 1 ≤ v → (eqb low 0 || eqb high 0) ≡ true → in_word (with_forced word v low high) v ≡ true
  added-in least e = rw (with-zero e) (in_right word (2 ^ (v - 1)) v (in-bit v v least least ∙ eq-eqb v v refl))

-- ---- a node

pub forced-leaf : (t : List Node) (k word : ℕ) → k < 2 → Forced word (diagram_at t k)
unfolding Forced
forced-leaf t k word p = at_leaf (Forced word) (λ b. tt) t k p

module _ (vs ls hs : List ℕ) (count : ℕ) (R : Readable vs ls hs count) where
  abbrev t : List Node
  t = nodes_in vs ls hs count

  -- no node but number 0 is 0
  zero-only : (k : ℕ) → k < count → diagram_at t k ≡ leaf false → k ≡ 0
  zero-only k p e =
      diagram_at-injective t (ordered-in vs ls hs count R) k 0 (omega (arith, length-in vs ls hs count R))
      (omega (arith, length-in vs ls hs count R)) (e ∙ sym (diagram_at-zero t))

  module _ (k : ℕ) (two : 2 ≤ k) (inside : k < count) where
    abbrev v : ℕ
    v = get_or vs k 0

    abbrev low : ℕ
    low = get_or ls k 0

    abbrev high : ℕ
    high = get_or hs k 0

    at-node : Here vs ls hs count k
    at-node = here vs ls hs count R k two inside

    -- the test of the numbers finds a side that is 0
    low-tested : diagram_at t low ≡ leaf false → (eqb low 0 || eqb high 0) ≡ true
    low-tested e = or_left (eqb low 0) (eqb high 0) (eq-eqb low 0 (zero-only low (omega (arith, at-node.low-less)) e))

    high-tested : diagram_at t high ≡ leaf false → (eqb low 0 || eqb high 0) ≡ true
    high-tested e = or_right (eqb low 0) (eqb high 0) (eq-eqb high 0 (zero-only high (omega (arith, at-node.high-less)) e))

    pub forced-node : (a b : ℕ) → Forced a (diagram_at t low) → Forced b (diagram_at t high) →
        Forced (with_forced (bit_or a b) v low high) (diagram_at t k)
    unfolding Forced
    forced-node a b x y =
        subst (Forces (in_word (with_forced (bit_or a b) v low high))) (sym (is-node vs ls hs count R k two inside)) (
          (λ e. added-in (bit_or a b) v low high at-node.least (low-tested e)),
          (λ e. added-in (bit_or a b) v low high at-node.least (high-tested e)),
          forces-more (in_word a) (in_word (with_forced (bit_or a b) v low high))
              (λ w e. kept_in (bit_or a b) v low high w (in_left a b w e))
              (diagram_at t low) x,
          forces-more (in_word b) (in_word (with_forced (bit_or a b) v low high))
              (λ w e. kept_in (bit_or a b) v low high w (in_right a b w e))
              (diagram_at t high) y,
        )

-- ---- either word

module _ (word v low high : ℕ) where
  pub with_all : (all : Bool) → all ≡ true → with_node all word v low high ≡ with_variable word v
  unfolding with_node
  with_all all e = rw e

  pub with-some : (all : Bool) → all ≡ false → with_node all word v low high ≡ with_forced word v low high
  unfolding with_node
  with-some all e = rw e

pub word-leaf : (all : Bool) (t : List Node) (k word : ℕ) → k < 2 → WordOf all word (diagram_at t k)
word-leaf true t k word p = support-leaf t k word p
word-leaf false t k word p = forced-leaf t k word p

pub word-node : (all : Bool) (vs ls hs : List ℕ) (count : ℕ) (R : Readable vs ls hs count) (k : ℕ) (two : 2 ≤ k) (inside : k < count)
    (a b : ℕ)
    → WordOf all a (diagram_at (nodes_in vs ls hs count) (get_or ls k 0)) →
    WordOf all b (diagram_at (nodes_in vs ls hs count) (get_or hs k 0))
    → WordOf all (with_node all (bit_or a b) (get_or vs k 0) (get_or ls k 0) (get_or hs k 0)) (diagram_at (nodes_in vs ls hs count) k)
unfolding with_node
word-node true vs ls hs count R k two inside a b u x = support-node vs ls hs count R k two inside a b u x
word-node false vs ls hs count R k two inside a b u x = forced-node vs ls hs count R k two inside a b u x

-- a walk from f comes to smaller numbers
pub children-less : (lows highs : List ℕ) (f : ℕ) → SomeNodes lows highs f → (k : ℕ) → 2 ≤ k → k ≤ f
    → (k < length lows) × (k < length highs) × (get_or lows k 0 < k) × (get_or highs k 0 < k)
children-less lows highs f S k two less =
    let H = here S.vars lows highs S.count S.readable k two (omega (arith, S.inside)) in
    let R = S.readable in
    (omega (arith, R.within, R.lows, S.inside), omega (arith, R.within, R.highs, S.inside), H.low-less, H.high-less)

-- a diagram forces none but its own variables
pub support-forced : (word : ℕ) (f : Diagram) → Support word f → Forced word f
unfolding Support Forced
support-forced word f u = uses-forces (in_word word) f u
