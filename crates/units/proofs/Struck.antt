-- The walk that strikes literals: what is left of those alive at a node, from what its two edges leave; and the marks of nodes that have
-- none left to strike. The idea: a literal stays where every edge leaves it; what is alive only shrinks. Assumes nothing.
use mathlib.Core.Path.{◌≡◌, refl, sym, ap, ap₂, ◌∙◌}
use mathlib.Core.Bool.{Bool, true, false, ◌&&◌, ◌||◌, cond}
use mathlib.Core.List.{List}
use Prim.Native.Nat.{ℕ, ◌+◌, ◌≤◌, ◌<◌}
use native.Mathlib.Omega.{arith}
use lib.ListN.{length, get_or, set}
use lib.Dec.{ltb, leb}
use lib.Bits.{bit_or}
use borrow.Author.Tests.{ltb-true, leb-true, le-ltb, lt-leb, lt-ltb}
use Rattle.meaning.specs.Operations.{is_unit}
use Rattle.meaning.specs.Words.{in_word}
use Rattle.meaning.proofs.Booleans.{t≢f, and_both, and-true, or_right}
use Rattle.table.specs.Nodes.{Node, at, diagram_at}
use Rattle.table.proofs.Order.{Fits}
use Rattle.walks.specs.Readable.{Readable, nodes_in}
use Rattle.walks.proofs.Here.{Here, here, node_in, ordered-in, length-in}
use Rattle.walks.proofs.Memo.{stored}
use Rattle.units.specs.Units.{UnitsAt, OfVariables, struck_to, past, Struck, Marked, MarksBelow}
use Rattle.words.specs.declared.Literals.{Literals}
use Rattle.words.specs.Sets.{all_word, has}
use Rattle.words.proofs.Variables.{in_all, in_without}
use Rattle.words.proofs.LiteralSets.{has-none}
use Rattle.units.proofs.Branches.{zero-units, one-units, past-least, past-most, top_within, unit-edges}

-- ---- sets

has-struck : (n : ℕ) (u : Literals) (from p q v : ℕ) (s : Bool) → 1 ≤ from → 1 ≤ p → p ≤ n + 1 → 1 ≤ q → q ≤ n + 1 → 1 ≤ v → v ≤ n
    → has (struck_to n u from p q) v s ≡ (has u v s && (ltb v from || leb (cond s p q) v))
unfolding has
has-struck n u from p q v true a b c d e lo hi = in_without n u.positive from p v a b c lo hi
has-struck n u from p q v false a b c d e lo hi = in_without n u.negative from q v a d e lo hi

-- ---- the constants

pub struck-zero : (n : ℕ) (t : List Node) (from : ℕ) (alive : Literals) → Struck n t 0 from alive alive
unfolding Struck
struck-zero n t from alive v s lo hi = sym (ap (◌&&◌ (has alive v s)) (or_right (ltb v from) _ (zero-units n t v s lo hi))
    ∙ and-true (has alive v s))

pub struck-one : (n : ℕ) (t : List Node) (from : ℕ) (alive left : Literals) → 1 ≤ from → left ≡ struck_to n alive from (n + 1) (n + 1) →
    Struck n t 1 from alive left
unfolding Struck
struck-one n t from alive left a e v s lo hi =
    ap (λ (u : Literals). has u v s) e
    ∙ has-struck n alive from (n + 1) (n + 1) v s a (omega arith) (omega arith) (omega arith) (omega arith) lo hi
    ∙ ap (λ (x : Bool). has alive v s && (ltb v from || x)) (none s ∙ sym (one-units n t v s lo hi))
  where
    none : (s : Bool) → leb (cond s (n + 1) (n + 1)) v ≡ false
    none true = lt-leb (n + 1) v (omega arith)
    none false = lt-leb (n + 1) v (omega arith)

-- from all literals the units are left
pub struck-all : (n : ℕ) (t : List Node) (k : ℕ) (left : Literals) → Struck n t k 1
    (record { positive = all_word n; negative = all_word n })
    left → UnitsAt n t k left
unfolding Struck UnitsAt has
struck-all n t k left S v s lo hi = S v s lo hi ∙ ap₂ (λ (x y : Bool). x && (y || is_unit n (diagram_at t k) v s)) (all s) (le-ltb v 1 lo)
  where
    all : (s : Bool) → in_word (cond s (all_word n) (all_word n)) v ≡ true
    all true = in_all n v lo hi
    all false = in_all n v lo hi

-- ---- marks

pub marked-new : (n : ℕ) (t : List Node) (memo : List ℕ) (stamp : ℕ) (alive : Literals) → MarksBelow (length t) memo stamp →
    Marked n memo t stamp alive
unfolding Marked
marked-new n t memo stamp alive M k inside e v s lo hi above h = absurd (omega (arith, M k inside))

-- what is struck of the literals alive leaves the marks right
pub marked-less : (n : ℕ) (t : List Node) (memo : List ℕ) (stamp k from : ℕ) (alive left : Literals) → Struck n t k from alive left →
    Marked n memo t stamp alive → Marked n memo t stamp left
unfolding Marked Struck
marked-less n t memo stamp k from alive left S M j inside e v s lo hi above h =
    M j inside e v s lo hi above (and_both (has alive v s) (ltb v from || is_unit n (diagram_at t k) v s) (sym (S v s lo hi) ∙ h)).0

pub marks-stored : (memo : List ℕ) (count k stamp : ℕ) → k < length memo → MarksBelow count memo (stamp + 1) →
    MarksBelow count (set memo k stamp) (stamp + 1)
marks-stored memo count k stamp inside M = stored (λ i x. i < count → x < stamp + 1) memo k stamp inside (λ _. omega arith) (λ i _. M i)

-- ---- a node

-- the Booleans of a literal: whether it is alive, before `from`, left by the node's own variable, above its sides, and a unit of each
left_both : (A F E X L H : Bool) → (F ≡ true → X ≡ true) → (((A && (F || E)) && (X || L)) && (X || H))
    ≡ (A && (F || (E && ((X || L) && (X || H)))))
left_both false F E X L H p = refl
left_both true true E true L H p = refl
left_both true true E false L H p = t≢f (sym (p refl))
left_both true false true X L H p = refl
left_both true false false X L H p = refl

left-marked : (A F E U : Bool) → (E ≡ false → U ≡ false) → (A ≡ true → E ≡ true → U ≡ true) → (A && (F || E)) ≡ (A && (F || U))
left-marked false F E U p q = refl
left-marked true true E U p q = refl
left-marked true false true U p q = sym (q refl refl)
left-marked true false false U p q = sym (p refl)

left-none : (A F E U : Bool) → (E ≡ false → U ≡ false) → (A && (F || E)) ≡ false → (A && (F || E)) ≡ (A && (F || U))
left-none false F E U p q = refl
left-none true true E U p q = refl
left-none true false true U p q = t≢f q
left-none true false false U p q = sym (p refl)

module _ (n : ℕ) (vs ls hs : List ℕ) (count : ℕ) (R : Readable vs ls hs count) (narrow : OfVariables n (nodes_in vs ls hs count)) (k : ℕ)
    (two : 2 ≤ k) (inside : k < count) where
  abbrev t : List Node
  t = nodes_in vs ls hs count

  abbrev w : ℕ
  w = get_or vs k 0

  abbrev l : ℕ
  l = get_or ls k 0

  abbrev h : ℕ
  h = get_or hs k 0

  H : Here vs ls hs count k
  H = here vs ls hs count R k two inside

  within : w ≤ n
  within = top_within n vs ls hs count R narrow k two inside

  -- a side's variable comes after the node's
  pub sides-after : (2 ≤ l → w + 1 ≤ get_or vs l 0) × (2 ≤ h → w + 1 ≤ get_or vs h 0)
  sides-after =
      let F : Fits t k (at t k) = (ordered-in vs ls hs count R).fits k two (omega (arith, length-in vs ls hs count R)) in
      let e = node_in vs ls hs count R k inside in (
        λ p. side l (omega (arith, H.low-less)) ((rw e at F.above_low) p),
        λ p. side h (omega (arith, H.high-less)) ((rw e at F.above-high) p),
      )
    where
      side : (j : ℕ) → j < count → w < (at t j).var → w + 1 ≤ get_or vs j 0
      side j p less = let q : w < get_or vs j 0 = rw (node_in vs ls hs count R j p) at less in omega arith

  module _ (from : ℕ) (alive : Literals) (a : Literals) (least : 1 ≤ from) (reached : from ≤ w)
      (is : a ≡ struck_to n alive from (past w l) (past w h)) where
    has_left : (v : ℕ) (s : Bool) → 1 ≤ v → v ≤ n → has a v s ≡ (has alive v s && (ltb v from || leb (past w (cond s l h)) v))
    has_left v s lo hi =
        ap (λ (u : Literals). has u v s) is
        ∙ has-struck n alive from (past w l) (past w h) v s least (omega (arith, H.least, past-least w l))
        (omega (arith, within, past-most w l))
        (omega (arith, H.least, past-least w h)) (omega (arith, within, past-most w h)) lo hi
        ∙ ap (λ (x : ℕ). has alive v s && (ltb v from || leb x v)) (side s)
      where
        side : (s : Bool) → cond s (past w l) (past w h) ≡ past w (cond s l h)
        side true = refl
        side false = refl

    -- a literal that the node's own variable does not leave is no unit
    no-unit : (v : ℕ) (s : Bool) → 1 ≤ v → v ≤ n → leb (past w (cond s l h)) v ≡ false → is_unit n (diagram_at t k) v s ≡ false
    no-unit v s lo hi e =
        unit-edges n vs ls hs count R narrow k two inside v s lo hi
        ∙ ap (λ (x : Bool). x && ((ltb v (w + 1) || is_unit n (diagram_at t l) v s) && (ltb v (w + 1) || is_unit n (diagram_at t h) v s))) e

    pub marked-here : (memo : List ℕ) (stamp : ℕ) → Marked n memo t stamp alive → Marked n memo t stamp a
    unfolding Marked
    marked-here memo stamp M j p e v s lo hi above x =
        M j p e v s lo hi above (and_both (has alive v s) (ltb v from || leb (past w (cond s l h)) v) (sym (has_left v s lo hi) ∙ x)).0

    -- both sides are walked
    pub struck-node : (b c : Literals) → Struck n t l (w + 1) a b → Struck n t h (w + 1) b c → Struck n t k from alive c
    unfolding Struck
    struck-node b c B C v s lo hi =
        C v s lo hi ∙ ap (λ (x : Bool). x && (ltb v (w + 1) || is_unit n (diagram_at t h) v s))
        (B v s lo hi ∙ ap (λ (x : Bool). x && (ltb v (w + 1) || is_unit n (diagram_at t l) v s)) (has_left v s lo hi))
        ∙ left_both (has alive v s) (ltb v from) (leb (past w (cond s l h)) v) (ltb v (w + 1)) (is_unit n (diagram_at t l) v s)
        (is_unit n (diagram_at t h) v s)
        (λ e. lt-ltb v (w + 1) (omega (arith, ltb-true v from e)))
        ∙ ap (λ (x : Bool). has alive v s && (ltb v from || x)) (sym (unit-edges n vs ls hs count R narrow k two inside v s lo hi))

    -- the node is marked
    pub struck-marked : (memo : List ℕ) (stamp : ℕ) → Marked n memo t stamp alive → get_or memo k 0 ≡ stamp → Struck n t k from alive a
    unfolding Struck Marked
    struck-marked memo stamp M e v s lo hi =
        has_left v s lo hi
        ∙ left-marked (has alive v s) (ltb v from) (leb (past w (cond s l h)) v) (is_unit n (diagram_at t k) v s) (no-unit v s lo hi)
        (λ x y. M k (omega (arith, length-in vs ls hs count R)) e v s lo hi (above y) x)
      where
        above : leb (past w (cond s l h)) v ≡ true → (at t k).var ≤ v
        above y = rw (node_in vs ls hs count R k inside) (omega (arith, leb-true (past w (cond s l h)) v y, past-least w (cond s l h)))

    -- nothing is alive
    pub struck-none : bit_or a.positive a.negative ≡ 0 → Struck n t k from alive a
    unfolding Struck
    struck-none e v s lo hi =
        has_left v s lo hi
        ∙ left-none (has alive v s) (ltb v from) (leb (past w (cond s l h)) v) (is_unit n (diagram_at t k) v s) (no-unit v s lo hi)
        (sym (has_left v s lo hi) ∙ has-none a e v s)

  -- the node is done with
  pub marked-stored : (from : ℕ) (alive left : Literals) (memo : List ℕ) (stamp : ℕ) → from ≤ w → k < length memo →
      Struck n t k from alive left → Marked n memo t stamp left
      → Marked n (set memo k stamp) t stamp left
  unfolding Marked Struck
  marked-stored from alive left memo stamp reached room S M =
      stored (λ j x. j < length t → x ≡ stamp → (v : ℕ) (s : Bool) → 1 ≤ v → v ≤ n → (at t j).var ≤ v → has left v s ≡ true →
      is_unit n (diagram_at t j) v s ≡ true) memo k stamp room
      (λ _ _ v s lo hi above x. unit v s lo hi (rw (node_in vs ls hs count R k inside) at above) x) (λ j _. M j)
    where
      unit : (v : ℕ) (s : Bool) → 1 ≤ v → v ≤ n → w ≤ v → has left v s ≡ true → is_unit n (diagram_at t k) v s ≡ true
      unit v s lo hi above x =
          let y : (ltb v from || is_unit n (diagram_at t k) v s) ≡ true =
          (and_both (has alive v s) (ltb v from || is_unit n (diagram_at t k) v s) (sym (S v s lo hi) ∙ x)).1 in
          sym (ap (λ (z : Bool). z || is_unit n (diagram_at t k) v s) (le-ltb v from (omega arith))) ∙ y
