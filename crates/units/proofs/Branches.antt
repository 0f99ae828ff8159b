-- U of a node from those of its two sides. The idea: the branchwise U is the literal one, a side is 0 exactly where its number is, and a
-- variable that is not in a diagram has no unit in it. Assumes nothing.
use mathlib.Core.Path.{◌≡◌, refl, sym, ap, ap₂, ◌∙◌}
use mathlib.Core.Logic.{◌≢◌}
use mathlib.Core.Bool.{Bool, true, false, ◌&&◌, ◌||◌, cond}
use mathlib.Core.List.{List}
use Prim.Native.Nat.{ℕ, suc, ◌+◌, ◌≤◌, ◌<◌}
use native.Mathlib.Omega.{arith}
use lib.ListN.{length, get_or}
use lib.Dec.{eqb, ltb, leb}
use native.Mathlib.Decide.{ℕ_discrete, dec_lt}
use borrow.Author.Tests.{eqb-true, eq-eqb, ne_eqb, lt-ltb, le-ltb, le-leb, lt-leb}
use Rattle.meaning.specs.Diagram.{Diagram, leaf, node, same, same?}
use Rattle.meaning.specs.Reduced.{Reduced}
use Rattle.meaning.specs.Operations.{is_unit}
use Rattle.meaning.specs.Branchwise.{unit_at}
use Rattle.meaning.proofs.Booleans.{t≢f, both_ways, and-false, or_right}
use Rattle.meaning.proofs.Units.{is_unit-is, same-eq, eq-same}
use Rattle.table.specs.Nodes.{Node, at, diagram_at}
use Rattle.table.proofs.Order.{Ordered}
use Rattle.table.proofs.Numbers.{diagram_at-zero, diagram_at-one, diagram_at-node, diagram_at-injective, diagram_at-reduced}
use Rattle.walks.specs.Readable.{Readable, nodes_in}
use Rattle.walks.proofs.Here.{Here, here, node_in, ordered-in, length-in}
use Rattle.units.specs.Units.{past, OfVariables}

-- ---- the constants

pub zero-units : (n : ℕ) (t : List Node) (v : ℕ) (s : Bool) → 1 ≤ v → v ≤ n → is_unit n (diagram_at t 0) v s ≡ true
unfolding unit_at
zero-units n t v s p q = ap (λ (d : Diagram). is_unit n d v s) (diagram_at-zero t) ∙ is_unit-is n (leaf false) v s tt p q

pub one-units : (n : ℕ) (t : List Node) (v : ℕ) (s : Bool) → 1 ≤ v → v ≤ n → is_unit n (diagram_at t 1) v s ≡ false
unfolding unit_at
one-units n t v s p q = ap (λ (d : Diagram). is_unit n d v s) (diagram_at-one t) ∙ is_unit-is n (leaf true) v s tt p q

-- a variable before all of a diagram has no unit in it, unless it is 0
unit-absent : (f : Diagram) (i e v : ℕ) (s : Bool) → Reduced i e f → f ≢ leaf false → v < i → unit_at f v s ≡ false
unfolding unit_at
unit-absent (leaf true) i e v s o n p = refl
unit-absent (leaf false) i e v s o n p = absurd (n refl)
unit-absent (node w l h) i e v s o n p =
    rw (ne_eqb w v (λ q. absurd (omega arith)))
    (sides (same? l (leaf false)) (λ d. unit-absent l (suc w) e v s o.3 d (omega arith))
    (λ d. unit-absent h (suc w) e v s o.4 d (omega arith)))
  where
    sides : Dec (l ≡ leaf false) → (l ≢ leaf false → unit_at l v s ≡ false) → (h ≢ leaf false → unit_at h v s ≡ false) →
        ((unit_at l v s && unit_at h v s) || false) ≡ false
    sides (yes z) low high = rw (high (λ q. o.2 (z ∙ sym q)), and-false (unit_at l v s))
    sides (no d) low high = rw (low d)

-- ---- a node

-- a number's diagram is 0 exactly where the number is
zero_number : (t : List Node) → Ordered t → (k : ℕ) → k < length t → same (diagram_at t k) (leaf false) ≡ eqb k 0
zero_number t O k p = both_ways (same (diagram_at t k) (leaf false)) (eqb k 0)
    (λ e. eq-eqb k 0 (diagram_at-injective t O k 0 p (omega (arith, O.two))
    (same-eq (diagram_at t k) (leaf false) e ∙ sym (diagram_at-zero t))))
    (λ e. eq-same (diagram_at t k) (leaf false) (rw (eqb-true k 0 e) (diagram_at-zero t)))

past-zero : (v side : ℕ) → side ≡ 0 → past v side ≡ v
unfolding past
past-zero v side e = rw (eq-eqb side 0 e)

past-other : (v side : ℕ) → side ≢ 0 → past v side ≡ v + 1
unfolding past
past-other v side n = rw (ne_eqb side 0 n)

past-bounds : (v side : ℕ) → (v ≤ past v side) × (past v side ≤ v + 1)
past-bounds v side = go (ℕ_discrete side 0)
  where
    go : Dec (side ≡ 0) → (v ≤ past v side) × (past v side ≤ v + 1)
    go (yes e) = (omega (arith, past-zero v side e), omega (arith, past-zero v side e))
    go (no n) = (omega (arith, past-other v side n), omega (arith, past-other v side n))

pub past-least : (v side : ℕ) → v ≤ past v side
past-least v side = (past-bounds v side).0

pub past-most : (v side : ℕ) → past v side ≤ v + 1
past-most v side = (past-bounds v side).1

or-false : (x : Bool) → (x || false) ≡ x
or-false true = refl
or-false false = refl

-- nodes in good order are of 64 variables
pub of-64 : (vs ls hs : List ℕ) (count : ℕ) → Readable vs ls hs count → OfVariables 64 (nodes_in vs ls hs count)
of-64 vs ls hs count R = diagram_at-reduced (nodes_in vs ls hs count) (ordered-in vs ls hs count R)

module _ (n : ℕ) (vs ls hs : List ℕ) (count : ℕ) (R : Readable vs ls hs count) (narrow : OfVariables n (nodes_in vs ls hs count)) (k : ℕ)
    (two : 2 ≤ k) (inside : k < count) where
  abbrev t : List Node
  t = nodes_in vs ls hs count

  abbrev w : ℕ
  w = get_or vs k 0

  abbrev l : ℕ
  l = get_or ls k 0

  abbrev h : ℕ
  h = get_or hs k 0

  H : Here vs ls hs count k
  H = here vs ls hs count R k two inside

  O : Ordered t
  O = ordered-in vs ls hs count R

  within : (j : ℕ) → j < count → j < length t
  within j p = omega (arith, length-in vs ls hs count R)

  is-node : diagram_at t k ≡ node w (diagram_at t l) (diagram_at t h)
  is-node = rw (node_in vs ls hs count R k inside) at (diagram_at-node t O k two (within k inside))

  unit-of : (j v : ℕ) (s : Bool) → j < count → 1 ≤ v → v ≤ n → is_unit n (diagram_at t j) v s ≡ unit_at (diagram_at t j) v s
  unit-of j v s p lo hi = is_unit-is n (diagram_at t j) v s (narrow j (within j p)) lo hi

  pub unit-node : (v : ℕ) (s : Bool) → 1 ≤ v → v ≤ n
      → is_unit n (diagram_at t k) v s ≡ ((is_unit n (diagram_at t l) v s && is_unit n (diagram_at t h) v s)
      || (eqb w v && eqb (cond s l h) 0))
  unfolding unit_at
  unit-node v s lo hi =
      unit-of k v s inside lo hi ∙ ap (λ (d : Diagram). unit_at d v s) is-node ∙ branches s
      ∙ ap₂ (λ (x y : Bool). (x && y) || (eqb w v && eqb (cond s l h) 0)) (sym (unit-of l v s (omega (arith, H.low-less)) lo hi))
      (sym (unit-of h v s (omega (arith, H.high-less)) lo hi))
    where
      branches : (s : Bool) → unit_at (node w (diagram_at t l) (diagram_at t h)) v s
          ≡ ((unit_at (diagram_at t l) v s && unit_at (diagram_at t h) v s) || (eqb w v && eqb (cond s l h) 0))
      branches true = ap (λ (z : Bool). (unit_at (diagram_at t l) v true && unit_at (diagram_at t h) v true) || (eqb w v && z))
          (zero_number t O l (within l (omega (arith, H.low-less))))
      branches false = ap (λ (z : Bool). (unit_at (diagram_at t l) v false && unit_at (diagram_at t h) v false) || (eqb w v && z))
          (zero_number t O h (within h (omega (arith, H.high-less))))

  reduced : Reduced 1 (suc n) (node w (diagram_at t l) (diagram_at t h))
  reduced = rw is-node at (narrow k (within k inside))

  pub top_within : w ≤ n
  top_within = omega (arith, reduced.1)

  -- v's literal is no unit of a side that is not 0 where v is the node's variable or before it
  side-absent : (j v : ℕ) (s : Bool) → j < count → Reduced (suc w) (suc n) (diagram_at t j) → 1 ≤ v → v ≤ w → j ≢ 0 →
      is_unit n (diagram_at t j) v s ≡ false
  side-absent j v s p o lo hi some =
      unit-of j v s p lo (omega (arith, reduced.1))
      ∙ unit-absent (diagram_at t j) (suc w) (suc n) v s o
      (λ z. some (eqb-true j 0 (sym (zero_number t O j (within j p)) ∙ eq-same (diagram_at t j) (leaf false) z))) (omega arith)

  -- the units of the node are what its two edges leave
  pub unit-edges : (v : ℕ) (s : Bool) → 1 ≤ v → v ≤ n
      → is_unit n (diagram_at t k) v s
      ≡ (leb (past w (cond s l h)) v && ((ltb v (w + 1) || is_unit n (diagram_at t l) v s)
      && (ltb v (w + 1) || is_unit n (diagram_at t h) v s)))
  unit-edges v s lo hi = go (dec_lt v w) (ℕ_discrete v w) (ℕ_discrete (cond s l h) 0)
    where
      Ul : Bool
      Ul = is_unit n (diagram_at t l) v s

      Uh : Bool
      Uh = is_unit n (diagram_at t h) v s

      below : v < w → is_unit n (diagram_at t k) v s ≡ false
      below p =
          unit-of k v s inside lo hi ∙ ap (λ (d : Diagram). unit_at d v s) is-node
          ∙ unit-absent (node w (diagram_at t l) (diagram_at t h)) w (suc n) v s (omega arith, reduced.1, reduced.2, reduced.3, reduced.4)
          (λ e. let z : true ≡ false = cc in t≢f z) p

      -- at its own variable the side in which the literal is false has no unit unless it is 0
      neither : v ≡ w → (s : Bool) → cond s l h ≢ 0 → (is_unit n (diagram_at t l) v s && is_unit n (diagram_at t h) v s) ≡ false
      neither e true d = rw (side-absent l v true (omega (arith, H.low-less)) reduced.3 lo (omega arith) d)
      neither e false d =
          rw (side-absent h v false (omega (arith, H.high-less)) reduced.4 lo (omega arith) d)
          (and-false (is_unit n (diagram_at t l) v false))

      go : Dec (v < w) → Dec (v ≡ w) → Dec (cond s l h ≡ 0)
          → is_unit n (diagram_at t k) v s ≡ (leb (past w (cond s l h)) v && ((ltb v (w + 1) || Ul) && (ltb v (w + 1) || Uh)))
      go (yes p) e z =
          below p ∙ sym (ap (λ (x : Bool). x && ((ltb v (w + 1) || Ul) && (ltb v (w + 1) || Uh)))
          (lt-leb (past w (cond s l h)) v (omega (arith, past-least w (cond s l h)))))
      go (no p) (yes e) (yes z) =
          unit-node v s lo hi
          ∙ (rw (
            eq-eqb w v (sym e),
            eq-eqb (cond s l h) 0 z,
            past-zero w (cond s l h) z,
            le-leb w v (omega arith),
            lt-ltb v (w + 1) (omega arith),
          ) (or_right (Ul && Uh) true refl))
      go (no p) (yes e) (no d) =
          unit-node v s lo hi
          ∙ (rw (eq-eqb w v (sym e), ne_eqb (cond s l h) 0 d, past-other w (cond s l h) d, lt-leb (w + 1) v (omega arith), neither e s d))
      go (no p) (no d) z =
          unit-node v s lo hi
          ∙ (rw (
            ne_eqb w v (λ e. d (sym e)),
            le-leb (past w (cond s l h)) v (omega (arith, past-most w (cond s l h), d)),
            le-ltb v (w + 1) (omega (arith, d)),
          ) (or-false (Ul && Uh)))
