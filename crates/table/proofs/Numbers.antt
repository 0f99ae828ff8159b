-- Node numbers and their diagrams: a number's diagram is reduced and ordered, and in a table in good order two numbers are equal exactly
-- where their values are. The idea: children have smaller numbers, so induction on the number; no two nodes are alike. Assumes nothing.
use Rattle.std.proofs.Common.{◌≡◌, ℕ, zero, suc, ◌<◌, ◌≤◌, true, false, ◌↔◌, List, length, take, sym, refl, ap, ◌∙◌, ap₂, arith}
use Rattle.std.proofs.Common.{length-take-le, get_or-take}
use Rattle.meaning.specs.Diagram.{Assignment, leaf, node, value}
use Rattle.meaning.specs.Reduced.{Reduced}
use Rattle.meaning.proofs.Canonical.{unique}
use Rattle.table.specs.Nodes.{Node, blank, at, diagram_within, diagram_at}
use Rattle.table.proofs.Order.{same-node, Fits, Ordered, GoodPlaces}

-- ---- induction

pub strong {ℓ} : (P : ℕ → Type ℓ) → ((k : ℕ) → ((j : ℕ) → j < k → P j) → P k) → (k : ℕ) → P k
strong P step k = step k (below k)
  where
    below : (m j : ℕ) → j < m → P j
    below zero j h = absurd (omega arith)
    below (suc m) j h = step j (λ i p. below m i (omega arith))

-- A number is 0, 1 or from 2 on.
pub data Kind : ℕ → Type 0 where
  is_zero : Kind 0
  is_one : Kind 1
  from-two : {k : ℕ} → 2 ≤ k → Kind k

pub kind : (k : ℕ) → Kind k
kind zero = is_zero
kind (suc zero) = is_one
kind (suc (suc k)) = from-two {k = suc (suc k)} (omega arith)

-- ---- the equations of a number's diagram

pub diagram_at-zero : (t : List Node) → diagram_at t 0 ≡ leaf false
unfolding diagram_at
diagram_at-zero t = refl

pub diagram_at-one : (t : List Node) → diagram_at t 1 ≡ leaf true
unfolding diagram_at
diagram_at-one t = refl

-- any number of steps that is large enough gives the same
within_same : (t : List Node) → Ordered t → (f g k : ℕ) → k < f → k < g → k < length t → diagram_within f t k ≡ diagram_within g t k
unfolding diagram_within
within_same t O zero g k a b c = absurd (omega arith)
within_same t O (suc f) zero k a b c = absurd (omega arith)
within_same t O (suc f) (suc g) zero a b c = refl
within_same t O (suc f) (suc g) (suc zero) a b c = refl
within_same t O (suc f) (suc g) (suc (suc j)) a b c =
    let k : ℕ = suc (suc j) in
    let F : Fits t k (at t k) = O.fits k (omega arith) c in
    ap₂ (node (at t k).var) (within_same t O f g (at t k).low (omega arith) (omega arith) (omega arith))
    (within_same t O f g (at t k).high (omega arith) (omega arith) (omega arith))

pub diagram_at-node : (t : List Node) → Ordered t → (k : ℕ) → 2 ≤ k → k < length t
    → diagram_at t k ≡ node (at t k).var (diagram_at t (at t k).low) (diagram_at t (at t k).high)
unfolding diagram_at
diagram_at-node t O zero a b = absurd (omega arith)
diagram_at-node t O (suc zero) a b = absurd (omega arith)
diagram_at-node t O (suc (suc j)) a b =
    let k : ℕ = suc (suc j) in
    let F : Fits t k (at t k) = O.fits k a b in
    ap₂ (node (at t k).var) (within_same t O k (suc (at t k).low) (at t k).low F.low-less (omega arith) (omega arith))
    (within_same t O k (suc (at t k).high) (at t k).high F.high-less (omega arith) (omega arith))

-- ---- different numbers have different diagrams

abbrev Injective : List Node → ℕ → Type 0
Injective t j = (k : ℕ) → j < length t → k < length t → diagram_at t j ≡ diagram_at t k → j ≡ k

injective-step : (t : List Node) → Ordered t → (j : ℕ) → ((i : ℕ) → i < j → Injective t i) → Kind j → (k : ℕ) → Kind k → j < length t →
    k < length t
    → diagram_at t j ≡ diagram_at t k → j ≡ k
injective-step t O _ ih is_zero _ is_zero p q e = refl
injective-step t O _ ih is_zero _ is_one p q e = let z : ◌≡◌ {A = ℕ} 0 1 = cc (diagram_at-zero t, diagram_at-one t) in z
injective-step t O _ ih is_one _ is_zero p q e = let z : ◌≡◌ {A = ℕ} 1 0 = cc (diagram_at-zero t, diagram_at-one t) in z
injective-step t O _ ih is_one _ is_one p q e = refl
injective-step t O _ ih is_zero k (from-two b) p q e = cc (diagram_at-zero t, diagram_at-node t O k b q)
injective-step t O _ ih is_one k (from-two b) p q e = cc (diagram_at-one t, diagram_at-node t O k b q)
injective-step t O j ih (from-two a) _ is_zero p q e = cc (diagram_at-zero t, diagram_at-node t O j a p)
injective-step t O j ih (from-two a) _ is_one p q e = cc (diagram_at-one t, diagram_at-node t O j a p)
injective-step t O j ih (from-two a) k (from-two b) p q e =
    let J : Fits t j (at t j) = O.fits j a p in
    let K : Fits t k (at t k) = O.fits k b q in
    let nodes-equal : node (at t j).var (diagram_at t (at t j).low) (diagram_at t (at t j).high)
    ≡ node (at t k).var (diagram_at t (at t k).low) (diagram_at t (at t k).high) = sym (diagram_at-node t O j a p) ∙ e
    ∙ diagram_at-node t O k b q in
    let low : (at t j).low ≡ (at t k).low = ih (at t j).low J.low-less (at t k).low (omega arith) (omega arith) (cc) in
    let high : (at t j).high ≡ (at t k).high = ih (at t j).high J.high-less (at t k).high (omega arith) (omega arith) (cc) in
    O.alike j k a p b q (same-node (at t j) (at t k) (cc) low high)

pub diagram_at-injective : (t : List Node) → Ordered t → (j k : ℕ) → j < length t → k < length t → diagram_at t j ≡ diagram_at t k → j ≡ k
diagram_at-injective t O j k = strong (Injective t) (λ j ih k. injective-step t O j ih (kind j) k (kind k)) j k

-- ---- a number's diagram is reduced and ordered

-- No variable in use exceeds n.
abbrev pub UsesTo : ℕ → List Node → Type 0
UsesTo n t = (k : ℕ) → 2 ≤ k → k < length t → (at t k).var ≤ n

pub uses-64 : (t : List Node) → Ordered t → UsesTo 64 t
uses-64 t O k h p = (O.fits k h p).most

module _ (n : ℕ) (t : List Node) (O : Ordered t) (uses : UsesTo n t) where
  abbrev ReducedAt : ℕ → Type 0
  ReducedAt k = k < length t → (i : ℕ) → (2 ≤ k → i ≤ (at t k).var) → Reduced i (suc n) (diagram_at t k)

  reduced-step : (k : ℕ) → ((j : ℕ) → j < k → ReducedAt j) → Kind k → ReducedAt k
  reduced-step _ ih is_zero p i b = rw diagram_at-zero tt
  reduced-step _ ih is_one p i b = rw diagram_at-one tt
  reduced-step k ih (from-two a) p i b =
      let F : Fits t k (at t k) = O.fits k a p in
      let v : (at t k).var ≤ n = uses k a p in
      rw (diagram_at-node t O k a p) (
        b a,
        omega arith,
        (λ e. F.differ (diagram_at-injective t O (at t k).low (at t k).high (omega arith) (omega arith) e)),
        ih (at t k).low F.low-less (omega arith) (suc (at t k).var) F.above_low,
        ih (at t k).high F.high-less (omega arith) (suc (at t k).var) F.above-high,
      )

  -- from the node's own variable on
  pub reduced-from-to : (k : ℕ) → k < length t → (i : ℕ) → (2 ≤ k → i ≤ (at t k).var) → Reduced i (suc n) (diagram_at t k)
  reduced-from-to = strong ReducedAt (λ k ih. reduced-step k ih (kind k))

  pub reduced-to : (k : ℕ) → k < length t → Reduced 1 (suc n) (diagram_at t k)
  reduced-to k p = reduced-from-to k p 1 (λ a. (O.fits k a p).least)

module _ (t : List Node) (O : Ordered t) where
  pub diagram_at-reduced-from : (k : ℕ) → k < length t → (i : ℕ) → (2 ≤ k → i ≤ (at t k).var) → Reduced i 65 (diagram_at t k)
  diagram_at-reduced-from = reduced-from-to 64 t O (uses-64 t O)

  pub diagram_at-reduced : (k : ℕ) → k < length t → Reduced 1 65 (diagram_at t k)
  diagram_at-reduced = reduced-to 64 t O (uses-64 t O)

-- and where a number's diagram starts with variable v or later, so does the number's node
pub root-variable : (t : List Node) → Ordered t → (v e k : ℕ) → k < length t → Reduced v e (diagram_at t k) → 2 ≤ k → v ≤ (at t k).var
root-variable t O v e k p r h = go (rw (diagram_at-node t O k h p) at r)
  where
    go : Reduced v e (node (at t k).var (diagram_at t (at t k).low) (diagram_at t (at t k).high)) → v ≤ (at t k).var
    go q = q.0

-- ---- one number, one value

same-values : (n : ℕ) (t : List Node) → Ordered t → UsesTo n t → (j k : ℕ) → j < length t → k < length t
    → ((a : Assignment) → length a ≡ n → value (diagram_at t j) a ≡ value (diagram_at t k) a) → j ≡ k
same-values n t O uses j k p q h =
    diagram_at-injective t O j k p q (unique n 1 (suc n) (diagram_at t j) (diagram_at t k) (omega arith) (reduced-to n t O uses j p)
    (reduced-to n t O uses k q) h)

-- For any n that no variable in use exceeds.
pub numbers-equal-to : (n : ℕ) (rows : List Node) (count : ℕ) → GoodPlaces rows count → ((i : ℕ) → 2 ≤ i → i < count → (at rows i).var ≤ n)
    → (j k : ℕ) → j < count → k < count
    → (j ≡ k) ↔ ((a : Assignment) → length a ≡ n → value (diagram_at (take count rows) j) a ≡ value (diagram_at (take count rows) k) a)
numbers-equal-to n rows count G uses j k p q =
    let len : length (take count rows) ≡ count = length-take-le count rows G.within in (
      (λ same a _. ap (λ (i : ℕ). value (diagram_at (take count rows) i) a) same),
      same-values n (take count rows) G.ordered (λ i h l. rw (get_or-take count rows i blank (omega arith)) (uses i h (omega arith))) j k
          (omega arith) (omega arith),
    )

-- Demand 3, first part: in a table in good order two node numbers are equal exactly where their values are equal under every
-- assignment of the 64 variables.
pub numbers-equal : (rows : List Node) (count : ℕ) → GoodPlaces rows count → (j k : ℕ) → j < count → k < count
    → (j ≡ k) ↔ ((a : Assignment) → length a ≡ 64 → value (diagram_at (take count rows) j) a ≡ value (diagram_at (take count rows) k) a)
numbers-equal rows count G =
    numbers-equal-to 64 rows count G (λ i h l.
    let len : length (take count rows) ≡ count = length-take-le count rows G.within in
    rw (get_or-take count rows i blank (omega arith)) at (uses-64 (take count rows) G.ordered i h (omega arith)))
