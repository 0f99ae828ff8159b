-- An index that passes the test is that of the nodes, and no two nodes are alike: each head is the last of its chain, each link the last of
-- its chain before its place. The idea: a walk is one path, so that of two places on it the greater one's walk comes to the other. Assumes
-- nothing.
use mathlib.Core.Path.{◌≡◌, refl, sym, ap, ◌∙◌, subst}
use mathlib.Core.Logic.{◌≢◌}
use Prim.Native.Nat.{ℕ, zero, suc, ◌-◌, ◌≤◌, ◌<◌}
use native.Mathlib.Omega.{arith}
use native.Mathlib.Decide.{ℕ_discrete}
use Rattle.table.proofs.Index.{last_in, last-is, last-here, last-before, Last}
use Rattle.good_order.specs.Tested.{Reaches, here, next}

-- the last of a chain is the greatest
last-greatest : (f : ℕ → ℕ) (b m j : ℕ) → 2 ≤ j → j < suc (suc m) → f j ≡ b → j ≤ last_in f b m
last-greatest f b zero j two lt e = absurd (omega arith)
last-greatest f b (suc m) j two lt e = elim (ℕ_discrete (f (suc (suc m))) b) [
  | yes q ↦ omega (arith, last-here f b m q)
  | no q ↦ elim (ℕ_discrete j (suc (suc m))) [
    | yes z ↦ absurd (q (subst (λ (x : ℕ). f x ≡ b) z e))
    | no z ↦ omega (arith, last-before f b m q, last-greatest f b m j two (omega (arith, z)) e)
  ]
]

-- What the test establishes. c: the count; n: the number of heads; f: a place's chain; h: the heads; l: the links.
pub record Tested (c n : ℕ) (f h l : ℕ → ℕ) (like : ℕ → ℕ → Type 0) : Type 0 where
  pub falls : (k : ℕ) → 2 ≤ k → k < c → l k < k
  pub linked : (k : ℕ) → 2 ≤ k → k < c → l k ≢ 0 → (2 ≤ l k) × (f (l k) ≡ f k)
  pub headed : (b : ℕ) → b < n → h b ≢ 0 → (2 ≤ h b) × (h b < c) × (f (h b) ≡ b)
  pub reached : (k : ℕ) → 2 ≤ k → k < c → Reaches l (λ j. like j k → ⊥) k (h (f k))

-- a walk only falls, as long as it is among the nodes
pub reach-least : (l : ℕ → ℕ) (P : ℕ → Type 0) (k j : ℕ) → Reaches l P k j → k ≤ j
reach-least l P k _ here = omega arith
reach-least l P k j (next lt p r) = omega arith

-- a right index has every node on the walk from the head of its chain: the last of the chain among those up to a place comes to all before
-- it
pub right-reaches : (c : ℕ) (f l : ℕ → ℕ) (P : ℕ → Type 0) (k : ℕ) → 2 ≤ k → ((j : ℕ) → k < j → j < c → P j)
    → ((j : ℕ) → 2 ≤ j → j < c → l j ≡ last_in f (f j) (j - 2))
    → (steps m : ℕ) → m < steps → suc (suc m) ≤ c → k < suc (suc m) → Reaches l P k (last_in f (f k) m)
right-reaches c f l P k two free links zero m lt le in' = absurd (omega arith)
right-reaches c f l P k two free links (suc steps) m lt le in' =
    let least : k ≤ last_in f (f k) m = last-greatest f (f k) m k two in' refl in
    elim (ℕ_discrete (last_in f (f k) m) k) [
      | yes z ↦ subst (Reaches l P k) (sym z) here
      | no z ↦
          let j : ℕ = last_in f (f k) m in
          let L : Last f (f k) m (last_in f (f k) m) = last-is f (f k) m (λ q. absurd (omega arith)) in
          next {j = last_in f (f k) m} (omega (arith, least, z))
          (free (last_in f (f k) m) (omega (arith, least, z)) (omega (arith, L.below)))
          (subst (Reaches l P k) (sym (links (last_in f (f k) m) L.from (omega (arith, L.below))
          ∙ ap (λ (b : ℕ). last_in f b (last_in f (f k) m - 2)) L.is))
          (right-reaches c f l P k two free links steps (last_in f (f k) m - 2) (omega (arith, L.below, L.from))
          (omega (arith, L.below, L.from)) (omega (arith, least, z))))
    ]

module _ (c n : ℕ) (f h l : ℕ → ℕ) (like : ℕ → ℕ → Type 0) (W : Tested c n f h l like) where
  -- of two places on one walk the greater one's walk comes to the other, and meets it as it passes
  onward : (P Q : ℕ → Type 0) (j k s : ℕ) → j < k → Reaches l P k s → Reaches l Q j s → Q k × Reaches l Q j (l k)
  onward P Q j k _ lt here here = absurd (omega arith)
  onward P Q j k _ lt here (next q met r) = (met, r)
  onward P Q j k _ lt (next p _ r) here = absurd (omega (arith, reach-least l P k _ r))
  onward P Q j k s lt (next p _ r) (next q met r') = onward P Q j k (l s) lt r r'

  abbrev Free : ℕ → ℕ → Type 0
  Free k j = like j k → ⊥

  -- each node is on the walk from the head of its chain
  from-head : (b k : ℕ) → 2 ≤ k → k < c → f k ≡ b → Reaches l (Free k) k (h b)
  from-head b k two lt e = subst (λ (x : ℕ). Reaches l (Free k) k (h x)) e (W.reached k two lt)

  -- ---- heads

  head-least : (b : ℕ) → 2 ≤ c → last_in f b (c - 2) ≤ h b
  head-least b two = elim (ℕ_discrete (last_in f b (c - 2)) 0) [
    | yes z ↦ omega arith
    | no z ↦ let L : Last f b (c - 2) (last_in f b (c - 2)) = last-is f b (c - 2) z in
        reach-least l (Free (last_in f b (c - 2))) (last_in f b (c - 2)) (h b)
        (from-head b (last_in f b (c - 2)) L.from (omega (arith, L.below)) L.is)
  ]

  head-most : (b : ℕ) → b < n → 2 ≤ c → h b ≤ last_in f b (c - 2)
  head-most b lt two = elim (ℕ_discrete (h b) 0) [
    | yes z ↦ omega arith
    | no z ↦ let H = W.headed b lt z in last-greatest f b (c - 2) (h b) H.0 (omega (arith, H.1)) H.2
  ]

  pub head-last : (b : ℕ) → b < n → 2 ≤ c → h b ≡ last_in f b (c - 2)
  head-last b lt two = omega (arith, head-least b two, head-most b lt two)

  -- ---- links

  module _ (k : ℕ) (two : 2 ≤ k) (lt : k < c) where
    link-most : l k ≤ last_in f (f k) (k - 2)
    link-most = elim (ℕ_discrete (l k) 0) [
      | yes z ↦ omega arith
      | no z ↦ let H = W.linked k two lt z in last-greatest f (f k) (k - 2) (l k) H.0 (omega (arith, W.falls k two lt)) H.1
    ]

    link-least : last_in f (f k) (k - 2) ≤ l k
    link-least = elim (ℕ_discrete (last_in f (f k) (k - 2)) 0) [
      | yes z ↦ omega arith
      | no z ↦
          let L : Last f (f k) (k - 2) (last_in f (f k) (k - 2)) = last-is f (f k) (k - 2) z in
          let j : ℕ = last_in f (f k) (k - 2) in
          reach-least l (Free j) j (l k) (onward (Free k) (Free j) j k (h (f k)) (omega (arith, L.below)) (W.reached k two lt)
          (from-head (f k) j L.from (omega (arith, L.below)) L.is)).1
    ]

    pub link-last : l k ≡ last_in f (f k) (k - 2)
    link-last = omega (arith, link-least, link-most)

  -- ---- no two nodes alike

  pub none_alike : (j k : ℕ) → 2 ≤ j → j < k → k < c → f j ≡ f k → like k j → ⊥
  none_alike j k two lt inside e a =
      (onward (Free k) (Free j) j k (h (f k)) lt (W.reached k (omega arith) inside) (from-head (f k) j two (omega arith) e)).0 a
