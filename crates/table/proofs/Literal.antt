-- The index by insertion is the literal one, and looking up by it finds what the walk from place 2 finds. The idea: the highest node of a
-- chain below a place is the last one inserted before it; the rest is Chain. Assumes nothing.
use Rattle.std.proofs.Common.{◌≡◌, ℕ, zero, suc, ◌+◌, ◌-◌, ◌*◌, ◌<◌, ◌≤◌, Bool, true, false, cond, eqb, ltb, ◌⊎◌, List, [], ◌∷◌, length}
use Rattle.std.proofs.Common.{get_or, sym, refl, ap, ◌∙◌, ap₂, inl, inr, arith, get_or-set_other, ext_get_or, le-ltb, lt-ltb, eq-eqb}
use Rattle.std.proofs.Common.{ne_eqb, eqb-true, le-leb}
use mathlib.Core.Option.{none, some}
use native.Mathlib.Decide.{ℕ_discrete, dec_lt}
use Rattle.table.specs.Nodes.{Node, node_of, at, alike, find}
use Rattle.table.specs.Index.{bucket, bucket_at, highest, listed_from, heads_of, links_of, same_numbers}
use Rattle.table.specs.Lookup.{chain_from, find_by_index}
use Rattle.table.specs.Indexed.{index_from, index_of, Table, nodes_of, Good}
use Rattle.meaning.proofs.Booleans.{t≢f, and_both}
use Rattle.table.proofs.Zeros.{zeros-at}
use Rattle.table.proofs.Order.{both_true}
use Rattle.table.proofs.Written.{length-index_from, length-nodes}
use Rattle.table.proofs.Index.{last_in, last_none, heads-is, links-is}
use Rattle.table.proofs.Chain.{node_at, Chain, chain-start, chain-less, chain_next, chain-hit, chain-end}

-- ---- lists of numbers

pub same_true : (xs ys : List ℕ) → same_numbers xs ys ≡ true → xs ≡ ys
unfolding same_numbers
same_true [] [] e = refl
same_true [] (y ∷ ys) e = t≢f (sym e)
same_true (x ∷ xs) [] e = t≢f (sym e)
same_true (x ∷ xs) (y ∷ ys) e =
    let p = and_both (eqb x y) (same_numbers xs ys) e in ap₂ ◌∷◌ (eqb-true x y p.0) (same_true xs ys p.1)

same_self : (xs : List ℕ) → same_numbers xs xs ≡ true
unfolding same_numbers
same_self [] = refl
same_self (x ∷ xs) = both_true (eqb x x) (same_numbers xs xs) (eq-eqb x x refl) (same_self xs)

pub true_same : (xs ys : List ℕ) → xs ≡ ys → same_numbers xs ys ≡ true
true_same xs ys e = ap (λ (zs : List ℕ). same_numbers xs zs) (sym e) ∙ same_self xs

-- ---- the heads are literal

module _ (n : ℕ) (t : List Node) (b : ℕ) where
  highest-none : highest n t b 2 ≡ 0
  unfolding highest
  highest-none = refl

  highest-suc : (k : ℕ) → 2 ≤ k → highest n t b (suc k) ≡ cond (eqb (bucket_at n t k) b) k (highest n t b k)
  unfolding highest
  highest-suc k two = rw (le-leb 2 k two)

  last-suc : (j : ℕ) → last_in (bucket_at n t) b (suc j) ≡ cond (eqb (bucket_at n t (suc (suc j))) b) (suc (suc j))
      (last_in (bucket_at n t) b j)
  unfolding last_in
  last-suc j = refl

  pub highest-last : (j : ℕ) → highest n t b (suc (suc j)) ≡ last_in (bucket_at n t) b j
  highest-last zero = highest-none ∙ sym (last_none (bucket_at n t) b)
  highest-last (suc j) =
      highest-suc (suc (suc j)) (omega arith) ∙ ap (λ (m : ℕ). cond (eqb (bucket_at n t (suc (suc j))) b) (suc (suc j)) m) (highest-last j)
      ∙ sym (last-suc j)

pub highest-few : (n : ℕ) (t : List Node) (b k : ℕ) → k < 2 → highest n t b k ≡ 0
unfolding highest
highest-few n t b zero h = refl
highest-few n t b (suc zero) h = refl
highest-few n t b (suc (suc k)) h = absurd (omega arith)

pub length-listed : (i n : ℕ) (f : ℕ → ℕ) → length (listed_from i n f) ≡ n
unfolding listed_from
length-listed i zero f = refl
length-listed i (suc n) f = ap suc (length-listed (suc i) n f)

pub listed_at : (i n : ℕ) (f : ℕ → ℕ) (k : ℕ) → k < n → get_or (listed_from i n f) k 0 ≡ f (i + k)
unfolding listed_from
listed_at i zero f k p = absurd (omega arith)
listed_at i (suc n) f zero p = ap f (omega arith)
listed_at i (suc n) f (suc k) p = listed_at (suc i) n f k (omega arith) ∙ ap f (omega arith)

pub heads-literal : (s : ℕ) (t : List Node) → 2 ≤ length t → (index_of s t).heads ≡ heads_of s t
unfolding heads_of
heads-literal s t two =
    ext_get_or 0 (index_of s t).heads (heads_of s t) ((length-index_from t (2 * s) s (length t - 2)).0 ∙ sym (length-listed 0 (2 * s) _))
    (λ b p.
    let q : b < 2 * s = omega (arith, (length-index_from t (2 * s) s (length t - 2)).0) in
    let z : length t ≡ suc (suc (length t - 2)) = omega arith in
    let y : 0 + b ≡ b = omega arith in
    heads-is t (2 * s) s (length t - 2) b q ∙ sym
    (listed_at 0 (2 * s) (λ b. highest (2 * s) t b (length t)) b q ∙ rw y
    (ap (highest (2 * s) t b) z ∙ highest-last (2 * s) t b (length t - 2))))

-- ---- the links are literal

-- places that hold no node have no link
unlinked : (t : List Node) (n m j k : ℕ) → (k < 2) ⊎ (suc (suc j) ≤ k) → get_or (index_from t n m j).links k 0 ≡ 0
unfolding index_from
unlinked t n m zero k out = zeros-at m k
unlinked t n m (suc j) k (inl lt) =
    get_or-set_other (index_from t n m j).links (suc (suc j)) k (get_or (index_from t n m j).heads (bucket_at n t (suc (suc j))) 0) 0
    (λ q. omega arith)
    ∙ unlinked t n m j k (inl lt)
unlinked t n m (suc j) k (inr le) =
    get_or-set_other (index_from t n m j).links (suc (suc j)) k (get_or (index_from t n m j).heads (bucket_at n t (suc (suc j))) 0) 0
    (λ q. omega arith)
    ∙ unlinked t n m j k (inr (omega arith))

module _ (s : ℕ) (t : List Node) (two : 2 ≤ length t) (room : length t ≤ s) where
  listed : (k : ℕ) → k < s → get_or (links_of s t) k 0 ≡ cond (ltb k (length t)) (highest (2 * s) t (bucket_at (2 * s) t k) k) 0
  unfolding links_of
  listed k lt =
      let y : 0 + k ≡ k = omega arith in
      listed_at 0 s (λ k. cond (ltb k (length t)) (highest (2 * s) t (bucket_at (2 * s) t k) k) 0) k lt ∙ rw y

  length-links_of : length (links_of s t) ≡ s
  unfolding links_of
  length-links_of = length-listed 0 s (λ k. cond (ltb k (length t)) (highest (2 * s) t (bucket_at (2 * s) t k) k) 0)

  inner : (k : ℕ) → 2 ≤ k → k < length t → get_or (index_of s t).links k 0 ≡ get_or (links_of s t) k 0
  inner k from lt =
      let z : k ≡ suc (suc (k - 2)) = omega arith in
      links-is t (2 * s) s (omega arith) (length t - 2) k (omega arith) from (omega arith)
      ∙ sym (listed k (omega arith) ∙ rw (lt-ltb k (length t) lt)
      (ap (highest (2 * s) t (bucket_at (2 * s) t k)) z ∙ highest-last (2 * s) t (bucket_at (2 * s) t k) (k - 2)))

  link_at : (k : ℕ) → k < s → get_or (index_of s t).links k 0 ≡ get_or (links_of s t) k 0
  link_at k lt = elim (dec_lt k 2) [
    | yes a ↦ unlinked t (2 * s) s (length t - 2) k (inl a)
        ∙ sym (listed k lt ∙ rw (lt-ltb k (length t) (omega arith)) (highest-few (2 * s) t (bucket_at (2 * s) t k) k a))
    | no a ↦ elim (dec_lt k (length t)) [
      | yes b ↦ inner k (omega (arith, a)) b
      | no b ↦ unlinked t (2 * s) s (length t - 2) k (inr (omega (arith, b)))
          ∙ sym (listed k lt ∙ rw (le-ltb k (length t) (omega (arith, b))))
    ]
  ]

  pub links-literal : (index_of s t).links ≡ links_of s t
  links-literal =
      ext_get_or 0 (index_of s t).links (links_of s t) ((length-index_from t (2 * s) s (length t - 2)).1 ∙ sym length-links_of)
      (λ k p. link_at k (omega (arith, (length-index_from t (2 * s) s (length t - 2)).1)))

-- ---- looking up

module _ (T : Table) (G : Good T) (x : Node) where
  abbrev t : List Node
  t = nodes_of T

  chain-zero : (steps k : ℕ) → k ≡ 0 → chain_from steps T.links t k x ≡ none
  unfolding chain_from
  chain-zero zero k e = refl
  chain-zero (suc steps) k e = rw (eq-eqb k 0 e)

  chain-step : (steps k : ℕ) → (k ≡ 0 → ⊥) → chain_from (suc steps) T.links t k x
      ≡ cond (alike (at t k) x) (some k) (chain_from steps T.links t (get_or T.links k 0) x)
  unfolding chain_from
  chain-step steps k ne = rw (ne_eqb k 0 ne)

  found : (steps k : ℕ) → k < steps → Chain T x k → chain_from steps T.links t k x ≡ find t x
  found zero k p C = absurd (omega arith)
  found (suc steps) k p C = elim (ℕ_discrete k 0) [
    | yes z ↦ chain-zero (suc steps) k z ∙ sym (chain-end T G x k z C)
    | no z ↦ chain-step steps k z ∙ go (alike (at t k) x) refl z
        (λ C'. found steps (get_or T.links k 0) (omega (arith, chain-less T G x k z C)) C')
  ]
    where
      here : (b : Bool) → alike (at t k) x ≡ b → alike (node_of (get_or T.vars k 0) (get_or T.lows k 0) (get_or T.highs k 0)) x ≡ b
      here b e = ap (λ (y : Node). alike y x) (sym (node_at T G k C.below)) ∙ e

      go : (b : Bool) → alike (at t k) x ≡ b → (ne : k ≡ 0 → ⊥) →
          (Chain T x (get_or T.links k 0) → chain_from steps T.links t (get_or T.links k 0) x ≡ find t x)
          → cond b (some k) (chain_from steps T.links t (get_or T.links k 0) x) ≡ find t x
      go true e ne ih = sym (chain-hit T G x k ne C (here true e))
      go false e ne ih = ih (chain_next T G x k ne C (here false e))

  -- "lookup by index and by a walk from place 2 agree on every table in good order"
  pub lookup-agrees : find_by_index T.heads T.links t x ≡ find t x
  unfolding find_by_index
  lookup-agrees =
      let C = chain-start T G x (bucket (length T.heads) x.var x.low x.high) refl in
      found (length t) (get_or T.heads (bucket (length T.heads) x.var x.low x.high) 0)
      (omega (arith, C.below, length-nodes T G)) C
