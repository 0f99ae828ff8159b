-- The laws of the index: a head is the last node of its chain, a link the last of its chain before its place, and what the walk from
-- place 2 finds it finds among the places up to the last of the node's chain. The idea: no chain is a list; `last_in` says which place is
-- next. Assumes nothing.
use Rattle.std.proofs.Common.{◌≡◌, ℕ, zero, suc, ◌+◌, ◌-◌, ◌*◌, ◌%◌, ◌<◌, ◌≤◌, false, cond, eqb, List, [], ◌∷◌, ◌++◌, length, get_or, set}
use Rattle.std.proofs.Common.{sym, refl, ap, ◌∙◌, subst, mod-lt, arith, get_or-set_other, get_or-set_same, set-set, eq-eqb, ne_eqb}
use mathlib.Core.Option.{none, some}
use native.Mathlib.Decide.{ℕ_discrete}
use lib.Seq.{set-get_or}
use Rattle.table.specs.Nodes.{Node, at, alike, find_from, find}
use Rattle.table.specs.Index.{bucket, bucket_at}
use Rattle.table.specs.Indexed.{Index, index_made, insert, index_from}
use Rattle.table.proofs.Written.{length-index_from}
use Rattle.table.proofs.Zeros.{zeros-at}

pub bucket-less : (n v l h : ℕ) → 0 < n → bucket n v l h < n
unfolding bucket
bucket-less n v l h p = mod-lt ((v + l * 12582917 + h * 4256249) % 4294967296) p

-- ---- the last of a chain

-- Of the first j nodes (places 2 to j + 1) the last whose chain is b; 0 where there is none.
unfoldable pub last_in : (ℕ → ℕ) → ℕ → ℕ → ℕ
last_in f b zero = 0
last_in f b (suc j) = let before = last_in f b j in cond (eqb (f (suc (suc j))) b) (suc (suc j)) before

pub last-here : (f : ℕ → ℕ) (b j : ℕ) → f (suc (suc j)) ≡ b → last_in f b (suc j) ≡ suc (suc j)
unfolding last_in
last-here f b j e = rw (eq-eqb (f (suc (suc j))) b e)

pub last-before : (f : ℕ → ℕ) (b j : ℕ) → (f (suc (suc j)) ≡ b → ⊥) → last_in f b (suc j) ≡ last_in f b j
unfolding last_in
last-before f b j e = rw (ne_eqb (f (suc (suc j))) b e)

pub last_none : (f : ℕ → ℕ) (b : ℕ) → last_in f b zero ≡ 0
unfolding last_in
last_none f b = refl

pub record Last (f : ℕ → ℕ) (b j k : ℕ) : Type 0 where
  pub from : 2 ≤ k
  pub below : k < suc (suc j)
  pub is : f k ≡ b

pub last-is : (f : ℕ → ℕ) (b j : ℕ) → (last_in f b j ≡ 0 → ⊥) → Last f b j (last_in f b j)
last-is f b zero ne = absurd (ne (last_none f b))
last-is f b (suc j) ne =
    elim (ℕ_discrete (f (suc (suc j))) b) [
      | yes q ↦ subst (Last f b (suc j)) (sym (last-here f b j q)) (record { from = omega arith; below = omega arith; is = q })
      | no q ↦
          let s : last_in f b (suc j) ≡ last_in f b j = last-before f b j q in
          let r : Last f b j (last_in f b j) = last-is f b j (λ z. ne (s ∙ z)) in
          subst (Last f b (suc j)) (sym s) (record { from = r.from; below = omega (arith, r.below); is = r.is })
    ]

pub last_less : (f : ℕ → ℕ) (b j : ℕ) → last_in f b j < suc (suc j)
last_less f b j = elim (ℕ_discrete (last_in f b j) 0) [ yes q ↦ omega arith | no q ↦ (last-is f b j q).below ]

-- ---- heads and links

module _ (t : List Node) (n m : ℕ) where
  abbrev index : ℕ → Index
  index j = index_from t n m j

  abbrev chain : ℕ → ℕ
  chain k = bucket_at n t k

  index-suc : (j : ℕ) → index (suc j) ≡ insert (index j) (chain (suc (suc j))) (suc (suc j))
  unfolding index_from
  index-suc j = refl

  -- the last insertion
  pub index-last : (k : ℕ) → 2 ≤ k → index (k - 1) ≡ insert (index (k - 2)) (chain k) k
  index-last k two =
      let s : k - 1 ≡ suc (k - 2) = omega arith in
      let q : suc (suc (k - 2)) ≡ k = omega arith in
      ap index s ∙ index-suc (k - 2) ∙ ap (λ (i : ℕ). insert (index (k - 2)) (chain i) i) q

  heads-zero : (b : ℕ) → get_or (index zero).heads b 0 ≡ 0
  unfolding index_from
  heads-zero b = zeros-at n b

  links-zero : (k : ℕ) → get_or (index zero).links k 0 ≡ 0
  unfolding index_from
  links-zero k = zeros-at m k

  heads-same : (j b : ℕ) → b < n → chain (suc (suc j)) ≡ b → get_or (index (suc j)).heads b 0 ≡ suc (suc j)
  heads-same j b lt e =
      ap (λ (x : Index). get_or x.heads b 0) (index-suc j)
      ∙ rw e (get_or-set_same (index j).heads b (suc (suc j)) 0 (omega (arith, (length-index_from t n m j).0)))

  heads-other : (j b : ℕ) → (chain (suc (suc j)) ≡ b → ⊥) → get_or (index (suc j)).heads b 0 ≡ get_or (index j).heads b 0
  heads-other j b ne =
      ap (λ (x : Index). get_or x.heads b 0) (index-suc j)
      ∙ get_or-set_other (index j).heads (chain (suc (suc j))) b (suc (suc j)) 0 (λ q. ne (sym q))

  pub heads-is : (j b : ℕ) → b < n → get_or (index j).heads b 0 ≡ last_in chain b j
  heads-is zero b lt = heads-zero b ∙ sym (last_none chain b)
  heads-is (suc j) b lt =
      elim (ℕ_discrete (chain (suc (suc j))) b) [
        | yes q ↦ heads-same j b lt q ∙ sym (last-here chain b j q)
        | no q ↦ heads-other j b q ∙ heads-is j b lt ∙ sym (last-before chain b j q)
      ]

  links-same : (j : ℕ) → suc (suc j) < m → get_or (index (suc j)).links (suc (suc j)) 0 ≡ get_or (index j).heads (chain (suc (suc j))) 0
  links-same j lt =
      ap (λ (x : Index). get_or x.links (suc (suc j)) 0) (index-suc j)
      ∙ get_or-set_same (index j).links (suc (suc j)) (get_or (index j).heads (chain (suc (suc j))) 0) 0
      (omega (arith, (length-index_from t n m j).1))

  links-other : (j k : ℕ) → (k ≡ suc (suc j) → ⊥) → get_or (index (suc j)).links k 0 ≡ get_or (index j).links k 0
  links-other j k ne =
      ap (λ (x : Index). get_or x.links k 0) (index-suc j)
      ∙ get_or-set_other (index j).links (suc (suc j)) k (get_or (index j).heads (chain (suc (suc j))) 0) 0 ne

  pub links-is : 0 < n → (j k : ℕ) → suc j < m → 2 ≤ k → k < suc (suc j) → get_or (index j).links k 0 ≡ last_in chain (chain k) (k - 2)
  links-is p zero k lt two h = absurd (omega arith)
  links-is p (suc j) k lt two h =
      elim (ℕ_discrete k (suc (suc j))) [
        | yes q ↦
            let r : suc (suc j) - 2 ≡ j = omega arith in
            subst (λ (i : ℕ). get_or (index (suc j)).links i 0 ≡ last_in chain (chain i) (i - 2)) (sym q)
            (links-same j lt ∙ heads-is j (chain (suc (suc j))) (bucket-less n _ _ _ p) ∙ ap (last_in chain (chain (suc (suc j)))) (sym r))
        | no q ↦ links-other j k q ∙ links-is p j k (omega arith) two (omega (arith, q))
      ]

  -- past the nodes the links are 0
  links-rest : (j k : ℕ) → suc (suc j) ≤ k → get_or (index j).links k 0 ≡ 0
  links-rest zero k h = links-zero k
  links-rest (suc j) k h = links-other j k (λ q. omega arith) ∙ links-rest j k (omega arith)

-- the index looks only at the nodes
pub index_same : (t u : List Node) (n m j : ℕ) → ((k : ℕ) → k < suc (suc j) → at u k ≡ at t k) → index_from u n m j ≡ index_from t n m j
unfolding index_from
index_same t u n m zero same = refl
index_same t u n m (suc j) same =
    let before : index_from u n m j ≡ index_from t n m j = index_same t u n m j (λ k h. same k (omega arith)) in
    let here : bucket_at n u (suc (suc j)) ≡ bucket_at n t (suc (suc j)) =
    ap (λ (x : Node). bucket n x.var x.low x.high) (same (suc (suc j)) (omega arith)) in
    rw (before, here)

-- ---- an insertion taken back

abbrev pub remove : Index → ℕ → ℕ → Index
remove x b k = index_made (set x.heads b (get_or x.links k 0)) (set x.links k 0)

remove-insert : (x : Index) (b k : ℕ) → k < length x.links → get_or x.links k 0 ≡ 0 → remove (insert x b k) b k ≡ x
remove-insert x b k lt z =
    let e : get_or (insert x b k).links k 0 ≡ get_or x.heads b 0 = get_or-set_same x.links k (get_or x.heads b 0) 0 lt in
    let d : set (set x.heads b k) b (get_or x.heads b 0) ≡ x.heads = set-set x.heads b k (get_or x.heads b 0)
    ∙ set-get_or x.heads b 0 in
    let s : set (set x.links k (get_or x.heads b 0)) k 0 ≡ x.links =
    set-set x.links k (get_or x.heads b 0) 0 ∙ ap (set x.links k) (sym z) ∙ set-get_or x.links k 0 in
    ap (λ (y : ℕ). index_made (set (set x.heads b k) b y) (set (set x.links k (get_or x.heads b 0)) k 0)) e
    ∙ ap (λ (y : List ℕ). index_made y (set (set x.links k (get_or x.heads b 0)) k 0)) d ∙ ap (λ (y : List ℕ). index_made x.heads y) s

-- the index of the nodes below k + 1 without place k is that of the nodes below k
pub index-remove : (t : List Node) (n m k : ℕ) → 2 ≤ k → k < m → remove (index_from t n m (k - 1)) (bucket_at n t k) k
    ≡ index_from t n m (k - 2)
index-remove t n m k two lt =
    ap (λ (x : Index). remove x (bucket_at n t k) k) (index-last t n m k two)
    ∙ remove-insert (index_from t n m (k - 2)) (bucket_at n t k) k (omega (arith, (length-index_from t n m (k - 2)).1))
    (links-rest t n m (k - 2) k (omega arith))

-- ---- the walk from place 2

walk-miss : (i : ℕ) (ys : List Node) (y x : Node) → alike y x ≡ false → find_from i (ys ++ y ∷ []) x ≡ find_from i ys x
unfolding find_from
walk-miss i [] y x e = rw e
walk-miss i (z ∷ ys) y x e = ap (cond (alike z x) (some i)) (walk-miss (suc i) ys y x e)

-- a last place that does not hold the node does not matter
pub find-miss : (t : List Node) (y x : Node) → 2 ≤ length t → alike y x ≡ false → find (t ++ y ∷ []) x ≡ find t x
unfolding find
find-miss [] y x two e = absurd (omega arith)
find-miss (a ∷ []) y x two e = absurd (omega arith)
find-miss (a ∷ b ∷ t) y x two e = walk-miss 2 t y x e

pub find-short : (t : List Node) (x : Node) → length t ≤ 2 → find t x ≡ none
unfolding find find_from
find-short [] x h = refl
find-short (a ∷ []) x h = refl
find-short (a ∷ b ∷ []) x h = refl
find-short (a ∷ b ∷ c ∷ t) x h = absurd (omega arith)
