-- Placing a reduced diagram: good order is kept, the nodes are extended, the number given has that diagram, and `full` is given only with
-- every place taken. A diagram that is there is found again. The idea: a predicate on the outcome, by induction on the diagram. Assumes
-- nothing.
use Rattle.std.proofs.Common.{◌≡◌, ℕ, zero, suc, ◌+◌, ◌-◌, ◌<◌, ◌≤◌, Bool, true, false, cond, ltb, ◌≢◌, List, [], ◌∷◌, ◌++◌, length, drop}
use Rattle.std.proofs.Common.{sym, refl, ap, ◌∙◌, arith, length-drop, get_or-drop, ltb-false, ltb-true, eq-eqb, ne_eqb}
use mathlib.Core.Option.{Option, none, some}
use native.Mathlib.Decide.{ℕ_discrete}
use Rattle.meaning.specs.Diagram.{Diagram, leaf, node, branch}
use Rattle.meaning.specs.Reduced.{Reduced}
use Rattle.meaning.proofs.Canonical.{reduced-from, branch_same, branch_differ}
use Rattle.table.specs.Nodes.{Node, node_of, blank, at, alike, diagram_at, Placing, full, placed, find_from, find, or_append, put}
use Rattle.table.specs.Nodes.{and_then, place}
use Rattle.table.proofs.Order.{alike-true, alike-false, Fits, Ordered}
use Rattle.table.proofs.Numbers.{strong, Kind, is_zero, is_one, from-two, kind, diagram_at-zero, diagram_at-one, diagram_at-node}
use Rattle.table.proofs.Numbers.{diagram_at-injective, root-variable}
use Rattle.table.proofs.Growth.{Extends, extends-same, extends-trans, extends-length, diagram_at-grown, at_new, length-new}
use Rattle.table.proofs.Growth.{ordered-more}

-- ---- finding

abbrev FoundFrom : ℕ → List Node → Node → Option ℕ → Type 0
FoundFrom i ys x none = (k : ℕ) → k < length ys → at ys k ≢ x
FoundFrom i ys x (some m) = (k : ℕ) × (m ≡ i + k) × (k < length ys) × (at ys k ≡ x)

found_from : (i : ℕ) (ys : List Node) (x : Node) → FoundFrom i ys x (find_from i ys x)
unfolding find_from
found_from i [] x = λ k p. absurd (omega arith)
found_from i (y ∷ ys) x = go (alike y x) refl (find_from (suc i) ys x) (found_from (suc i) ys x)
  where
    go : (b : Bool) → alike y x ≡ b → (o : Option ℕ) → FoundFrom (suc i) ys x o → FoundFrom i (y ∷ ys) x (cond b (some i) o)
    go true e o f = (0, omega arith, omega arith, alike-true y x e)
    go false e none f = λ k. elim k as (λ k. k < length (y ∷ ys) → at (y ∷ ys) k ≢ x)
        [ zero ↦ λ p. alike-false y x e | suc k' ↦ λ p. f k' (omega arith) ]
    go false e (some m) f = (suc f.0, omega arith, omega arith, f.3)

-- What `find` says of a node: no place from 2 on has it, or the one given.
abbrev pub Found : List Node → Node → Option ℕ → Type 0
Found t x none = (k : ℕ) → 2 ≤ k → k < length t → at t k ≢ x
Found t x (some m) = (2 ≤ m) × (m < length t) × (at t m ≡ x)

pub found : (t : List Node) (x : Node) → Found t x (find t x)
unfolding find
found t x = go (find_from 2 (drop 2 t) x) (found_from 2 (drop 2 t) x)
  where
    go : (o : Option ℕ) → FoundFrom 2 (drop 2 t) x o → Found t x o
    go none f = λ k h p e. f (k - 2) (omega (arith, length-drop 2 t)) (get_or-drop 2 t (k - 2) blank ∙ ap (at t) (omega arith) ∙ e)
    go (some m) f =
        (omega arith, omega (arith, length-drop 2 t), ap (at t) f.1 ∙ sym (get_or-drop 2 t f.0 blank) ∙ f.3)

-- ---- putting

pub put_same : (s : ℕ) (t : List Node) (v l h : ℕ) → l ≡ h → put s t v l h ≡ placed t l
unfolding put
put_same s t v l h e = rw (eq-eqb l h e)

pub put-differ : (s : ℕ) (t : List Node) (v l h : ℕ) → l ≢ h → put s t v l h ≡ or_append s t (node_of v l h) (find t (node_of v l h))
unfolding put
put-differ s t v l h n = rw (ne_eqb l h n)

-- ---- what placing leaves and gives

-- The nodes t' that a placing in t leaves.
pub record Kept (s : ℕ) (t t' : List Node) : Type 0 where
  pub ordered : Ordered t'
  pub extends : Extends t t'
  pub room : length t ≤ s → length t' ≤ s

-- Where it gives `full`: "only where [..] the count equals the size".
pub record Filled (s : ℕ) (t t' : List Node) : Type 0 where
  pub kept : Kept s t t'
  pub no_room : length t ≤ s → length t' ≡ s

-- Where it gives the number k.
pub record Made (s : ℕ) (t : List Node) (D : Diagram) (t' : List Node) (k : ℕ) : Type 0 where
  pub kept : Kept s t t'
  pub inside : k < length t'
  pub is : diagram_at t' k ≡ D

abbrev pub After : ℕ → List Node → Diagram → Placing → Type 0
After s t D (full t') = Filled s t t'
After s t D (placed t' k) = Made s t D t' k

kept_same : (s : ℕ) (t : List Node) → Ordered t → Kept s t t
kept_same s t O = record { ordered = O; extends = extends-same t; room = λ h. h }

kept_trans : (s : ℕ) (t t' t'' : List Node) → Kept s t t' → Kept s t' t'' → Kept s t t''
kept_trans s t t' t'' K L = record {
  ordered = L.ordered;
  extends = extends-trans t t' t'' K.extends L.extends;
  room =
      λ h. L.room (K.room h);
}

-- What comes after nodes that were kept.
after_kept : (s : ℕ) (t t' : List Node) (D : Diagram) (p : Placing) → Kept s t t' → After s t' D p → After s t D p
after_kept s t t' D (full t'') K A = record { kept = kept_trans s t t' t'' K A.kept; no_room = λ h. A.no_room (K.room h) }
after_kept s t t' D (placed t'' k) K A = record { kept = kept_trans s t t' t'' K A.kept; inside = A.inside; is = A.is }

module _ (s : ℕ) (t : List Node) (O : Ordered t) (v a b : ℕ) (pa : a < length t) (pb : b < length t) (pv : 1 ≤ v)
    (o : Reduced v 65 (node v (diagram_at t a) (diagram_at t b))) where
  abbrev D : Diagram
  D = node v (diagram_at t a) (diagram_at t b)

  new-fits : Fits t (length t) (node_of v a b)
  new-fits =
      record {
        least = pv;
        most = omega arith;
        low-less = pa;
        high-less = pb;
        above_low = root-variable t O (suc v) 65 a pa o.3;
        above-high = root-variable t O (suc v) 65 b pb o.4;
        differ = λ e. o.2 (ap (diagram_at t) e);
      }

  new-made : ((k : ℕ) → 2 ≤ k → k < length t → at t k ≢ node_of v a b) → length t < s → Made s t D (t ++ node_of v a b ∷ []) (length t)
  new-made new p =
      let O' : Ordered (t ++ node_of v a b ∷ []) = ordered-more t (node_of v a b) O new-fits new in
      let E : Extends t (t ++ node_of v a b ∷ []) = (node_of v a b ∷ [], refl) in
      let len : length (t ++ node_of v a b ∷ []) ≡ suc (length t) = length-new t (node_of v a b) in
      record {
        kept = record { ordered = O'; extends = E; room = λ _. omega arith };
        inside = omega arith;
        is = rw (
          diagram_at-node (t ++ node_of v a b ∷ []) O' (length t) O.two (omega arith),
          at_new t (node_of v a b),
          diagram_at-grown t _ O E a pa,
          diagram_at-grown t _ O E b pb,
        );
      }

  put-after : After s t D (put s t v a b)
  unfolding or_append
  put-after = rw (put-differ s t v a b (λ e. o.2 (ap (diagram_at t) e))) (go (find t (node_of v a b)) (found t (node_of v a b)))
    where
      room? : ((k : ℕ) → 2 ≤ k → k < length t → at t k ≢ node_of v a b) → (c : Bool) → ltb (length t) s ≡ c
          → After s t D (cond c (placed (t ++ node_of v a b ∷ []) (length t)) (full t))
      room? new true e = new-made new (ltb-true (length t) s e)
      room? new false e = record { kept = kept_same s t O; no_room = λ h. let q : s ≤ length t = ltb-false (length t) s e in omega arith }

      go : (r : Option ℕ) → Found t (node_of v a b) r → After s t D (or_append s t (node_of v a b) r)
      go none new = room? new (ltb (length t) s) refl
      go (some m) f = record { kept = kept_same s t O; inside = f.1; is = rw (diagram_at-node t O m f.0 f.1, f.2) }

-- after the low side, the high side, then the node itself
module _ (s v : ℕ) (l h : Diagram) (pv : 1 ≤ v) (o : Reduced v 65 (node v l h)) where
  node-after : (t t₁ : List Node) (a : ℕ) → Made s t l t₁ a → (t₂ : List Node) (b : ℕ) → Made s t₁ h t₂ b →
      After s t (node v l h) (put s t₂ v a b)
  node-after t t₁ a A t₂ b B =
      let ea : diagram_at t₂ a ≡ l = diagram_at-grown t₁ t₂ A.kept.ordered B.kept.extends a A.inside ∙ A.is in
      let eb : diagram_at t₂ b ≡ h = B.is in
      let len : length t₁ ≤ length t₂ = extends-length t₁ t₂ B.kept.extends in
      after_kept s t t₂ (node v l h) (put s t₂ v a b) (kept_trans s t t₁ t₂ A.kept B.kept)
      (rw (ea, eb) at (put-after s t₂ B.kept.ordered v a b (omega (arith, A.inside)) B.inside pv (rw (ea, eb) o)))

  high_after : (t t₁ : List Node) (a : ℕ) → Made s t l t₁ a → (q : Placing) → After s t₁ h q →
      After s t (node v l h) (and_then q (λ t₂ b. put s t₂ v a b))
  unfolding and_then
  high_after t t₁ a A (full t₂) B = after_kept s t t₁ (node v l h) (full t₂) A.kept B
  high_after t t₁ a A (placed t₂ b) B = node-after t t₁ a A t₂ b B

  low-after : (t : List Node) (p : Placing) → After s t l p → ((t₁ : List Node) → Ordered t₁ → After s t₁ h (place s t₁ h))
      → After s t (node v l h) (and_then p (λ t₁ a. and_then (place s t₁ h) (λ t₂ b. put s t₂ v a b)))
  unfolding and_then
  low-after t (full t₁) A high = A
  low-after t (placed t₁ a) A high = high_after t t₁ a A (place s t₁ h) (high t₁ A.kept.ordered)

-- Placing keeps good order and gives the number of the diagram; old numbers keep their diagrams (`diagram_at-grown`).
pub place_after : (s : ℕ) (t : List Node) → Ordered t → (D : Diagram) → Reduced 1 65 D → After s t D (place s t D)
unfolding place
place_after s t O (leaf false) o = record { kept = kept_same s t O; inside = omega (arith, O.two); is = diagram_at-zero t }
place_after s t O (leaf true) o = record { kept = kept_same s t O; inside = omega (arith, O.two); is = diagram_at-one t }
place_after s t O (node v l h) o =
    low-after s v l h o.0 (omega arith, o.1, o.2, o.3, o.4) t (place s t l)
    (place_after s t O l (reduced-from 1 (suc v) 65 l (omega arith) o.3))
    (λ t₁ O₁. place_after s t₁ O₁ h (reduced-from 1 (suc v) 65 h (omega arith) o.4))

-- ---- a diagram that is there

put-there : (s : ℕ) (t : List Node) → Ordered t → (k : ℕ) → 2 ≤ k → k < length t → put s t (at t k).var (at t k).low (at t k).high
    ≡ placed t k
unfolding or_append
put-there s t O k a p = put-differ s t (at t k).var (at t k).low (at t k).high (O.fits k a p).differ
    ∙ go (find t (at t k)) (found t (at t k))
  where
    go : (r : Option ℕ) → Found t (at t k) r → or_append s t (at t k) r ≡ placed t k
    go none new = absurd (new k a p refl)
    go (some m) f = ap (placed t) (O.alike m k f.0 f.1 a p f.2)

there-step : (s : ℕ) (t : List Node) → Ordered t → (k : ℕ) → ((j : ℕ) → j < k → j < length t → place s t (diagram_at t j) ≡ placed t j)
    → Kind k → k < length t → place s t (diagram_at t k) ≡ placed t k
unfolding place
there-step s t O _ ih is_zero p = rw diagram_at-zero
there-step s t O _ ih is_one p = rw diagram_at-one
there-step s t O k ih (from-two a) p =
    let F : Fits t k (at t k) = O.fits k a p in
    rw (diagram_at-node t O k a p, ih (at t k).low F.low-less (omega arith), ih (at t k).high F.high-less (omega arith))
    (put-there s t O k a p)

-- Placing the diagram of a number that is there places nothing and gives that number.
pub place-there : (s : ℕ) (t : List Node) → Ordered t → (k : ℕ) → k < length t → place s t (diagram_at t k) ≡ placed t k
place-there s t O = strong (λ k. k < length t → place s t (diagram_at t k) ≡ placed t k) (λ k ih. there-step s t O k ih (kind k))

-- A node over two numbers that are there is the placing of the diagram over theirs.
pub put-place : (s : ℕ) (t : List Node) → Ordered t → (v l h : ℕ) → l < length t → h < length t
    → put s t v l h ≡ place s t (branch v (diagram_at t l) (diagram_at t h))
unfolding place
put-place s t O v l h p q = go (ℕ_discrete l h)
  where
    go : Dec (l ≡ h) → put s t v l h ≡ place s t (branch v (diagram_at t l) (diagram_at t h))
    go (yes e) = put_same s t v l h e ∙ sym (rw (branch_same v (diagram_at t l) (diagram_at t h) (ap (diagram_at t) e))
        (place-there s t O l p))
    go (no n) =
        rw (
          branch_differ v (diagram_at t l) (diagram_at t h) (λ e. n (diagram_at-injective t O l h p q e)),
          place-there s t O l p,
          place-there s t O h q,
        )
