-- Diagrams placed in their order: the first and the rest, one list after another, as outcomes tell it; and that nothing is lost by placing.
-- The idea: each placing goes on with what the one before it left. Assumes nothing.
use Rattle.std.proofs.Common.{◌≡◌, ℕ, ◌≤◌, max, Bool, true, false, cond, not, eqb, ltb, List, [], ◌∷◌, ◌++◌, length, sym, refl, ap, ◌∙◌}
use Rattle.std.proofs.Common.{ap₂, arith, length-append}
use mathlib.Core.Option.{Option, none, some}
use Rattle.meaning.specs.Diagram.{Diagram, leaf, node}
use Rattle.meaning.proofs.Booleans.{t≢f, and-true}
use Rattle.table.specs.Nodes.{Node, node_of, Placing, full, placed, find, or_append, put, and_then, place}
use Rattle.table.specs.Indexed.{nodes_of, Outcome, written}
use Rattle.table.specs.Making.{Room, short, all, after_placing, placed_all, Reach, reach, reached, then_reach, turns_reach, kept_reach}
use Rattle.table.specs.Lists.{room}
use Rattle.table.proofs.Written.{nodes-indexed}

-- ---- one diagram, told by its outcome

after-full : (s : ℕ) (p : Placing) (rest : List Node → Room) → (written s p).full ≡ true → after_placing p rest
    ≡ short (nodes_of (written s p).table)
unfolding written
after-full s (full t) rest e = ap short (sym (nodes-indexed s t))
after-full s (placed t k) rest e = t≢f (sym e)

after-placed : (s : ℕ) (p : Placing) (rest : List Node → Room) → (written s p).full ≡ false → after_placing p rest
    ≡ rest (nodes_of (written s p).table)
unfolding written
after-placed s (full t) rest e = t≢f e
after-placed s (placed t k) rest e = ap rest (sym (nodes-indexed s t))

module _ (s : ℕ) (t : List Node) (D : Diagram) (Ds : List Diagram) (o : Outcome) (e : o ≡ written s (place s t D)) where
  pub first-full : o.full ≡ true → placed_all s t (D ∷ Ds) ≡ short (nodes_of o.table)
  unfolding placed_all
  first-full f =
      after-full s (place s t D) (λ t₁. placed_all s t₁ Ds) (sym (ap (λ (u : Outcome). u.full) e) ∙ f)
      ∙ ap (λ (u : Outcome). short (nodes_of u.table)) (sym e)

  pub first-placed : o.full ≡ false → placed_all s t (D ∷ Ds) ≡ placed_all s (nodes_of o.table) Ds
  unfolding placed_all
  first-placed f =
      after-placed s (place s t D) (λ t₁. placed_all s t₁ Ds) (sym (ap (λ (u : Outcome). u.full) e) ∙ f)
      ∙ ap (λ (u : Outcome). placed_all s (nodes_of u.table) Ds) (sym e)

-- ---- one list after another

pub placed-short : (s : ℕ) (t : List Node) (Ds Es : List Diagram) (t' : List Node) → placed_all s t Ds ≡ short t' →
    placed_all s t (Ds ++ Es)
    ≡ short t'
unfolding placed_all
placed-short s t [] Es t' e = cc
placed-short s t (D ∷ Ds) Es t' e = go (place s t D) (λ t₁ q. placed-short s t₁ Ds Es t' q) e
  where
    go : (p : Placing) → ((t₁ : List Node) → placed_all s t₁ Ds ≡ short t' → placed_all s t₁ (Ds ++ Es) ≡ short t') →
        after_placing p (λ t₁. placed_all s t₁ Ds) ≡ short t'
        → after_placing p (λ t₁. placed_all s t₁ (Ds ++ Es)) ≡ short t'
    go (full t₁) ih q = q
    go (placed t₁ k) ih q = ih t₁ q

pub placed-then : (s : ℕ) (t : List Node) (Ds Es : List Diagram) (t' : List Node) → placed_all s t Ds ≡ all t' → placed_all s t (Ds ++ Es)
    ≡ placed_all s t' Es
unfolding placed_all
placed-then s t [] Es t' e = let q : t ≡ t' = cc in ap (λ (u : List Node). placed_all s u Es) q
placed-then s t (D ∷ Ds) Es t' e = go (place s t D) (λ t₁ q. placed-then s t₁ Ds Es t' q) e
  where
    go : (p : Placing) → ((t₁ : List Node) → placed_all s t₁ Ds ≡ all t' → placed_all s t₁ (Ds ++ Es) ≡ placed_all s t' Es) →
        after_placing p (λ t₁. placed_all s t₁ Ds) ≡ all t'
        → after_placing p (λ t₁. placed_all s t₁ (Ds ++ Es)) ≡ placed_all s t' Es
    go (full t₁) ih q = cc
    go (placed t₁ k) ih q = ih t₁ q

-- ---- no node is lost

abbrev pub nodes_after : Placing → List Node
nodes_after (full t) = t
nodes_after (placed t k) = t

put-more : (s : ℕ) (t : List Node) (v l h : ℕ) → length t ≤ length (nodes_after (put s t v l h))
unfolding put or_append
put-more s t v l h = go (eqb l h) (find t (node_of v l h)) (ltb (length t) s)
  where
    x : Node
    x = node_of v l h

    go : (b : Bool) (o : Option ℕ) (c : Bool) → length t ≤ length (nodes_after (cond b (placed t l) (or_append s t x o)))
    go true o c = omega arith
    go false (some k) c = omega arith
    go false none c = appended (ltb (length t) s)
      where
        appended : (c : Bool) → length t ≤ length (nodes_after (cond c (placed (t ++ x ∷ []) (length t)) (full t)))
        appended true = rw length-append (omega arith)
        appended false = omega arith

then-more : (m : ℕ) (p : Placing) (next : List Node → ℕ → Placing) → m ≤ length (nodes_after p) →
    ((t : List Node) (k : ℕ) → length t ≤ length (nodes_after (next t k)))
    → m ≤ length (nodes_after (and_then p next))
unfolding and_then nodes_after
then-more m (full t) next h more = h
then-more m (placed t k) next h more = omega (arith, more t k)

place-more : (s : ℕ) (t : List Node) (D : Diagram) → length t ≤ length (nodes_after (place s t D))
unfolding place nodes_after
place-more s t (leaf false) = omega arith
place-more s t (leaf true) = omega arith
place-more s t (node v l h) =
    then-more (length t) (place s t l) _ (place-more s t l)
    (λ t₁ a. then-more (length t₁) (place s t₁ h) _ (place-more s t₁ h) (λ t₂ b. put-more s t₂ v a b))

-- LAW: the count after placing is the greatest that there was.
pub count-greatest : (s : ℕ) (t : List Node) (Ds : List Diagram) → length t ≤ (reached (placed_all s t Ds)).peak
unfolding placed_all nodes_after
count-greatest s t [] = omega arith
count-greatest s t (D ∷ Ds) = go (place s t D) (place-more s t D) (λ t₁. count-greatest s t₁ Ds)
  where
    go : (p : Placing) → length t ≤ length (nodes_after p) → ((t₁ : List Node) → length t₁ ≤ (reached (placed_all s t₁ Ds)).peak)
        → length t ≤ (reached (after_placing p (λ t₁. placed_all s t₁ Ds))).peak
    go (full t₁) h more = h
    go (placed t₁ k) h more = omega (arith, more t₁)

-- ---- what is reached

pub room-reached : (b : Bool) (t : List Node) → reached (room b t) ≡ reach (not b) (length t)
room-reached true t = refl
room-reached false t = refl

raised : (b : Bool) (x y : ℕ) → y ≤ x → cond b (max x y) x ≡ x
raised true x y h = omega arith
raised false x y h = refl

-- nothing more is made
then-nothing : (r : Reach) (m : ℕ) → m ≤ r.peak → then_reach r (reach true m) ≡ r
then-nothing r m h = ap₂ reach (and-true r.fits) (raised r.fits r.peak m h)

-- nothing was made before
pub after_nothing : (m : ℕ) (r : Reach) → m ≤ r.peak → then_reach (reach true m) r ≡ r
after_nothing m r h = ap (reach r.fits) (omega arith)

pub turns-peak : (s : ℕ) (turns : List (List Diagram)) (t : List Node) → length t ≤ (turns_reach s turns t).peak
unfolding turns_reach
turns-peak s [] t = omega arith
turns-peak s (made ∷ later) t = go (reached (placed_all s t made)) (count-greatest s t made)
  where
    go : (r : Reach) → length t ≤ r.peak → length t ≤ (then_reach r (turns_reach s later t)).peak
    go r h = choose r.fits
      where
        choose : (b : Bool) → length t ≤ cond b (max r.peak (turns_reach s later t).peak) r.peak
        choose true = omega arith
        choose false = h

-- one turn alone
pub one-reach : (s : ℕ) (made : List Diagram) (t : List Node) → turns_reach s (made ∷ []) t ≡ reached (placed_all s t made)
unfolding turns_reach
one-reach s made t = then-nothing (reached (placed_all s t made)) (length t) (count-greatest s t made)

module _ (s : ℕ) (t : List Node) (Ds Es : List Diagram) where
  -- the second list is placed over what the first left
  pub both-reach : (first : Room) → placed_all s t Ds ≡ first → reached (placed_all s t (Ds ++ Es)) ≡ kept_reach s (Es ∷ []) first
  both-reach (short t') e = ap reached (placed-short s t Ds Es t' e)
  both-reach (all t') e = ap reached (placed-then s t Ds Es t' e) ∙ sym (one-reach s Es t')
