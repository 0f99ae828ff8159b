-- What is placed, and what a line reaches, is the same in another table that has as many places as were taken. The idea: room is asked in
-- one place, where a
-- node is appended. Assumes nothing.
use mathlib.Core.Path.{◌≡◌, refl, sym, ap, ap₂, ◌∙◌, subst}
use mathlib.Core.Bool.{Bool, true, false, cond}
use mathlib.Core.List.{List, [], ◌∷◌, ◌++◌}
use mathlib.Core.Option.{Option, none, some}
use Prim.Native.Nat.{ℕ, ◌≤◌, max}
use native.Mathlib.Omega.{arith}
use lib.ListN.{length}
use lib.Dec.{eqb, ltb}
use borrow.Author.Tests.{lt-ltb}
use Rattle.meaning.specs.Diagram.{Diagram, leaf, node}
use Rattle.meaning.specs.Rules.{Line}
use Rattle.meaning.proofs.Booleans.{t≢f, and_both}
use Rattle.table.specs.Nodes.{Node, node_of, Placing, full, placed, find, or_append, put, and_then, place}
use Rattle.table.specs.Making.{Room, short, all, after_placing, placed_all, reached, then_reach, turns_reach, kept_reach, line_reach}
use Rattle.table.proofs.Growth.{length-new}
use Rattle.table.proofs.PlacedAll.{nodes_after, count-greatest, turns-peak}
use Rattle.exactness.proofs.Passing.{place-longer}

-- ---- placing only adds

put-longer : (s : ℕ) (t : List Node) (v l h : ℕ) → length t ≤ length (nodes_after (put s t v l h))
unfolding put or_append
put-longer s t v l h = go (eqb l h) (find t (node_of v l h))
  where
    appended : (c : Bool) → length t ≤ length (nodes_after (cond c (placed (t ++ node_of v l h ∷ []) (length t)) (full t)))
    appended true = omega (arith, length-new t (node_of v l h))
    appended false = omega arith

    go : (b : Bool) (o : Option ℕ) → length t ≤ length (nodes_after (cond b (placed t l) (or_append s t (node_of v l h) o)))
    go true o = omega arith
    go false none = appended (ltb (length t) s)
    go false (some k) = omega arith

then-longer : (m : ℕ) (p : Placing) (rest : List Node → ℕ → Placing) → m ≤ length (nodes_after p)
    → ((t : List Node) (k : ℕ) → length t ≤ length (nodes_after (rest t k))) → m ≤ length (nodes_after (and_then p rest))
unfolding and_then
then-longer m (full t) rest h more = h
then-longer m (placed t k) rest h more = omega (arith, more t k)

module _ (s s' : ℕ) where
  -- The second placing is the first, where s' places are enough for it.
  abbrev Alike : Placing → Placing → Type 0
  Alike (full t) q = Unit {0}
  Alike (placed t k) q = length t ≤ s' → q ≡ placed t k

  append-alike : (t : List Node) (x : Node) (o : Option ℕ) → Alike (or_append s t x o) (or_append s' t x o)
  unfolding or_append
  append-alike t x (some k) = λ p. refl
  append-alike t x none = go (ltb (length t) s)
    where
      go : (c : Bool) → Alike (cond c (placed (t ++ x ∷ []) (length t)) (full t))
          (cond (ltb (length t) s') (placed (t ++ x ∷ []) (length t)) (full t))
      go true = λ p. rw (lt-ltb (length t) s' (omega (arith, length-new t x)))
      go false = tt

  put-alike : (t : List Node) (v l h : ℕ) → Alike (put s t v l h) (put s' t v l h)
  unfolding put
  put-alike t v l h = go (eqb l h)
    where
      x : Node
      x = node_of v l h

      go : (c : Bool) → Alike (cond c (placed t l) (or_append s t x (find t x))) (cond c (placed t l) (or_append s' t x (find t x)))
      go true = λ p. refl
      go false = append-alike t x (find t x)

  then-alike : (p q : Placing) (f g : List Node → ℕ → Placing) → Alike p q → ((t : List Node) (k : ℕ) → Alike (f t k) (g t k))
      → ((t : List Node) (k : ℕ) → length t ≤ length (nodes_after (f t k))) → Alike (and_then p f) (and_then q g)
  unfolding and_then
  then-alike (full t) q f g a h longer = tt
  then-alike (placed t k) q f g a h longer = go (f t k) (h t k) (longer t k)
    where
      go : (x : Placing) → Alike x (g t k) → length t ≤ length (nodes_after x) → Alike x (and_then q g)
      go (full u) b more = tt
      go (placed u j) b more = λ p. ap (λ (y : Placing). and_then y g) (a (omega arith)) ∙ b p

  place-alike : (t : List Node) (D : Diagram) → Alike (place s t D) (place s' t D)
  unfolding place
  place-alike t (leaf false) = λ p. refl
  place-alike t (leaf true) = λ p. refl
  place-alike t (node v l h) =
      then-alike (place s t l) (place s' t l) _ _ (place-alike t l)
      (λ t₁ a. then-alike (place s t₁ h) (place s' t₁ h) _ _ (place-alike t₁ h) (λ t₂ b. put-alike t₂ v a b)
      (λ t₂ b. put-longer s t₂ v a b))
      (λ t₁ a. then-longer (length t₁) (place s t₁ h) (λ t₂ b. put s t₂ v a b) (place-longer s t₁ h) (λ t₂ b. put-longer s t₂ v a b))

  -- the same of a placing that is known
  pub put_same : (t : List Node) (v l h : ℕ) (t₁ : List Node) (k : ℕ) → put s t v l h ≡ placed t₁ k → length t₁ ≤ s' → put s' t v l h
      ≡ placed t₁ k
  put_same t v l h t₁ k e = subst (λ (p : Placing). Alike p (put s' t v l h)) e (put-alike t v l h)

  pub place_same : (t : List Node) (D : Diagram) (t₁ : List Node) (k : ℕ) → place s t D ≡ placed t₁ k → length t₁ ≤ s' → place s' t D
      ≡ placed t₁ k
  place_same t D t₁ k e = subst (λ (p : Placing). Alike p (place s' t D)) e (place-alike t D)

  -- ---- lines

  abbrev RoomAlike : Room → Room → Type 0
  RoomAlike (short t) q = Unit {0}
  RoomAlike (all t) q = length t ≤ s' → q ≡ all t

  placed_alike : (Ds : List Diagram) (t : List Node) → RoomAlike (placed_all s t Ds) (placed_all s' t Ds)
  unfolding placed_all
  placed_alike [] t = λ p. refl
  placed_alike (D ∷ Ds) t = go (place s t D) (place-alike t D) (λ t₁. placed_alike Ds t₁)
    where
      more : (t₁ : List Node) (k : ℕ) (r : Room) → RoomAlike r (placed_all s' t₁ Ds) → length t₁ ≤ (reached r).peak
          → (length t₁ ≤ s' → place s' t D ≡ placed t₁ k)
          → RoomAlike r (after_placing (place s' t D) (λ t₂. placed_all s' t₂ Ds))
      more t₁ k (short u) b longer a = tt
      more t₁ k (all u) b longer a = λ p. ap (λ (x : Placing). after_placing x (λ t₂. placed_all s' t₂ Ds)) (a (omega arith)) ∙ b p

      go : (p : Placing) → Alike p (place s' t D) → ((t₁ : List Node) → RoomAlike (placed_all s t₁ Ds) (placed_all s' t₁ Ds))
          → RoomAlike (after_placing p (λ t₁. placed_all s t₁ Ds)) (after_placing (place s' t D) (λ t₁. placed_all s' t₁ Ds))
      go (full t₁) a rec = tt
      go (placed t₁ k) a rec = more t₁ k (placed_all s t₁ Ds) (rec t₁) (count-greatest s t₁ Ds) a

  reached-alike : (p q : Room) → RoomAlike p q → (reached p).fits ≡ true → (reached p).peak ≤ s' → reached p ≡ reached q
  reached-alike (short t) q a e p = t≢f (sym e)
  reached-alike (all t) q a e p = ap reached (sym (a p))

  turns-alike : (turns : List (List Diagram)) (t : List Node) → (turns_reach s turns t).fits ≡ true → (turns_reach s turns t).peak ≤ s'
      → turns_reach s turns t ≡ turns_reach s' turns t
  unfolding turns_reach
  turns-alike [] t e p = refl
  turns-alike (made ∷ rest) t e p =
      let (a, b) = and_both (reached (placed_all s t made)).fits (turns_reach s rest t).fits e in
      let both : max (reached (placed_all s t made)).peak (turns_reach s rest t).peak ≤ s' =
      subst (λ (c : Bool). cond c (max (reached (placed_all s t made)).peak (turns_reach s rest t).peak)
      (reached (placed_all s t made)).peak ≤ s') a p in
      ap₂ then_reach (reached-alike (placed_all s t made) (placed_all s' t made) (placed_alike made t) a (omega (arith, both)))
      (turns-alike rest t b (omega (arith, both)))

  -- What a line reaches is the same, where it fits and s' places are enough.
  pub line_same : (t : List Node) (line : Line) → (line_reach s t line).fits ≡ true → (line_reach s t line).peak ≤ s' → line_reach s t line
      ≡ line_reach s' t line
  unfolding line_reach
  line_same t line e p = go (placed_all s t line.kept) (placed_alike line.kept t) e p
    where
      go : (x : Room) → RoomAlike x (placed_all s' t line.kept) → (kept_reach s line.turns x).fits ≡ true →
          (kept_reach s line.turns x).peak ≤ s'
          → kept_reach s line.turns x ≡ kept_reach s' line.turns (placed_all s' t line.kept)
      go (short u) a e p = t≢f (sym e)
      go (all u) a e p =
          turns-alike line.turns u e p ∙ ap (kept_reach s' line.turns) (sym (a (omega (arith, turns-peak s line.turns u, p))))
