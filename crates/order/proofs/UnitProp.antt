-- UnitProp, which takes the member of lowest place, conflicts or not as every other choice of members does; and each way of taking members
-- ends. The idea: its own choice is one of the ways, so that `conflict-comes` speaks of it; a round takes a variable out of all members,
-- whichever it takes. Assumes nothing.
use mathlib.Core.Path.{◌≡◌, refl, sym, ap, ◌∙◌, subst}
use mathlib.Core.Logic.{◌⊎◌, inl, inr}
use mathlib.Core.Bool.{Bool, true, false, cond}
use mathlib.Core.List.{List, [], ◌∷◌}
use mathlib.Core.Option.{Option, none, some}
use Prim.Native.Nat.{ℕ, zero, suc, ◌+◌, ◌≤◌, ◌<◌}
use native.Mathlib.Omega.{arith}
use Rattle.meaning.specs.Diagram.{Diagram}
use Rattle.meaning.specs.Reduced.{Reduced}
use Rattle.meaning.specs.Rules.{conflicts, has_unit, first_with_unit, by_units, Propagation, round, still, taking, propagate, unit_prop}
use Rattle.meaning.proofs.Booleans.{t≢f, both_ways, not-true}
use Rattle.meaning.proofs.Units.{variable_in}
use Rattle.meaning.proofs.Ends.{AllReduced, by_units-reduced, count, in_use, fewer, more-rounds}
use Rattle.order.specs.Choices.{Among, Contained, Propagates}
use Rattle.order.specs.Choices as way
use Rattle.order.proofs.Members.{any-within, within-map}
use Rattle.order.proofs.Conflicts.{conflicts-within}
use Rattle.order.proofs.AnyChoice.{conflict-comes}

-- ---- every way ends

in-use-same : (n : ℕ) (ms ms' : List Diagram) → Contained ms ms' → Contained ms' ms → in_use n ms ≡ in_use n ms'
unfolding in_use
in-use-same n ms ms' w w' = λ i. count n (λ v. both_ways _ _ (any-within (variable_in v) ms ms' w) (any-within (variable_in v) ms' ms w') i)

among-reduced : (n : ℕ) (ms : List Diagram) (u : Diagram) → AllReduced n ms → Among u ms → Reduced 1 (suc n) u
among-reduced n [] u o i = absurd i
among-reduced n (f ∷ fs) u o (inl q) = rw q o.0
among-reduced n (f ∷ fs) u o (inr i) = among-reduced n fs u o.1 i

module _ (n : ℕ) (ms : List Diagram) (u : Diagram) (c : conflicts n ms ≡ false) (o : AllReduced n ms) (i : Among u ms)
    (h : has_unit n n u ≡ true) where
  -- the member that is taken, put before the others
  front : Contained (u ∷ ms) ms
  front f (inl q) = subst (λ (x : Diagram). Among x ms) (sym q) i
  front f (inr j) = j

  first : first_with_unit n (u ∷ ms) ≡ some u
  unfolding first_with_unit
  first = rw h

  after : in_use n (by_units n u ms) ≡ in_use n (by_units n u (u ∷ ms))
  unfolding by_units
  after = in-use-same n _ _ (within-map _ ms (u ∷ ms) (λ f j. inr j)) (within-map _ (u ∷ ms) ms front)

  -- A round leaves fewer variables in the members, whichever member it takes.
  pub round-fewer : in_use n (by_units n u ms) < in_use n ms
  round-fewer =
      let quiet : conflicts n (u ∷ ms) ≡ false = not-true _ (λ e. t≢f (sym (conflicts-within n (u ∷ ms) ms front e) ∙ c)) in
      let same : in_use n (u ∷ ms) ≡ in_use n ms = in-use-same n (u ∷ ms) ms front (λ f j. inr j) in
      let least : in_use n (by_units n u (u ∷ ms)) < in_use n (u ∷ ms) = fewer n (u ∷ ms) u quiet (among-reduced n ms u o i, o) first in
      omega (arith, after)

-- ---- UnitProp's own way

first-none : (n : ℕ) (ms : List Diagram) → first_with_unit n ms ≡ none → (u : Diagram) → Among u ms → has_unit n n u ≡ false
unfolding first_with_unit
first-none n [] e u i = absurd i
first-none n (f ∷ fs) e u i = go (has_unit n n f) refl e i (first-none n fs)
  where
    go : (b : Bool) → has_unit n n f ≡ b → cond b (some f) (first_with_unit n fs) ≡ none → (u ≡ f) ⊎ Among u fs
        → (first_with_unit n fs ≡ none → (u : Diagram) → Among u fs → has_unit n n u ≡ false) → has_unit n n u ≡ false
    go true h e i ih = cc
    go false h e (inl q) ih = ap (has_unit n n) q ∙ h
    go false h e (inr i) ih = ih e u i

first-among : (n : ℕ) (ms : List Diagram) (u : Diagram) → first_with_unit n ms ≡ some u → Among u ms × (has_unit n n u ≡ true)
unfolding first_with_unit
first-among n [] u e = let z : ◌≡◌ {A = ℕ} 0 1 = cc in absurd (omega arith)
first-among n (f ∷ fs) u e = go (has_unit n n f) refl e (first-among n fs u)
  where
    go : (b : Bool) → has_unit n n f ≡ b → cond b (some f) (first_with_unit n fs) ≡ some u →
        (first_with_unit n fs ≡ some u → Among u fs × (has_unit n n u ≡ true))
        → Among u (f ∷ fs) × (has_unit n n u ≡ true)
    go true h e ih = let q : f ≡ u = cc in (inl (sym q), sym (ap (has_unit n n) q) ∙ h)
    go false h e ih = let (i, x) = ih e in (inr i, x)

-- What a propagation comes to is one of the ways.
abbrev IsWay : ℕ → List Diagram → Propagation → Type 0
IsWay n ms p = Propagates n ms p.rounds p.conflict

propagate-way : (most n : ℕ) (ms : List Diagram) → AllReduced n ms → in_use n ms ≤ most → IsWay n ms (propagate most n ms)
unfolding propagate round
propagate-way zero n ms o p = go (conflicts n ms) refl (first_with_unit n ms) refl
  where
    go : (b : Bool) → conflicts n ms ≡ b → (x : Option Diagram) → first_with_unit n ms ≡ x → Propagates n ms 0 b
    go true c x e = way.conflict c
    go false c none e = way.none c (first-none n ms e)
    go false c (some u) e = absurd (omega (arith, fewer n ms u c o e))
propagate-way (suc most) n ms o p = go (conflicts n ms) refl (first_with_unit n ms) refl
    (λ u h. propagate-way most n (by_units n u ms) (by_units-reduced n u ms) h)
  where
    go : (b : Bool) → conflicts n ms ≡ b → (x : Option Diagram) → first_with_unit n ms ≡ x
        → ((u : Diagram) → in_use n (by_units n u ms) ≤ most → IsWay n (by_units n u ms) (propagate most n (by_units n u ms)))
        → IsWay n ms (cond b (still true) (taking x (λ u. round (by_units n u ms) (propagate most n (by_units n u ms)))))
    go true c x e ih = way.conflict c
    go false c none e ih = way.none c (first-none n ms e)
    go false c (some u) e ih = let (i, h) = first-among n ms u e in way.round u c i h (ih u (omega (arith, fewer n ms u c o e)))

-- UnitProp's own choice, the member of lowest place, is one of the ways.
pub own-way : (n : ℕ) (ms : List Diagram) → AllReduced n ms → Propagates n ms (unit_prop n ms).rounds (unit_prop n ms).conflict
unfolding unit_prop
own-way n ms o = subst (IsWay n ms) (more-rounds n (in_use n ms) ms o) (propagate-way (n + in_use n ms) n ms o (omega arith))

-- ---- choice, order, more members

-- Whichever member with units each round takes, the propagation conflicts or not as UnitProp does.
pub any-choice : (n : ℕ) (ms : List Diagram) (rounds : ℕ) (b : Bool) → AllReduced n ms → Propagates n ms rounds b → b
    ≡ (unit_prop n ms).conflict
any-choice n ms rounds b o R = both_ways b (unit_prop n ms).conflict (λ t. conflict-comes R t (λ f i. i) (own-way n ms o))
    (λ t. conflict-comes (own-way n ms o) t (λ f i. i) R)

-- Members that are added never take a conflict away.
pub more-members : (n : ℕ) (ms ms' : List Diagram) → AllReduced n ms → AllReduced n ms' → Contained ms ms' → (unit_prop n ms).conflict
    ≡ true → (unit_prop n ms').conflict ≡ true
more-members n ms ms' o o' w t = conflict-comes (own-way n ms o) t w (own-way n ms' o')
