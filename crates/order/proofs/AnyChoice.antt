-- Whether a propagation conflicts does not hang on which member with units each round takes, nor on the members' order; and members that
-- are added never take a conflict away. The idea: a conflict that can be reached can still be reached after a cofactor by any literals,
-- since they leave a taken member's units as they are, have set them already, or make the member 0. Assumes nothing.
use mathlib.Core.Path.{◌≡◌, refl, sym, ap₂, ◌∙◌, subst}
use mathlib.Core.Logic.{◌≢◌, ◌⊎◌, inl, inr}
use mathlib.Core.Bool.{Bool, true, false, ◌||◌}
use mathlib.Core.List.{List, [], ◌∷◌, map}
use Prim.Native.Nat.{ℕ, zero, suc, ◌≤◌}
use native.Mathlib.Omega.{arith}
use native.Mathlib.Decide.{ℕ_discrete}
use Rattle.meaning.specs.Diagram.{Diagram, leaf}
use Rattle.meaning.specs.Operations.{cofactor_literals, is_unit}
use Rattle.meaning.specs.Rules.{conflicts, has_unit, by_units}
use Rattle.meaning.proofs.Booleans.{t≢f, or-neither}
use Rattle.meaning.proofs.Pointwise.{literals-reduced}
use Rattle.meaning.proofs.PointwiseSteps.{literals-none}
use Rattle.meaning.proofs.Ends.{AllReduced, map-reduced}
use Rattle.order.specs.Choices.{Among, Contained, Propagates}
use Rattle.order.specs.Choices as way
use Rattle.order.proofs.Members.{among-map, within-map, map-cong, map-map}
use Rattle.order.proofs.Conflicts.{zero-conflicts, conflicts-within, conflicts-literals}
use Rattle.order.proofs.Literals.{then_true, then_false, literals-then, literals-set, units-set}

-- ---- a round after other literals

module _ (n : ℕ) (P N : ℕ → Bool) (u : Diagram) (ms : List Diagram) where
  abbrev left : Diagram
  left = cofactor_literals n P N u

  -- u's units first or the literals first: in the end the same
  both-orders : left ≢ leaf false → map (cofactor_literals n (then_true P N (λ v. is_unit n left v true))
      (then_false N (λ v. is_unit n left v false))) (by_units n u ms)
      ≡ by_units n left (map (cofactor_literals n P N) ms)
  unfolding by_units
  both-orders nonzero =
      map-map _ _ ms
      ∙ map-cong _ _ ms (λ f.
      literals-set (λ v. is_unit n u v true) (λ v. is_unit n u v false) (then_true P N (λ v. is_unit n left v true))
      (then_false N (λ v. is_unit n left v false)) n f (units-set n P N u nonzero)
      ∙ sym (literals-then P N (λ v. is_unit n left v true) (λ v. is_unit n left v false) n f))
      ∙ sym (map-map _ _ ms)

-- no unit among the variables 1 to w
no-units : (n w : ℕ) (f : Diagram) → has_unit n w f ≡ false → (v : ℕ) → 1 ≤ v → v ≤ w → (is_unit n f v true ≡ false)
    × (is_unit n f v false ≡ false)
unfolding has_unit
no-units n zero f e v lo hi = absurd (omega arith)
no-units n (suc w) f e v lo hi = go (λ x y. no-units n w f x v lo y)
    (or-neither (is_unit n f (suc w) true || is_unit n f (suc w) false) (has_unit n w f) e) (last v w hi)
  where
    last : (v w : ℕ) → v ≤ suc w → (v ≡ suc w) ⊎ (v ≤ w)
    last v w h = elim (ℕ_discrete v (suc w)) [ yes q ↦ inl q | no q ↦ inr (omega arith) ]

    go : (has_unit n w f ≡ false → v ≤ w → (is_unit n f v true ≡ false) × (is_unit n f v false ≡ false))
        → ((is_unit n f (suc w) true || is_unit n f (suc w) false) ≡ false) × (has_unit n w f ≡ false) → (v ≡ suc w) ⊎ (v ≤ w) →
        (is_unit n f v true ≡ false) × (is_unit n f v false ≡ false)
    go ih r (inl q) = rw q (or-neither (is_unit n f (suc w) true) (is_unit n f (suc w) false) r.0)
    go ih r (inr q) = ih r.1 q

-- a round by no units changes nothing
idle : (n : ℕ) (u : Diagram) (ms : List Diagram) → has_unit n n u ≡ false → AllReduced n ms → by_units n u ms ≡ ms
unfolding by_units
idle n u [] e o = refl
idle n u (f ∷ fs) e o = ap₂ ◌∷◌ (literals-none n _ _ 1 f (omega arith) o.0 (no-units n n u e)) (idle n u fs e o.1)

-- ---- a conflict that can be reached can be reached after any cofactor by literals

-- Some choice of members comes to a conflict.
abbrev pub ComesToConflict : ℕ → List Diagram → Type 0
ComesToConflict n ms = (rounds : ℕ) × Propagates n ms rounds true

comes-literals : {n : ℕ} {ms : List Diagram} {rounds : ℕ} {b : Bool} → Propagates n ms rounds b → b ≡ true → (P N : ℕ → Bool) →
    ComesToConflict n (map (cofactor_literals n P N) ms)
comes-literals {n} {ms} (way.conflict c) t P N = (0, way.conflict (conflicts-literals n P N ms c))
comes-literals {n} {ms} (way.round u c i h rest) t P N = go (conflicts n after) refl (has_unit n n left') refl
    (λ P N. comes-literals rest t P N)
  where
    left' : Diagram
    left' = cofactor_literals n P N u

    after : List Diagram
    after = map (cofactor_literals n P N) ms

    nonzero : conflicts n after ≡ false → left' ≢ leaf false
    nonzero c z = t≢f (sym (zero-conflicts n after (subst (λ (x : Diagram). Among x after) z (among-map (cofactor_literals n P N) ms u i)))
        ∙ c)

    later : conflicts n after ≡ false → ((P N : ℕ → Bool) → ComesToConflict n (map (cofactor_literals n P N) (by_units n u ms))) →
        ComesToConflict n (by_units n left' after)
    later c ih = subst (ComesToConflict n) (both-orders n P N u ms (nonzero c))
        (ih (then_true P N (λ v. is_unit n left' v true)) (then_false N (λ v. is_unit n left' v false)))

    go : (x : Bool) → conflicts n after ≡ x → (y : Bool) → has_unit n n left' ≡ y →
        ((P N : ℕ → Bool) → ComesToConflict n (map (cofactor_literals n P N) (by_units n u ms))) → ComesToConflict n after
    go true c y h ih = (0, way.conflict c)
    go false c true h ih = let (k, R) = later c ih in (suc k, way.round left' c (among-map (cofactor_literals n P N) ms u i) h R)
    go false c false h ih = subst (ComesToConflict n) (idle n left' after h (map-reduced n _ ms (literals-reduced n P N))) (later c ih)
comes-literals (way.none c h) t P N = t≢f (sym t)

-- ---- the theorem

within_units : (n : ℕ) (u : Diagram) (ms ms' : List Diagram) → Contained ms ms'
    → Contained (map (cofactor_literals n (λ v. is_unit n u v true) (λ v. is_unit n u v false)) ms) (by_units n u ms')
unfolding by_units
within_units n u ms ms' w = within-map _ ms ms' w

-- A conflict comes by one choice of members: it comes by every choice, in whatever order, and with whatever further members.
pub conflict-comes : {n : ℕ} {ms ms' : List Diagram} {rounds rounds' : ℕ} {b b' : Bool} → Propagates n ms rounds b → b ≡ true →
    Contained ms ms' → Propagates n ms' rounds' b' → b' ≡ true
conflict-comes R t w (way.conflict c) = refl
conflict-comes {n} {ms} {ms'} R t w (way.round u c i h rest) =
    conflict-comes {ms = map (cofactor_literals n (λ v. is_unit n u v true) (λ v. is_unit n u v false)) ms} (comes-literals R t _ _).1 refl
    (within_units n u ms ms' w) rest
conflict-comes {n} {ms} {ms'} R t w (way.none c h) = go R t
  where
    go : {rounds : ℕ} {b : Bool} → Propagates n ms rounds b → b ≡ true → false ≡ true
    go (way.conflict d) t = sym c ∙ conflicts-within n ms ms' w d
    go (way.round u d i e rest) t = sym (h u (w u i)) ∙ e
    go (way.none d e) t = t
