-- The literals that `fixes` lists are those of the rounds of a propagation that ends without a conflict, and there are as many lists as
-- rounds. The idea: `fixes` follows UnitProp; n rounds are enough, so that none is left out. Assumes nothing.
use mathlib.Core.Path.{◌≡◌, refl, ap, subst}
use mathlib.Core.Bool.{Bool, true, false, cond}
use mathlib.Core.List.{List, [], ◌∷◌}
use mathlib.Core.Option.{Option, none, some}
use Prim.Native.Nat.{ℕ, zero, suc, ◌+◌}
use native.Mathlib.Omega.{arith}
use lib.ListN.{length}
use Rattle.meaning.specs.Diagram.{Diagram}
use Rattle.meaning.specs.Rules.{conflicts, first_with_unit, by_units, Propagation, round, still, taking, propagate, unit_prop}
use Rattle.meaning.proofs.Booleans.{t≢f}
use Rattle.meaning.proofs.Ends.{AllReduced, more-rounds}
use Rattle.meaning.specs.Rules.{units_to}
use Rattle.causes.specs.Causes.{taking_fixes, fixes_within, fixes}
use Rattle.causes.specs.Shows.{Fixed, rests, goes_on}

-- A propagation that more rounds would not lengthen and that ends without a conflict.
within-so : (most n : ℕ) (ms : List Diagram) → (propagate (suc most) n ms).rounds ≡ (propagate most n ms).rounds →
    (propagate most n ms).conflict ≡ false
    → Fixed n ms (fixes_within most n ms)
unfolding propagate fixes_within round
within-so zero n ms stays none-met = go (first_with_unit n ms) refl (conflicts n ms) refl stays none-met
  where
    go : (x : Option Diagram) → first_with_unit n ms ≡ x → (b : Bool) → conflicts n ms ≡ b
        → (cond b (still true) (taking x (λ u. round (by_units n u ms) (propagate zero n (by_units n u ms))))).rounds ≡ 0 → b ≡ false →
        Fixed n ms []
    go x e true c q f = t≢f f
    go none e false c q f = rests c e
    go (some u) e false c q f = absurd (omega arith)
within-so (suc most) n ms stays none-met = go (conflicts n ms) refl (first_with_unit n ms) refl stays none-met
    (λ u. within-so most n (by_units n u ms))
  where
    step : ℕ → Bool → Option Diagram → Propagation
    step k b x = cond b (still true) (taking x (λ u. round (by_units n u ms) (propagate k n (by_units n u ms))))

    go : (b : Bool) → conflicts n ms ≡ b → (x : Option Diagram) → first_with_unit n ms ≡ x
        → (step (suc most) b x).rounds ≡ (step most b x).rounds → (step most b x).conflict ≡ false
        → ((u : Diagram) → (propagate (suc most) n (by_units n u ms)).rounds ≡ (propagate most n (by_units n u ms)).rounds
        → (propagate most n (by_units n u ms)).conflict ≡ false → Fixed n (by_units n u ms) (fixes_within most n (by_units n u ms)))
        → Fixed n ms (cond b [] (taking_fixes x (λ u. units_to n n u ∷ fixes_within most n (by_units n u ms))))
    go true c x e q f rec = t≢f f
    go false c none e q f rec = rests c e
    go false c (some u) e q f rec = goes_on c e (rec u (omega (arith, q)) f)

-- THEOREM: where UnitProp does not conflict, `fixes` lists U of the member that each of its rounds takes, round after round.
pub fixes-so : (n : ℕ) (ms : List Diagram) → AllReduced n ms → (unit_prop n ms).conflict ≡ false → Fixed n ms (fixes n ms)
unfolding unit_prop fixes
fixes-so n ms o none-met =
    let e : n + 1 ≡ suc n = omega arith in
    within-so n n ms (ap (λ (p : Propagation). p.rounds) (subst (λ (k : ℕ). propagate k n ms ≡ propagate n n ms) e (more-rounds n 1 ms o)))
    none-met

within-rounds : (most n : ℕ) (ms : List Diagram) → length (fixes_within most n ms) ≡ (propagate most n ms).rounds
unfolding propagate fixes_within round
within-rounds zero n ms = refl
within-rounds (suc most) n ms = go (conflicts n ms) (first_with_unit n ms) (λ u. within-rounds most n (by_units n u ms))
  where
    go : (b : Bool) (x : Option Diagram) → ((u : Diagram) → length (fixes_within most n (by_units n u ms))
        ≡ (propagate most n (by_units n u ms)).rounds)
        → length (cond b [] (taking_fixes x (λ u. units_to n n u ∷ fixes_within most n (by_units n u ms))))
        ≡ (cond b (still true) (taking x (λ u. round (by_units n u ms) (propagate most n (by_units n u ms))))).rounds
    go true x rec = refl
    go false none rec = refl
    go false (some u) rec = ap suc (rec u)

-- THEOREM: a list a round.
pub fixes-rounds : (n : ℕ) (ms : List Diagram) → length (fixes n ms) ≡ (unit_prop n ms).rounds
unfolding unit_prop fixes
fixes-rounds n ms = within-rounds n n ms
