-- RUP and PR lines do not depend on the number of variables: any n that no variable in use exceeds gives the same line, its rounds and
-- what it makes included. The idea: each operation of the rules has this law, and no cofactor is by 0. Assumes nothing.
use mathlib.Core.Path.{◌≡◌, refl, sym, ap, ap₂, ◌∙◌}
use mathlib.Core.Logic.{◌≢◌}
use mathlib.Core.Bool.{Bool, true, false, cond}
use mathlib.Core.List.{List, [], ◌∷◌}
use Prim.Native.Nat.{ℕ, suc, ◌≤◌}
use Rattle.meaning.specs.Diagram.{Diagram, leaf, same}
use Rattle.meaning.specs.Reduced.{Reduced}
use Rattle.meaning.specs.Operations.{negation, cofactor_literals}
use Rattle.meaning.specs.Rules.{Propagation, Line, unit_prop, by_diagram, base, rup, after_turn, pr_turns, witnessed, pr}
use Rattle.meaning.proofs.Booleans.{t≢f}
use Rattle.meaning.proofs.Pointwise.{negation-reduced, literals-reduced}
use Rattle.meaning.proofs.PointwiseSteps.{negation-leaf, negation-twice, negation-width, literals-width}
use Rattle.meaning.proofs.Units.{eq-same}
use Rattle.meaning.proofs.Cofactor.{cofactor-reduced}
use Rattle.meaning.proofs.CofactorSteps.{cofactor-width}
use Rattle.meaning.proofs.Ends.{AllReduced, map-reduced}
use Rattle.meaning.proofs.Widths.{unit_prop-width}

-- The negation of what is not 1 is not 0.
pub negation-some : (m : ℕ) (g : Diagram) → Reduced 1 (suc m) g → g ≢ leaf true → negation m g ≢ leaf false
negation-some m g o ne e = ne (sym (negation-twice m g o) ∙ ap (negation m) e ∙ negation-leaf m false)

module _ (m n : ℕ) (more : m ≤ n) where
  by_diagram-width : (h : Diagram) → Reduced 1 (suc m) h → h ≢ leaf false → (ms : List Diagram) → AllReduced m ms → by_diagram n h ms
      ≡ by_diagram m h ms
  by_diagram-width h oh nz [] o = refl
  by_diagram-width h oh nz (f ∷ fs) o = ap₂ ◌∷◌ (cofactor-width m n f h more o.0 oh nz) (by_diagram-width h oh nz fs o.1)

  -- The members by not-g, and UnitProp of them.
  module _ (g : Diagram) (og : Reduced 1 (suc m) g) (ng : g ≢ leaf true) (ms : List Diagram) (o : AllReduced m ms) where
    pub by-negation : by_diagram n (negation n g) ms ≡ by_diagram m (negation m g) ms
    by-negation =
        ap (λ (h : Diagram). by_diagram n h ms) (negation-width m n more g og)
        ∙ by_diagram-width (negation m g) (negation-reduced m g) (negation-some m g og ng) ms o

    propagated : unit_prop n (by_diagram n (negation n g) ms) ≡ unit_prop m (by_diagram m (negation m g) ms)
    propagated = ap (unit_prop n) by-negation ∙ unit_prop-width m n more (by_diagram m (negation m g) ms)
        (map-reduced m _ ms (λ f. cofactor-reduced m f (negation m g)))

    pub base-width : base n ms g ≡ base m ms g
    base-width = ap₂ ◌∷◌ (negation-width m n more g og) by-negation

    pub rup-width : rup n ms g ≡ rup m ms g
    unfolding rup
    rup-width = rw (propagated, base-width)

  turn-width : (P N : ℕ → Bool) (ms' : List Diagram) → AllReduced m ms' → (f : Diagram) → Reduced 1 (suc m) f → (fs : List Diagram)
      → pr_turns n P N ms' fs ≡ pr_turns m P N ms' fs → pr_turns n P N ms' (f ∷ fs) ≡ pr_turns m P N ms' (f ∷ fs)
  unfolding pr_turns
  turn-width P N ms' o' f of fs ih =
      ap₂ (λ (g : Diagram) (rest : Line). cond (same g (leaf true)) rest
      (after_turn (unit_prop n (by_diagram n (negation n g) ms')) (g ∷ negation n g ∷ by_diagram n (negation n g) ms') rest))
      (literals-width m n more P N f of) ih ∙ go (same h (leaf true)) refl
    where
      h : Diagram
      h = cofactor_literals m P N f

      turn : ℕ → Line
      turn k =
          after_turn (unit_prop k (by_diagram k (negation k h) ms')) (h ∷ negation k h ∷ by_diagram k (negation k h) ms')
          (pr_turns m P N ms' fs)

      go : (b : Bool) → same h (leaf true) ≡ b → cond b (pr_turns m P N ms' fs) (turn n) ≡ cond b (pr_turns m P N ms' fs) (turn m)
      go true e = refl
      go false e =
          let oh : Reduced 1 (suc m) h = literals-reduced m P N f in
          let ne : h ≢ leaf true = λ q. t≢f (sym (eq-same h (leaf true) q) ∙ e) in
          ap₂ (λ (p : Propagation) (made : List Diagram). after_turn p (h ∷ made) (pr_turns m P N ms' fs)) (propagated h oh ne ms' o')
          (base-width h oh ne ms' o')

  turns-width : (P N : ℕ → Bool) (ms' : List Diagram) → AllReduced m ms' → (fs : List Diagram) → AllReduced m fs → pr_turns n P N ms' fs
      ≡ pr_turns m P N ms' fs
  unfolding pr_turns
  turns-width P N ms' o' [] o = refl
  turns-width P N ms' o' (f ∷ fs) o = turn-width P N ms' o' f o.0 fs (turns-width P N ms' o' fs o.1)

  pub witnessed-width : (P N : ℕ → Bool) (g : Diagram) → Reduced 1 (suc m) g → witnessed n P N g ≡ witnessed m P N g
  unfolding witnessed
  witnessed-width P N g og = rw (literals-width m n more P N g og)

  pub pr-width : (P N : ℕ → Bool) (ms : List Diagram) → AllReduced m ms → (g : Diagram) → Reduced 1 (suc m) g → g ≢ leaf true →
      pr n P N ms g ≡ pr m P N ms g
  unfolding pr
  pr-width P N ms o g og ng =
      rw (
        by-negation g og ng ms o,
        negation-width m n more g og,
        turns-width P N (by_diagram m (negation m g) ms) (map-reduced m _ ms (λ f. cofactor-reduced m f (negation m g))) ms o,
      )
