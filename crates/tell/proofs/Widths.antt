-- The causes over the header's n variables are those over 64, which the code works with. Assumes nothing.
use mathlib.Core.Path.{◌≡◌, refl, sym, ap, ◌∙◌}
use mathlib.Core.Logic.{◌≢◌}
use mathlib.Core.Bool.{Bool, true, false}
use mathlib.Core.List.{List, [], ◌∷◌}
use mathlib.Core.Option.{none}
use Prim.Native.Nat.{ℕ, suc, ◌≤◌}
use Rattle.meaning.specs.Diagram.{Diagram, leaf, same}
use Rattle.meaning.specs.Reduced.{Reduced}
use Rattle.meaning.specs.Operations.{Literal, negation, cofactor_literals}
use Rattle.meaning.specs.Rules.{Line, by_diagram, rup, pr_turns}
use Rattle.meaning.proofs.Booleans.{t≢f}
use Rattle.meaning.proofs.Units.{eq-same}
use Rattle.meaning.proofs.Ends.{AllReduced, by_diagram-reduced}
use Rattle.meaning.proofs.LineWidths.{by-negation, rup-width}
use Rattle.meaning.proofs.PointwiseSteps.{literals-width}
use Rattle.judge.proofs.Fits.{constant-turn, turn-shown}
use Rattle.causes.specs.Causes.{fixed, fixes, rup_cause, turn_members}
use Rattle.why.proofs.Widths.{fixes-width}
use Rattle.tell.specs.Failed.{by_not}

module _ (n : ℕ) (most : n ≤ 64) where
  -- the members by the negation
  pub by_width : (g : Diagram) → Reduced 1 (suc n) g → g ≢ leaf true → (ms : List Diagram) → AllReduced n ms → by_not g ms
      ≡ by_diagram n (negation n g) ms
  by_width g red ne ms o = by-negation n 64 most g red ne ms o

  pub fixed-width : (g : Diagram) → Reduced 1 (suc n) g → g ≢ leaf true → (ms : List Diagram) → AllReduced n ms → fixes 64 (by_not g ms)
      ≡ fixes n (by_diagram n (negation n g) ms)
  fixed-width g red ne ms o = ap (fixes 64) (by_width g red ne ms o) ∙ fixes-width n 64 most (by_diagram n (negation n g) ms)
      (by_diagram-reduced n (negation n g) ms)

  -- THEOREM: the cause of a RUP line.
  pub rup-cause-width : (g : Diagram) → Reduced 1 (suc n) g → g ≢ leaf true → (ms : List Diagram) → AllReduced n ms → rup_cause n ms g
      ≡ fixed (fixes 64 (by_not g ms)) none
  unfolding rup_cause
  rup-cause-width g red ne ms o = ap (λ (r : List (List Literal)). fixed r none) (sym (fixed-width g red ne ms o))

  module _ (P N : ℕ → Bool) (ms : List Diagram) (o : AllReduced n ms) (f : Diagram) (red : Reduced 1 (suc n) f)
      (h-red : Reduced 1 (suc n) (cofactor_literals n P N f)) where
    h-same : cofactor_literals 64 P N f ≡ cofactor_literals n P N f
    h-same = literals-width n 64 most P N f red

    not-leaf : same (cofactor_literals n P N f) (leaf true) ≡ false → cofactor_literals n P N f ≢ leaf true
    not-leaf e q = t≢f (sym (eq-same (cofactor_literals n P N f) (leaf true) q) ∙ e)

    -- a member's turn
    pub turn-width : (pr_turns 64 P N ms (f ∷ [])).shown ≡ (pr_turns n P N ms (f ∷ [])).shown
    turn-width = go (same (cofactor_literals n P N f) (leaf true)) refl
      where
        go : (b : Bool) → same (cofactor_literals n P N f) (leaf true) ≡ b → (pr_turns 64 P N ms (f ∷ [])).shown
            ≡ (pr_turns n P N ms (f ∷ [])).shown
        go true e =
            ap (λ (L : Line). L.shown) (constant-turn 64 P N ms f (ap (λ (h : Diagram). same h (leaf true)) h-same ∙ e))
            ∙ sym (ap (λ (L : Line). L.shown) (constant-turn n P N ms f e))
        go false e =
            turn-shown 64 P N ms f (ap (λ (h : Diagram). same h (leaf true)) h-same ∙ e)
            ∙ ap (λ (h : Diagram). (rup 64 ms h).shown) h-same
            ∙ ap (λ (L : Line). L.shown) (rup-width n 64 most (cofactor_literals n P N f) h-red (not-leaf e) ms o)
            ∙ sym (turn-shown n P N ms f e)

    -- and the literals that it fixes
    pub turn-fixes-width : same (cofactor_literals n P N f) (leaf true) ≡ false → fixes 64 (by_not (cofactor_literals 64 P N f) ms)
        ≡ fixes n (turn_members n P N ms f)
    turn-fixes-width e = ap (λ (h : Diagram). fixes 64 (by_not h ms)) h-same
        ∙ fixed-width (cofactor_literals n P N f) h-red (not-leaf e) ms o
