-- The cause of a PR line looks at the members' diagrams and marks, and at the witness's variables 1 to n, alone. Member by member. Assumes
-- nothing.
use mathlib.Core.Path.{◌≡◌, refl, sym, ap, ap₂, ◌∙◌}
use mathlib.Core.Bool.{Bool, true, not, ◌&&◌, cond}
use mathlib.Core.List.{List, [], ◌∷◌}
use mathlib.Core.Option.{some}
use Prim.Native.Nat.{ℕ, zero, suc, ◌+◌, ◌≤◌, ◌<◌}
use native.Mathlib.Omega.{arith}
use lib.ListN.{length, get_or}
use Rattle.meaning.specs.Diagram.{Diagram, leaf, same}
use Rattle.meaning.specs.Operations.{negation, cofactor_literals}
use Rattle.meaning.specs.Rules.{Line, unit_prop, by_diagram, after_turn, pr_turns}
use Rattle.meaning.proofs.PointwiseSteps.{literals-cong}
use Rattle.verdict.specs.Steps.{State, diagram_in, is_live, live_members}
use Rattle.causes.specs.Causes.{Cause, fixed, fixes, unshown, pr_cause}

-- A member's cause, where it is live and not shown.
abbrev here : ℕ → List Diagram → ℕ → Bool → Bool → Diagram → Cause → Cause
here n ms i live shown h later = cond (live && not shown) (fixed (fixes n (by_diagram n (negation n h) ms)) (some i)) later

module _ (n : ℕ) (P N P' N' : ℕ → Bool) (p : (v : ℕ) → 1 ≤ v → v ≤ n → P v ≡ P' v) (q : (v : ℕ) → 1 ≤ v → v ≤ n → N v ≡ N' v) (A B : State)
    (many : ℕ) (live : (i : ℕ) → is_live A i ≡ is_live B i)
    (kept : (i : ℕ) → i < many → diagram_in A (get_or A.members i 0) ≡ diagram_in B (get_or B.members i 0)) where
  under : (f f' : Diagram) → f ≡ f' → cofactor_literals n P N f ≡ cofactor_literals n P' N' f'
  under f f' e = literals-cong n P N P' N' f p q ∙ ap (cofactor_literals n P' N') e

  module _ (ms : List Diagram) where
    turn-same : (f f' : Diagram) → f ≡ f' → pr_turns n P N ms (f ∷ []) ≡ pr_turns n P' N' ms (f' ∷ [])
    unfolding pr_turns
    turn-same f f' e = ap turn (under f f' e)
      where
        rest : Line
        rest = pr_turns n P N ms []

        turn : Diagram → Line
        turn h =
            cond (same h (leaf true)) rest
            (after_turn (unit_prop n (by_diagram n (negation n h) ms)) (h ∷ negation n h ∷ by_diagram n (negation n h) ms) rest)

    next-same : (k i : ℕ) → i < many → unshown k n P N ms A (suc i) ≡ unshown k n P' N' ms B (suc i)
        → unshown (suc k) n P N ms A i ≡ unshown (suc k) n P' N' ms B i
    unfolding unshown
    next-same k i h later =
        let f = diagram_in A (get_or A.members i 0) in
        let f' = diagram_in B (get_or B.members i 0) in
        ap₂ (λ (a s : Bool). here n ms i a s (cofactor_literals n P N f) (unshown k n P N ms A (suc i))) (live i)
        (ap (λ (l : Line). l.shown) (turn-same f f' (kept i h)))
        ∙ ap₂ (λ (d : Diagram) (x : Cause). here n ms i (is_live B i) (pr_turns n P' N' ms (f' ∷ [])).shown d x) (under f f' (kept i h))
        later

    none-same : (i : ℕ) → unshown zero n P N ms A i ≡ unshown zero n P' N' ms B i
    unfolding unshown
    none-same i = refl

    unshown-same : (k i : ℕ) → i + k ≤ many → unshown k n P N ms A i ≡ unshown k n P' N' ms B i
    unshown-same zero i h = none-same i
    unshown-same (suc k) i h = next-same k i (omega (arith, h)) (unshown-same k (suc i) (omega (arith, h)))

  -- THEOREM: the cause of a PR line over two such states.
  pub pr-cause-same : (D E : Diagram) → D ≡ E → live_members A ≡ live_members B → length A.members ≡ many → length B.members ≡ many
      → pr_cause n P N A D ≡ pr_cause n P' N' B E
  unfolding pr_cause
  pr-cause-same D E e l a b =
      ap₂ (λ (m : ℕ) (ms : List Diagram). unshown m n P N ms A 0) a
      (ap₂ (λ (d : Diagram) (ds : List Diagram). by_diagram n (negation n d) ds) e l)
      ∙ unshown-same (by_diagram n (negation n E) (live_members B)) many 0 (omega arith)
      ∙ ap (λ (m : ℕ). unshown m n P' N' (by_diagram n (negation n E) (live_members B)) B 0) (sym b)
