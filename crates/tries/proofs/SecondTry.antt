-- The second try with the witness of the code's two words is the one with the witness of the definition. The idea: PR asks a witness for
-- the variables 1 to n alone. Assumes nothing.
use mathlib.Core.Path.{◌≡◌, refl, ap, ap₂, ◌∙◌}
use mathlib.Core.Bool.{Bool, true, cond}
use mathlib.Core.List.{List, [], ◌∷◌}
use Prim.Native.Nat.{ℕ, ◌≤◌}
use native.Mathlib.Omega.{arith}
use Rattle.meaning.specs.Diagram.{Diagram, leaf, same}
use Rattle.meaning.specs.Operations.{Literal, clause, negation}
use Rattle.meaning.specs.Rules.{Line, unit_prop, by_diagram, base, after_turn, pr_turns, pr}
use Rattle.meaning.specs.Words.{in_word}
use Rattle.meaning.proofs.PointwiseSteps.{literals-cong}
use Rattle.meaning.specs.Literals.{OfVariables}
use Rattle.words.specs.declared.Literals.{Literals}
use Rattle.words.specs.Sets.{literals_of}
use Rattle.clausal.specs.Tries.{makes_true, makes_false, witness}
use Rattle.tries.specs.Words.{witness_words}
use Rattle.tries.proofs.Setting.{witness-true, witness-false}

module _ (n : ℕ) (P N P' N' : ℕ → Bool) (p : (v : ℕ) → 1 ≤ v → v ≤ n → P v ≡ P' v) (q : (v : ℕ) → 1 ≤ v → v ≤ n → N v ≡ N' v) where
  turns_same : (ms' fs : List Diagram) → pr_turns n P N ms' fs ≡ pr_turns n P' N' ms' fs
  unfolding pr_turns
  turns_same ms' [] = refl
  turns_same ms' (f ∷ fs) = ap₂ turn (literals-cong n P N P' N' f p q) (turns_same ms' fs)
    where
      turn : Diagram → Line → Line
      turn h rest =
          cond (same h (leaf true)) rest (after_turn (unit_prop n (by_diagram n (negation n h) ms'))
          (h ∷ negation n h ∷ by_diagram n (negation n h) ms') rest)

  pub pr-same : (ms : List Diagram) (g : Diagram) → pr n P N ms g ≡ pr n P' N' ms g
  unfolding pr
  pr-same ms g =
      ap (λ (turned : Line). record { shown = turned.shown; rounds = turned.rounds; kept = base n ms g; turns = turned.turns })
      (turns_same (by_diagram n (negation n g) ms) ms)

-- THEOREM: PR by the words that the code makes is PR by the clause's witness.
pub second-same : (n : ℕ) → n ≤ 64 → (p : Literal) (ls : List Literal) → OfVariables n (p ∷ ls) → (ms : List Diagram) → (u : Literals)
    → u ≡ witness_words (literals_of (p ∷ ls)) p.variable p.positive
    → pr n (in_word u.positive) (in_word u.negative) ms (clause n (p ∷ ls))
    ≡ pr n (makes_true (witness p (p ∷ ls))) (makes_false (witness p (p ∷ ls))) ms (clause n (p ∷ ls))
second-same n narrow p ls w ms u is =
    pr-same n (in_word u.positive) (in_word u.negative) (makes_true (witness p (p ∷ ls))) (makes_false (witness p (p ∷ ls)))
    (λ v lo hi. ap (λ (u : Literals). in_word u.positive v) is ∙ witness-true n (p ∷ ls) w narrow p.variable w.0
    (omega (arith, w.1)) v lo (omega arith) p.positive)
    (λ v lo hi. ap (λ (u : Literals). in_word u.negative v) is ∙ witness-false n (p ∷ ls) w narrow p.variable w.0
    (omega (arith, w.1)) v lo (omega arith) p.positive)
    ms (clause n (p ∷ ls))
