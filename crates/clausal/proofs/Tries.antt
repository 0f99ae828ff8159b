-- The two tries of a DRAT clause accept exactly what RUP and RAT over clauses accept. The idea: the first is RUP, the second is RAT on the
-- first literal. Assumes nothing.
use mathlib.Core.Path.{◌≡◌}
use mathlib.Core.Logic.{◌⊎◌, inl, inr, ◌↔◌}
use mathlib.Core.Bool.{Bool, true, ◌||◌}
use mathlib.Core.List.{List, [], ◌∷◌, map}
use Prim.Native.Nat.{ℕ}
use Rattle.meaning.specs.Operations.{clause}
use Rattle.meaning.specs.Rules.{rup, pr}
use Rattle.meaning.proofs.Booleans.{or_cases, or_left, or_right}
use Rattle.meaning.specs.Literals.{OfVariables}
use Rattle.clausal.specs.Drat.{Plain, AllPlain, Rup, Rat, Accepted}
use Rattle.clausal.specs.Literals.{Clause}
use Rattle.clausal.specs.Tries.{makes_true, makes_false, witness}
use Rattle.clausal.specs.Shown.{shown_by}
use Rattle.clausal.proofs.Literals.{has_here, AllOfVariables}
use Rattle.clausal.proofs.FirstTry.{rup-only, rup-all}
use Rattle.clausal.proofs.SecondTry.{rat-only, rat-all}

-- THEOREM: for clauses and members without both signs of a variable the two tries accept exactly what RUP and RAT over clauses accept.
pub two-tries : (n : ℕ) (F : List Clause) → AllOfVariables n F → AllPlain F → (c : Clause) → OfVariables n c → Plain c →
    (shown_by n (map (clause n) F) c ≡ true) ↔ Accepted F c
unfolding shown_by
two-tries n F within plains [] w plain = (rup-only n [] w plain F within, rup-all n [] w plain F within)
two-tries n F within plains (p ∷ ls) w plain = (
  (λ e. or_cases first second e (λ x. inl (rup-only n (p ∷ ls) w plain F within x))
      (λ x. inr (rat-only n (p ∷ ls) w plain p (has_here p ls) F within plains x))),
  go,
)
  where
    first : Bool
    first = (rup n (map (clause n) F) (clause n (p ∷ ls))).shown

    second : Bool
    second = (pr n (makes_true (witness p (p ∷ ls))) (makes_false (witness p (p ∷ ls))) (map (clause n) F) (clause n (p ∷ ls))).shown

    go : Rup F (p ∷ ls) ⊎ Rat F p (p ∷ ls) → (first || second) ≡ true
    go (inl r) = or_left first second (rup-all n (p ∷ ls) w plain F within r)
    go (inr r) = or_right first second (rat-all n (p ∷ ls) w plain p (has_here p ls) F within plains r)
