-- A conflict stays where members are added, where they are ordered otherwise, and where all are cofactored by literals. The idea: it is a
-- member 0, or two that are negations, and the cofactors of these are so too. Assumes nothing.
use mathlib.Core.Path.{◌≡◌, refl, sym, subst}
use mathlib.Core.Bool.{Bool, true, false}
use mathlib.Core.List.{List, map}
use Prim.Native.Nat.{ℕ}
use Rattle.meaning.specs.Diagram.{Diagram, leaf, same}
use Rattle.meaning.specs.Operations.{negation, cofactor_literals}
use Rattle.meaning.specs.Rules.{any, conflicts}
use Rattle.meaning.proofs.Booleans.{or_cases, or_left, or_right}
use Rattle.meaning.proofs.PointwiseSteps.{literals-leaf}
use Rattle.meaning.proofs.Units.{same-eq, eq-same}
use Rattle.order.specs.Choices.{Among, Contained}
use Rattle.order.proofs.Members.{any-among, among-any, among-map}
use Rattle.order.proofs.Literals.{literals-negation}

-- "(a) a member is 0 or the negation of another", wherever these stand.
data Clash (n : ℕ) (ms : List Diagram) : Type 0 where
  zero-member : Among (leaf false) ms → Clash n ms
  negations : (g : Diagram) → Among g ms → Among (negation n g) ms → Clash n ms

clash : (n : ℕ) (ms : List Diagram) → conflicts n ms ≡ true → Clash n ms
unfolding conflicts
clash n ms e =
    or_cases (any (same (leaf false)) ms) (any (λ f. any (λ g. same f (negation n g)) ms) ms) e
    (λ x. let (f, i, is) = any-among (same (leaf false)) ms x in zero-member
    (subst (λ (h : Diagram). Among h ms) (sym (same-eq (leaf false) f is)) i))
    (λ x.
    let (f, i, found) = any-among (λ f. any (λ g. same f (negation n g)) ms) ms x in
    let (g, j, is) = any-among (λ g. same f (negation n g)) ms found in
    negations g j (subst (λ (h : Diagram). Among h ms) (same-eq f (negation n g) is) i))

clashes : (n : ℕ) (ms : List Diagram) → Clash n ms → conflicts n ms ≡ true
unfolding conflicts
clashes n ms (zero-member i) =
    or_left (any (same (leaf false)) ms) (any (λ f. any (λ g. same f (negation n g)) ms) ms)
    (among-any (same (leaf false)) ms (leaf false) i (eq-same (leaf false) (leaf false) refl))
clashes n ms (negations g i j) =
    or_right (any (same (leaf false)) ms) (any (λ f. any (λ g. same f (negation n g)) ms) ms)
    (among-any (λ f. any (λ g. same f (negation n g)) ms) ms (negation n g) j
    (among-any (λ h. same (negation n g) (negation n h)) ms g i (eq-same (negation n g) (negation n g) refl)))

pub zero-conflicts : (n : ℕ) (ms : List Diagram) → Among (leaf false) ms → conflicts n ms ≡ true
zero-conflicts n ms i = clashes n ms (zero-member i)

-- more members keep a conflict
pub conflicts-within : (n : ℕ) (ms ms' : List Diagram) → Contained ms ms' → conflicts n ms ≡ true → conflicts n ms' ≡ true
conflicts-within n ms ms' w e = clashes n ms' (go (clash n ms e))
  where
    go : Clash n ms → Clash n ms'
    go (zero-member i) = zero-member (w (leaf false) i)
    go (negations g i j) = negations g (w g i) (w (negation n g) j)

-- a cofactor by literals keeps a conflict
pub conflicts-literals : (n : ℕ) (P N : ℕ → Bool) (ms : List Diagram) → conflicts n ms ≡ true →
    conflicts n (map (cofactor_literals n P N) ms) ≡ true
conflicts-literals n P N ms e = clashes n after (go (clash n ms e))
  where
    after : List Diagram
    after = map (cofactor_literals n P N) ms

    go : Clash n ms → Clash n after
    go (zero-member i) = zero-member (subst (λ (h : Diagram). Among h after) (literals-leaf n P N false)
        (among-map (cofactor_literals n P N) ms (leaf false) i))
    go (negations g i j) =
        negations (cofactor_literals n P N g) (among-map (cofactor_literals n P N) ms g i)
        (subst (λ (h : Diagram). Among h after) (literals-negation n P N g) (among-map (cofactor_literals n P N) ms (negation n g) j))
