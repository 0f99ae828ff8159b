-- The cofactor by the negation of a clause is the cofactor by the negations of its literals. The idea: the nearest assignment that makes
-- all literals of the clause false differs from the given one at the clause's variables alone. Assumes nothing.
use mathlib.Core.Path.{◌≡◌, refl, sym, ap, ◌∙◌}
use mathlib.Core.Logic.{◌≢◌}
use mathlib.Core.Bool.{Bool, true, false, not, cond, beq}
use Prim.Native.Nat.{ℕ, zero, suc, ◌-◌, ◌^◌, ◌≤◌}
use native.Mathlib.Omega.{arith}
use lib.ListN.{length}
use Rattle.meaning.specs.Diagram.{Assignment, holds, Diagram, value}
use Rattle.meaning.specs.Operations.{Literal, literal_value, clause_value, clause, cofactor_literals, cofactor, sum, distance, nearest}
use Rattle.meaning.specs.Operations as meaning
use Rattle.meaning.proofs.Booleans.{t≢f, eq-beq}
use Rattle.meaning.proofs.Canonical.{unique}
use Rattle.meaning.proofs.Pointwise.{forced-length, clause-value, negation-value, literals-value, literals-reduced}
use Rattle.meaning.proofs.Nearest.{Nearest, nearest-unique, nearest-is}
use Rattle.meaning.proofs.Cofactor.{cofactor-value, cofactor-reduced}
use Rattle.meaning.specs.Literals.{OfVariables}
use Rattle.clausal.specs.Drat.{Plain, negation}
use Rattle.clausal.specs.Literals.{Clause, literal, has}
use Rattle.clausal.specs.Tries.{makes_true, makes_false}
use Rattle.clausal.proofs.Literals.{negations, has-negation, negation-has, negations-plain, has_within}
use Rattle.clausal.proofs.Under.{forced_by, forced-holds, false-there, clause-some, clause-none}

sum-le : (n : ℕ) (f g : ℕ → ℕ) → ((i : ℕ) → 1 ≤ i → i ≤ n → f i ≤ g i) → sum n f ≤ sum n g
unfolding sum
sum-le zero f g h = omega arith
sum-le (suc n) f g h = omega (arith, sum-le n f g (λ i p q. h i p (omega arith)), h (suc n) (omega arith) (omega arith))

module _ (n : ℕ) (c : Clause) (w : OfVariables n c) (plain : Plain c) (a : Assignment) (len : length a ≡ n) where
  abbrev pub made : Assignment
  made = forced_by (negations c) a

  made-long : length made ≡ n
  made-long = forced-length (makes_true (negations c)) (makes_false (negations c)) 1 a ∙ len

  abbrev cube : Diagram
  cube = meaning.negation n (clause n c)

  cube-value : (b : Assignment) → length b ≡ n → value cube b ≡ not (clause_value c b)
  cube-value b lb = negation-value n b lb (clause n c) ∙ ap not (clause-value n b lb c)

  made-satisfies : value cube made ≡ true
  made-satisfies =
      cube-value made made-long
      ∙ ap not (clause-none c made (λ l h. let r = has_within n c l w h in
      false-there n (negations c) (negations-plain c plain) a len l r.0 r.1 (has-negation c l h)))

  -- an assignment that satisfies it has made's value at each of its variables
  agrees : (b : Assignment) → value cube b ≡ true → length b ≡ n → (v : ℕ) (s : Bool) → has (negations c) (literal v s) ≡ true → holds b v
      ≡ s
  unfolding literal_value
  agrees b e lb v s h = go (holds b v) s refl (negation-has c (literal v s) h)
    where
      none : (l : Literal) → has c l ≡ true → literal_value l b ≡ true → ⊥
      none l hl t = t≢f (sym e ∙ cube-value b lb ∙ ap not (clause-some c b l hl t))

      go : (x s : Bool) → holds b v ≡ x → has c (literal v (not s)) ≡ true → x ≡ s
      go true true p q = refl
      go false false p q = refl
      go true false p q = absurd (none (literal v true) q (eq-beq (holds b v) true p))
      go false true p q = absurd (none (literal v false) q (eq-beq (holds b v) false p))

  made-nearest : Nearest n (value cube) a made
  unfolding distance
  made-nearest = record {
    long = made-long;
    satisfies = made-satisfies;
    least = λ b lb e. sum-le n _ _ (λ i lo hi. near b lb e i lo hi);
  }
    where
      near : (b : Assignment) → length b ≡ n → value cube b ≡ true → (i : ℕ) → 1 ≤ i → i ≤ n
          → cond (beq (holds a i) (holds made i)) 0 (2 ^ (n - i)) ≤ cond (beq (holds a i) (holds b i)) 0 (2 ^ (n - i))
      near b lb e i lo hi =
          rw (forced-holds (negations c) a i lo (omega arith))
          (go (makes_true (negations c) i) (makes_false (negations c) i) (λ p. agrees b e lb i true p) (λ p. agrees b e lb i false p)
          (holds a i) (holds b i) refl)
        where
          go : (p q : Bool) → (p ≡ true → holds b i ≡ true) → (q ≡ true → holds b i ≡ false) → (x y : Bool) → holds b i ≡ y
              → cond (beq x (cond p true (cond q false x))) 0 (2 ^ (n - i)) ≤ cond (beq x y) 0 (2 ^ (n - i))
          go true q f g x y e = let z : y ≡ true = sym e ∙ f refl in rw z (omega arith)
          go false true f g x y e = let z : y ≡ false = sym e ∙ g refl in rw z (omega arith)
          go false false f g true y e = omega arith
          go false false f g false y e = omega arith

  nearest-made : nearest n (value cube) a ≡ made
  nearest-made = nearest-unique n (value cube) a (nearest n (value cube) a) made len
      (nearest-is n (value cube) a (made, made-long, made-satisfies)) made-nearest

pub cube-cofactor : (n : ℕ) (c : Clause) → OfVariables n c → Plain c → (f : Diagram)
    → cofactor n f (meaning.negation n (clause n c)) ≡ cofactor_literals n (makes_true (negations c)) (makes_false (negations c)) f
cube-cofactor n c w plain f =
    unique n 1 (suc n) _ _ (omega arith) (cofactor-reduced n f (meaning.negation n (clause n c)))
    (literals-reduced n (makes_true (negations c)) (makes_false (negations c)) f) λ a len.
    cofactor-value n f (meaning.negation n (clause n c)) a len ∙ ap (value f) (nearest-made n c w plain a len)
    ∙ sym (literals-value n a len (makes_true (negations c)) (makes_false (negations c)) f)
